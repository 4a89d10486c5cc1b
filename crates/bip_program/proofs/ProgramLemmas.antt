-- The program as the library takes it, and what is read of words that it parsed.
use Rattle.std.proofs.Common.{◌≡◌, ◌∷◌, ◌++◌, ◌||◌, ◌∙◌, List, [], Option, Some, None, true, ap}
use Rattle.std.proofs.Common.{ap₂, false, option_map, refl, rules, subst, sym}
use Rattle.std.proofs.Math.Seq.{append_snoc}
use Rattle.std.proofs.lemmas.List.{append-nil}
use Rattle.std.specs.Borrow.{Bor}
use Rattle.std.specs.Box.{box_value}
use Rattle.std.specs.Prelude.{Box}
use Rattle.clap.specs.Simple.{new_app, new_shape}
use Rattle.clap.specs.Words.{AddsArg, AddsInTurn, App, HasKind, HasMatchesOf, Row}
use Rattle.clap.specs.Words.{Rule, Shape, Text, app_of, fault_of, first_of, first_value, found_of}
use Rattle.clap.specs.Words.{is_simple, is_simple_and_free, matches_of, one_of, one_text, rows_of}
use Rattle.clap.specs.Words.{subcommand_name_of, subcommand_of, subcommand_rows, subcommand_rows_of}
use Rattle.clap.specs.Words.{all_of, matched_of, raw_values, with_rule}
use Rattle.clap.specs.declared.builder.arg.Arg.{Arg}
use Rattle.clap.specs.declared.builder.command.Command.{Command}
use Rattle.clap.specs.declared.builder.command.Command.TheViews.{out-Command}
use Rattle.clap.specs.declared.error.Error.{Error}
use Rattle.clap.specs.declared.parser.matches.ArgMatches.{ArgMatches}
use Rattle.clap.specs.declared.parser.matches.ArgMatches.TheViews.{out-ArgMatches, out-SubCommand}
use Rattle.clap.specs.declared.parser.matches.SubCommand.{SubCommand}
use Rattle.clap.proofs.OnLiterals.{clap_on_literals}
use Rattle.clap.proofs.WalkLemmas.{first_value-rows, one_text-rows, raw_values-rows}
use Rattle.bip_program.specs.Programs.{HasRule, HasShape, HaveRules, AreChoices, IsNoParse, IsParse}
use Rattle.bip_program.specs.Programs.{names_in, parsed_of, program}
use Rattle.bip_program.specs.declared.programs.Choices.{Choices}

-- a command with texts alone
pub bare_shape : (name : Text) (new about last : Command) (a b : Option (Bor Text))
    → app_of new ≡ new_app name → (out-Command new).has_globals ≡ false
    → out-Command about ≡ record (out-Command new) { about = a }
    → out-Command last ≡ record (out-Command about) { after_help = b }
    → HasShape (new_shape name) last
bare_shape name new about last a b app local told ended = search rules

-- a command with one more argument
pub has_shape : (old new : Command) (argument : Arg) (shape : Shape) (rule : Rule)
    → HasShape shape old → HasRule rule argument
    → AddsArg old argument new → HasShape (record shape { rules = shape.rules ++ rule ∷ [] }) new
has_shape old new argument shape rule has is adds =
    (adds.shape is.1 ∙ ap₂ with_rule has.0 is.0, adds.globals ∙ ap₂ (λ a b. a || b) has.1 is.1)

-- a command with arguments, one after another
pub have_rules : (rules : List Rule) (arguments : List Arg) (old new : Command) (shape : Shape)
    → HasShape shape old → HaveRules rules arguments → AddsInTurn AddsArg old arguments new
    → HasShape (record shape { rules = shape.rules ++ rules }) new
have_rules [] [] old new shape has are adds =
    subst (λ (all : List Rule). HasShape (record shape { rules = all }) new)
    (sym (append-nil shape.rules)) (subst (HasShape shape) adds has)
have_rules (rule ∷ rules) (argument ∷ arguments) old new shape has are adds =
    subst (λ (all : List Rule). HasShape (record shape { rules = all }) new)
    (append_snoc shape.rules rule rules)
    (have_rules rules arguments adds.0 new (record shape { rules = shape.rules ++ rule ∷ [] })
    (has_shape old adds.0 argument shape rule has are.0 adds.1) are.1 adds.2)
have_rules [] (argument ∷ arguments) old new shape has are adds = absurd are
have_rules (rule ∷ rules) [] old new shape has are adds = absurd are

-- the library's function gives what the program reads, and which faults there are
pub program_simple : (choices : Choices) → is_simple (program choices) ≡ true
unfolding clap_on_literals
program_simple choices = refl

pub program_free : (choices : Choices) → is_simple_and_free (program choices) ≡ true
unfolding clap_on_literals
program_free choices = refl

-- words that the library takes
pub parses : (choices : Choices) (app : App) (words : List Text) (m : ArgMatches)
    → app ≡ program choices → AreChoices choices → HasMatchesOf app words m
    → (is_simple_and_free app ≡ true → fault_of app words ≡ []) → IsParse words (parsed_of m)
parses choices app words m is alone matches faultless =
    let all = matches (ap is_simple is ∙ program_simple choices) in
    record {
      choices = choices;
      names = alone;
      faultless = subst (λ (a : App). fault_of a words ≡ []) is
          (faultless (ap is_simple_and_free is ∙ program_free choices));
      above = all.0 ∙ ap (λ (a : App). matches_of a words) is;
      command = all.1 ∙ ap (λ (a : App). subcommand_of a words) is;
    }

-- words that it doesn't take
pub does_not_parse : (choices : Choices) (app : App) (words : List Text) (error : Error)
    → app ≡ program choices
    → AreChoices choices → (is_simple_and_free app ≡ true → HasKind (fault_of app words) error)
    → IsNoParse words error
does_not_parse choices app words error is alone fails = (
  choices,
  alone,
  subst (λ (a : App). HasKind (fault_of a words) error) is
      (fails (ap is_simple_and_free is ∙ program_free choices)),
)

-- what a getter says of matches, of the rows of these
pub first_read : (m : ArgMatches) (name : Text) (read : Option Text)
    → read ≡ first_value (found_of m) name → read ≡ first_of name (rows_of (found_of m))
first_read m name read is = is ∙ first_value-rows (found_of m) name

-- the same of all values of an argument
pub all_read : (m : ArgMatches) (name : Text) (read : Option (Bor (List (Bor Text))))
    → option_map names_in read ≡ option_map raw_values (matched_of (found_of m) name)
    → option_map names_in read ≡ all_of name (rows_of (found_of m))
all_read m name read is = is ∙ raw_values-rows (found_of m) name

-- where a getter has none, the rows have none
pub no_first : (m : ArgMatches) (name text : Text) → None ≡ first_value (found_of m) name
    → first_of name (rows_of (found_of m)) ≡ Some text → ⊥
no_first m name text is asked =
    let bad : None ≡ Some text = first_read m name None is ∙ asked in
    cc

-- the one value of an option, of the rows
pub one_read : (m : ArgMatches) (name : Text)
    → one_text (found_of m) name ≡ one_of name (rows_of (found_of m))
one_read m name = one_text-rows (found_of m) name

module _ {Z : Type 0} where
  name_and_rows : (sub : Option (Box SubCommand Z)) (name : Text) (values : List Row)
      → option_map (λ b. (out-SubCommand (box_value b)).name.now) sub ≡ Some name
      → option_map (λ (p : Text × List Row). p.1) (subcommand_rows sub) ≡ Some values
      → subcommand_rows sub ≡ Some (name, values)
  name_and_rows None name values named rows = cc
  name_and_rows (Some b) name values named rows = cc

  none_named : (sub : Option (Box SubCommand Z))
      → option_map (λ b. (out-SubCommand (box_value b)).name.now) sub ≡ None
      → subcommand_rows sub ≡ None
  none_named None is = refl
  none_named (Some b) is = cc

-- words that name no command
pub names_none : (m : ArgMatches) → subcommand_name_of m ≡ None → subcommand_rows_of m ≡ None
names_none m is = none_named (out-ArgMatches m).subcommand is

-- the command that words name, with the rows behind it
pub names_command : (m : ArgMatches) (name : Text) (values : List Row)
    → subcommand_name_of m ≡ Some name
    → option_map (λ (p : Text × List Row). p.1) (subcommand_rows (out-ArgMatches m).subcommand)
    ≡ Some values → subcommand_rows_of m ≡ Some (name, values)
names_command m name values named rows =
    name_and_rows (out-ArgMatches m).subcommand name values named rows
