-- The program's command line: its commands with their arguments, and what words say to it.
use Rattle.std.specs.Prelude.{◌≡◌, ⊤, ℕ, pos, true, false, List, [], ◌∷◌, Option, Some, codes, map}
use Rattle.std.specs.Borrow.{Bor}
use Rattle.clap.specs.Words.{App, HasKind, Row, Rule, Shape, Text, app_of, fault_of, found_of}
use Rattle.clap.specs.Words.{matches_of, new_rule, rows_of, rule_of, subcommand_of}
use Rattle.clap.specs.Words.{subcommand_rows_of}
use Rattle.clap.specs.Lexer.{usize_max}
use Rattle.clap.specs.Simple.{new_shape}
use Rattle.clap.specs.declared.builder.action.ArgAction.TheVariants.{Append, SetTrue}
use Rattle.clap.specs.declared.builder.arg.Arg.{Arg}
use Rattle.clap.specs.declared.builder.command.Command.{Command}
use Rattle.clap.specs.declared.builder.command.Command.TheViews.{out-Command}
use Rattle.clap.specs.declared.builder.value_parser.ValueParser.{ValueParser}
use Rattle.clap.specs.declared.builder.value_parser.ValueParser.TheVariants.{Names, Signed}
use Rattle.clap.specs.declared.builder.value_parser.ValueParser.TheVariants.{Unsigned}
use Rattle.clap.specs.declared.error.Error.{Error}
use Rattle.clap.specs.declared.parser.matches.ArgMatches.{ArgMatches}
use Rattle.bip_program.specs.declared.programs.Choices.{Choices}

-- ---- arguments

-- a path that has to be given, by its place
abbrev pub path : Text → Rule
path name = record (new_rule name) { value_names = 1; required = true }

-- `--name`, which takes no value
abbrev pub flag : Text → Rule
flag name = record (new_rule name) { long = Some name; action = Some SetTrue }

-- `--name VALUE`, of values that pass a parser
abbrev pub option : Text → ValueParser → Rule
option name parser = record (new_rule name) {
  long = Some name;
  value_names = 1;
  parser = Some parser;
}

-- `--name VALUE`, of any text
abbrev pub text_option : Text → Rule
text_option name = record (new_rule name) { long = Some name; value_names = 1 }

-- `--name VALUE ..`, of any texts, one or more in each use
abbrev pub texts_option : Text → Rule
texts_option name = record (text_option name) {
  action = Some Append;
  range = Some (record { start_inclusive = 1; end_inclusive = usize_max });
}

-- a value of a parser that has to be given
abbrev pub needed : Text → ValueParser → Rule
needed name parser = record (option name parser) { required = true }

-- the numbers from one to another
abbrev pub numbers : ℕ → ℕ → ValueParser
numbers low high = Signed (pos low) (pos high)

-- the numbers of rows
abbrev pub rows : ValueParser
rows = Unsigned 1 18446744073709551615

-- a number of 64 bits, 0 where none is given
abbrev pub base_option : Rule
base_option = record (option (codes "base") (Unsigned 0 18446744073709551615)) {
  defaults = codes "0" ∷ [];
}

-- one of these resolvers
abbrev pub resolver_option : Bor (List (Bor Text)) → Rule
resolver_option resolvers = needed (codes "resolver") (Names resolvers)

-- one of these ways to share tables, the first where none is given
abbrev pub table_option : Bor (List (Bor Text)) → Rule
table_option tables = record (option (codes "table") (Names tables)) {
  defaults = codes "locked" ∷ [];
}

-- one of these ways to draw events, the first where none is given
abbrev pub draw_option : Bor (List (Bor Text)) → Rule
draw_option draws = record (option (codes "draw") (Names draws)) {
  defaults = codes "table" ∷ [];
}

-- ---- commands

-- a command with these arguments
abbrev pub with_arguments : Text → List Rule → Shape
with_arguments name rules = record (new_shape name) { rules = rules }

-- rows from one on, the first where none is given
abbrev pub from_option : Rule
from_option = record (option (codes "from") rows) { defaults = codes "1" ∷ [] }

abbrev pub canon_command : Shape
canon_command = with_arguments (codes "canon") (path (codes "model") ∷ flag (codes "explain") ∷ [])

abbrev pub chart_command : Shape
chart_command = with_arguments (codes "chart")
    (path (codes "model") ∷ path (codes "trace") ∷ texts_option (codes "only") ∷ base_option
    ∷ from_option ∷ option (codes "to") rows ∷ flag (codes "values") ∷ flag (codes "explain") ∷ [])

abbrev pub check_command : Shape
check_command =
    with_arguments (codes "check")
    (path (codes "model") ∷ flag (codes "plan") ∷ flag (codes "explain") ∷ [])

abbrev pub draw_command : Shape
draw_command =
    with_arguments (codes "draw")
    (path (codes "model") ∷ texts_option (codes "only") ∷ texts_option (codes "only-class")
    ∷ flag (codes "plan") ∷ flag (codes "explain") ∷ [])

abbrev pub replay_command : Shape
replay_command = with_arguments (codes "replay")
    (path (codes "model") ∷ path (codes "trace") ∷ base_option ∷ flag (codes "end")
    ∷ flag (codes "explain") ∷ [])

abbrev pub steps_command : Bor (List (Bor Text)) → Shape
steps_command resolvers = with_arguments (codes "steps")
    (path (codes "model") ∷ path (codes "schedule") ∷ resolver_option resolvers ∷ base_option
    ∷ flag (codes "tell") ∷ text_option (codes "chart") ∷ from_option ∷ option (codes "to") rows
    ∷ flag (codes "explain") ∷ [])

abbrev pub explore_command : Bor (List (Bor Text)) → Bor (List (Bor Text)) → Shape
explore_command resolvers draws = with_arguments (codes "explore")
    (path (codes "model") ∷ resolver_option resolvers
    ∷ needed (codes "seeds") (numbers 1 1000000) ∷ needed (codes "events") (numbers 0 1000000)
    ∷ draw_option draws ∷ flag (codes "progress") ∷ option (codes "jobs") (numbers 1 256) ∷ flag
    (codes "stats")
    ∷ flag (codes "explain") ∷ [])

abbrev pub run_command : Bor (List (Bor Text)) → Bor (List (Bor Text)) → Shape
run_command resolvers tables = with_arguments (codes "run")
    (path (codes "model") ∷ resolver_option resolvers
    ∷ option (codes "turns") (numbers 1 1000000) ∷ option (codes "grants") (numbers 1 1000000)
    ∷ table_option tables ∷ text_option (codes "record") ∷ flag (codes "stats")
    ∷ flag (codes "explain") ∷ [])

abbrev pub seed_command : Bor (List (Bor Text)) → Bor (List (Bor Text)) → Shape
seed_command resolvers draws = with_arguments (codes "seed")
    (path (codes "model") ∷ resolver_option resolvers ∷ needed (codes "seed") (numbers 1 1000000)
    ∷ needed (codes "events") (numbers 0 1000000) ∷ draw_option draws ∷ flag (codes "explain") ∷ [])

abbrev pub walk_command : Shape
walk_command = with_arguments (codes "walk")
    (path (codes "model") ∷ option (codes "seed") (numbers 1 1000000)
    ∷ option (codes "seeds") (numbers 1 1000000) ∷ needed (codes "grants") (numbers 0 1000000)
    ∷ base_option ∷ flag (codes "stats") ∷ flag (codes "explain") ∷ [])

-- the program without its commands
abbrev pub bare_program : Shape
bare_program = record (with_arguments (codes "bipr") (flag (codes "explain") ∷ [])) {
  has_version = true;
  subcommand_required = true;
}

-- the program: words name one of ten commands, or ask for help or the version
abbrev pub program : Choices → App
program choices = record {
  top = record bare_program { is_leaf = false };
  subs = canon_command ∷ chart_command ∷ check_command ∷ draw_command ∷ replay_command
      ∷ walk_command ∷ steps_command choices.resolvers
      ∷ explore_command choices.resolvers choices.draws
      ∷ seed_command choices.resolvers choices.draws
      ∷ run_command choices.resolvers choices.tables ∷ [];
}

-- an argument as the library has it
abbrev pub HasRule : Rule → Arg → Type 0
HasRule rule argument = (rule_of argument ≡ rule) × (argument.global ≡ false)

-- such arguments, in order
abbrev pub HaveRules : List Rule → List Arg → Type 0
HaveRules [] [] = ⊤
HaveRules (rule ∷ rules) (argument ∷ arguments) = HasRule rule argument × HaveRules rules arguments
HaveRules rules arguments = ⊥

-- a command without commands of its own
abbrev pub HasShape : Shape → Command → Type 0
HasShape shape command = (app_of command ≡ record { top = shape; subs = [] })
    × ((out-Command command).has_globals ≡ false)

-- ---- words

-- the texts of names
abbrev pub names_in : Bor (List (Bor Text)) → List Text
names_in names = map (λ (name : Bor Text). name.now) names.now

-- the names that options have to choose from
pub record AreChoices (choices : Choices) : Type 0 where
  pub resolvers : names_in choices.resolvers
      ≡ codes "central" ∷ codes "ring" ∷ codes "forks" ∷ []
  pub tables : names_in choices.tables ≡ codes "locked" ∷ codes "words" ∷ []
  pub draws : names_in choices.draws ≡ codes "table" ∷ codes "busy" ∷ []

-- what words are parsed to: the values of the program's own options, and the command that is
-- named, with the values that each of its arguments has
pub record Parsed : Type 0 where
  pub above : List Row
  pub command : Option (Text × List Row)

-- what the library has of words that it parsed
abbrev pub parsed_of : ArgMatches → Parsed
parsed_of m = record { above = rows_of (found_of m); command = subcommand_rows_of m }

-- words, of which the first is the program's own name, have no fault, and say this
pub record IsParse (words : List Text) (parsed : Parsed) : Type 0 where
  pub choices : Choices
  pub names : AreChoices choices
  pub faultless : fault_of (program choices) words ≡ []
  pub above : parsed.above ≡ matches_of (program choices) words
  pub command : parsed.command ≡ subcommand_of (program choices) words

-- words have a fault, or ask for help or the version, of which the library's error tells; or memory
-- is out
abbrev pub IsNoParse : List Text → Error → Type 0
IsNoParse words error = (choices : Choices) × AreChoices choices
    × HasKind (fault_of (program choices) words) error
