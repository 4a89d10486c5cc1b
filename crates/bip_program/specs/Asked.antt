-- What words ask, by the values of their options.
use Rattle.std.specs.Prelude.{◌≡◌, ℕ, ◌<◌, ◌^◌, ◌||◌, Bool, false, true, List, None, Some}
use Rattle.std.specs.Prelude.{IfNone, IfSome, Option, codes}
use Rattle.std.specs.Str.Parse.{IsNumeral, digits_value, without_leading_plus}
use Rattle.clap.specs.Words.{Row, Text, one_of}
use Rattle.bip_program.specs.Programs.{Parsed}

-- what is read is asked, and nothing is where nothing is read
abbrev pub IsReadAs : {A : Type 0} → (A → Type 0) → Option A → Type 0
IsReadAs asks None = (asked : _) → ¬ asks asked
IsReadAs asks (Some asked) = asks asked

-- values give a number of so many bits: it is the one that the text of an option spells
pub record IsNumberAsked (values : List Row) (option : Text) (bits number : ℕ) : Type 0 where
  pub spelt : Text
  pub given : one_of option values ≡ Some spelt
  pub numeral : IsNumeral 10 (without_leading_plus spelt)
  pub is : number ≡ digits_value 10 (without_leading_plus spelt)
  pub fits : number < 2 ^ bits

-- values give such a number, which is this one, or none
pub record MayAskNumber (values : List Row) (option : Text) (bits : ℕ) (asked : Option ℕ)
    : Type 0 where
  pub some : IfSome asked (IsNumberAsked values option bits)
  pub none : IfNone asked ((number : ℕ) → ¬ IsNumberAsked values option bits number)

-- values set an option that takes none, or don't
pub record IsFlagAsked (values : List Row) (option : Text) (is_set : Bool) : Type 0 where
  pub on : one_of option values ≡ Some (codes "true") → is_set ≡ true
  pub off : one_of option values ≡ Some (codes "false") → is_set ≡ false
  pub absent : one_of option values ≡ None → is_set ≡ false

-- the values behind a command, if there is one, set such an option, or don't
abbrev pub IsFlagBehind : Option (Text × List Row) → Text → Bool → Type 0
IsFlagBehind None option is_set = is_set ≡ false
IsFlagBehind (Some command) option is_set = IsFlagAsked command.1 option is_set

-- words ask to explain what is refused, before the command or behind it, or don't
pub record IsExplainAsked (parsed : Parsed) (is_asked : Bool) : Type 0 where
  pub above : Bool
  pub behind : Bool
  pub before : IsFlagAsked parsed.above (codes "explain") above
  pub after : IsFlagBehind parsed.command (codes "explain") behind
  pub either : is_asked ≡ (above || behind)
