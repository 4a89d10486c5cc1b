-- What words ask, by what each getter says.
use Rattle.std.proofs.Common.{◌≡◌, ◌≢◌, ◌<◌, ◌^◌, ◌∙◌, ℕ, Option, Some, None, Result, Ok, Err, ap}
use Rattle.std.proofs.Common.{refl}
use Rattle.std.proofs.Common.{List, subst, sym}
use Rattle.std.specs.Prelude.{IfNone, IfSome}
use Rattle.std.specs.Str.Parse.{ParsesUnsigned, digits_value, without_leading_plus}
use Rattle.clap.specs.Words.{ReadsOne, Row, Text, one_of}
use Rattle.bip_program.specs.Asked.{IsNumberAsked, IsReadAs, MayAskNumber}

-- nothing is read where nothing is asked
pub read_none : {A : Type 0} (read : Option A) (asks : A → Type 0) → read ≡ None
    → ((x : A) → ¬ asks x) → IsReadAs asks read
read_none read asks is none = subst (IsReadAs asks) (sym is) none

-- what isn't given is no text
pub none_given : (given : Option Text) (text : Text) → None ≡ given → given ≡ Some text → ⊥
none_given given text none some =
    let bad : None ≡ Some text = none ∙ some in
    cc

-- what is found by a name that is given
pub name_read : {A : Type 0} (named : A → Text) (given : Option Text) (name : Text)
    (found : Option A) → given ≡ Some name → IfSome found (λ x. name ≡ named x)
    → IfNone found ((x : A) → name ≢ named x) → IsReadAs (λ x. given ≡ Some (named x)) found
name_read named given name None is some none =
    λ x asked. none x (same_name name (named x) (sym is ∙ asked))
  where
    same_name : (a b : Text) → Some a ≡ Some b → a ≡ b
    same_name a b both = cc
name_read named given name (Some x) is some none = is ∙ ap Some some

-- a number that was read is asked
number_asked : (E : Type 0) (gives : Text → Result ℕ E → Type 0) (bits : ℕ) (values : List Row)
    (option : Text) (read : Option ℕ)
    → ((text : Text) (r : Result ℕ E) → gives text r → ParsesUnsigned bits 10 text r)
    → (one_of option values ≡ None → read ≡ None)
    → ((text : Text) → one_of option values ≡ Some text → ReadsOne gives text read)
    → IfSome read (IsNumberAsked values option bits)
number_asked E gives bits values option None parses none some = tt
number_asked E gives bits values option (Some number) parses none some =
    go (one_of option values) refl
  where
    go : (given : Option Text) → one_of option values ≡ given
        → IsNumberAsked values option bits number
    go None is =
        let bad = none is in
        cc
    go (Some text) is =
        let parsed = parses text (Ok number) (some text is) in
        record {
          spelt = text;
          given = is;
          numeral = parsed.0.0;
          is = parsed.1;
          fits = subst (λ (n : ℕ). n < 2 ^ bits) (sym parsed.1) parsed.0.1;
        }

-- where none was read, none is asked
no_number_asked : (E : Type 0) (gives : Text → Result ℕ E → Type 0) (bits : ℕ) (values : List Row)
    (option : Text) (read : Option ℕ)
    → ((text : Text) (r : Result ℕ E) → gives text r → ParsesUnsigned bits 10 text r)
    → ((text : Text) → one_of option values ≡ Some text → ReadsOne gives text read)
    → read ≡ None → (number : ℕ) → IsNumberAsked values option bits number → ⊥
no_number_asked E gives bits values option read parses some none number asked =
    let refused : ReadsOne gives asked.spelt None =
    subst (λ (r : Option ℕ). ReadsOne gives asked.spelt r) none (some asked.spelt asked.given) in
    parses asked.spelt (Err refused.0) refused.1
    (asked.numeral, subst (λ (n : ℕ). n < 2 ^ bits) asked.is asked.fits)

-- a number that may be given is asked, or none
pub may_ask_number : (E : Type 0) (gives : Text → Result ℕ E → Type 0) (bits : ℕ)
    (values : List Row) (option : Text) (read : Option ℕ)
    → ((text : Text) (r : Result ℕ E) → gives text r → ParsesUnsigned bits 10 text r)
    → (one_of option values ≡ None → read ≡ None)
    → ((text : Text) → one_of option values ≡ Some text → ReadsOne gives text read)
    → MayAskNumber values option bits read
may_ask_number E gives bits values option read parses none some = record {
  some = number_asked E gives bits values option read parses none some;
  none = unasked read some;
}
  where
    unasked : (found : Option ℕ)
        → ((text : Text) → one_of option values ≡ Some text → ReadsOne gives text found)
        → IfNone found ((number : ℕ) → ¬ IsNumberAsked values option bits number)
    unasked None reads = no_number_asked E gives bits values option None parses reads refl
    unasked (Some number) reads = tt

-- an option gives one number
pub same_number : (values : List Row) (option : Text) (bits a b : ℕ)
    → IsNumberAsked values option bits a → IsNumberAsked values option bits b → a ≡ b
same_number values option bits a b one other =
    let both : Some one.spelt ≡ Some other.spelt = sym one.given ∙ other.given in
    let same : one.spelt ≡ other.spelt = cc in
    one.is ∙ (ap (λ (text : Text). digits_value 10 (without_leading_plus text)) same ∙ sym other.is)
