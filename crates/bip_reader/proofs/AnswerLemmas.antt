-- What calls answered, beside what is said.
use Rattle.std.proofs.Common.{◌≡◌, ◌≢◌, ℕ, Bool, true, false, ◌||◌, List, [], ◌∷◌, length, map}
use Rattle.std.proofs.Common.{Option, None, Some, Result, Ok, Err, refl, ap, sym, arith}
use Rattle.std.specs.Prelude.{◌≤◌, is_some}
use Rattle.std.proofs.lemmas.Bool.Decides.{nat_tests}
use Rattle.std.specs.List.{list_all, list_any}
use Rattle.std.specs.Option.{ok_or}
use Rattle.bip_model.specs.Naming.{same_text}
use Rattle.bip_model.specs.Faults.{Answers, new_or_fault}
use Rattle.bip_model.specs.declared.partitions.TheConstants.{MOST_CLASSES}
use Rattle.bip_model.specs.declared.drafts.Draft.{Draft}
use Rattle.bip_model.specs.declared.faults.BuildFault.{BuildFault}
use Rattle.bip_model.specs.declared.faults.BuildFault.TheVariants as build_fault
use Rattle.bip_reader.specs.declared.faults.Why.{Why}
use Rattle.bip_reader.specs.declared.faults.Why.TheVariants.{Unknown, TooMany, Memory}
use Rattle.bip_reader.specs.declared.reading.Reading.{Reading}
use Rattle.bip_reader.specs.declared.statements.Statement.{Statement}
use Rattle.bip_reader.specs.declared.statements.Statement.TheVariants as statement
use Rattle.bip_reader.specs.Faults.{why_of_build}
use Rattle.bip_reader.specs.Reading.{class_line, draft_of, draft_with, interaction_named}
use Rattle.bip_reader.specs.Reading.{reading_with, with_draft}
use Rattle.bip_model.proofs.WordLemmas.{all_are_each}

-- whether an element's image passes a test
pub list_any-map : {A B : Type 0} (p : B → Bool) (f : A → B) (xs : List A)
    → list_any p (map f xs) ≡ list_any (λ x. p (f x)) xs
list_any-map p f [] = refl
list_any-map p f (x ∷ xs) = ap (λ b. p (f x) || b) (list_any-map p f xs)

-- memory is wanting where there is something
pub want_told : {A : Type 0} (o : Option A) (fault why : Why) → is_some o ≡ true → why ≡ Memory
    → Answers Memory (ok_or o fault) (Err why)
want_told o fault why e is = grind arith

-- what was taken out is there
pub ok_said : {A : Type 0} (o : Option A) (fault : Why) (x : A) → ok_or o fault ≡ Ok x → o ≡ Some x
ok_said None fault x e = cc
ok_said (Some y) fault x e = cc

pub err_same : {A : Type 0} (x y : Why) → ◌≡◌ {A = Result A Why} (Err x) (Err y) → x ≡ y
err_same x y e = cc

-- a call that didn't fail led to what is said
pub led_to : {A : Type 0} (said : Result A Why) (result : Result (Unit {0}) Why) (new : A)
    → ((why : Why) → result ≡ Err why → ⊥) → Answers Memory said (new_or_fault result new)
    → said ≡ Ok new
led_to said (Err why) new none h = absurd (none why refl)
led_to (Ok x) (Ok u) new none h = ap Ok (sym h)
led_to (Err fault) (Ok u) new none h = absurd h

-- a fault other than want of memory is what is said
pub told_as_said : {A : Type 0} (said : Result A Why) (why : Why) → Answers Memory said (Err why)
    → why ≢ Memory → said ≡ Err why
told_as_said (Ok x) why h other = absurd (other h)
told_as_said (Err fault) why h other = ap Err (sym h)

-- what the builder answered to a statement, said to the reading
pub answered : (r : Reading) (said : Result Draft BuildFault) (fault : BuildFault)
    → Answers build_fault.Memory said (Err fault)
    → Answers Memory (with_draft r said) (Err (why_of_build fault))
answered r (Ok d) fault h = ap why_of_build h
answered r (Err f) fault h = ap why_of_build h

-- a statement that is neither `bip 1` nor a class is said to the draft
pub is_said_to_draft : (s : Statement) (r : Reading) → (s ≡ statement.Header → ⊥)
    → ((name : List ℕ) (interactions : List (List ℕ)) → s ≡ statement.Class name interactions → ⊥)
    → reading_with s r ≡ with_draft r (draft_with s (draft_of r))
is_said_to_draft statement.Header r no_header no_class = absurd (no_header refl)
is_said_to_draft (statement.Class name interactions) r no_header no_class =
    absurd (no_class name interactions refl)
is_said_to_draft s r no_header no_class = refl

-- a class whose name is that of no class so far
module _ (name : List ℕ) (names : List (List ℕ)) (r : Reading)
    (free : list_any (λ class. same_text name class.0) r.classes ≡ false) where
  -- a class names an interaction that isn't there
  pub class_unknown : list_all (λ name. is_some (interaction_named (draft_of r) name)) names ≡ false
      → class_line name names r ≡ Err Unknown
  unfolding class_line
  class_unknown unknown = let all = all_are_each (interaction_named (draft_of r)) names in
      grind arith

  -- a class too many
  pub class_past : list_all (λ name. is_some (interaction_named (draft_of r) name)) names ≡ true
      → MOST_CLASSES ≤ length r.classes → class_line name names r ≡ Err TooMany
  unfolding class_line
  class_past known full = let all = all_are_each (interaction_named (draft_of r)) names in
      grind (arith, nat_tests)
