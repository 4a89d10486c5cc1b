-- The first of faults of words, and results that tell it.
use Rattle.std.proofs.Common.{◌≡◌, ℕ, ◌+◌, Bool, true, false, cond, not, ◌&&◌, ◌||◌, List, [], ◌∷◌}
use Rattle.std.proofs.Common.{◌++◌, Option, None, Some, Result, Ok, Err, refl, sym, ap, ◌∙◌, subst}
use Rattle.std.specs.Prelude.{All, is_some, position}
use Rattle.std.specs.List.{flat_map, list_all, list_any}
use Rattle.std.specs.Option.{ok_or, option_map}
use Rattle.std.proofs.lemmas.List.Elements.{All-cons, All-head, All-nil, All-tail}
use Rattle.bip_model.proofs.ListLemmas.{position_cons}
use Rattle.bip_model.specs.Components.{number_in}
use Rattle.bip_model.specs.Faults.{◌>>=◌}
use Rattle.bip_model.specs.Naming.{is_known, same_text}
use Rattle.bip_model.specs.Scopes.{knows_assignments, knows_guard, knows_sum, knows_term}
use Rattle.bip_model.specs.declared.expressions.Assignment.{Assignment}
use Rattle.bip_model.specs.declared.expressions.Comparison.{Comparison}
use Rattle.bip_model.specs.declared.expressions.Expr.{Expr}
use Rattle.bip_model.specs.declared.expressions.Sign.{Sign}
use Rattle.bip_model.specs.declared.expressions.Term.{Term}
use Rattle.bip_model.specs.declared.expressions.Term.TheVariants.{Value, Of}
use Rattle.bip_model.specs.declared.expressions.Variable.{Variable}
use Rattle.bip_model.specs.declared.faults.BuildFault.{BuildFault}
use Rattle.bip_model.specs.declared.faults.BuildFault.TheVariants as build
use Rattle.bip_model.specs.declared.scopes.VariableName.{VariableName}
use Rattle.bip_reader.specs.Faults.{why_of_build}
use Rattle.bip_reader.specs.LineFaults.{IsFirstOf, fault_if, faults_of_guard, faults_of_sum}
use Rattle.bip_reader.specs.LineFaults.{faults_of_term, faults_of_update}
use Rattle.bip_reader.specs.declared.faults.Why.{Why}
use Rattle.bip_reader.specs.declared.faults.Why.TheVariants.{Unknown, Twice}

-- the first that is one
abbrev pub or_later : Option Why → Option Why → Option Why
or_later None later = later
or_later (Some why) later = Some why

abbrev pub first_told : List (Option Why) → Option Why
first_told [] = None
first_told (fault ∷ rest) = or_later fault (first_told rest)

pub told_both : (xs ys : List (Option Why)) → first_told (xs ++ ys) ≡ or_later (first_told xs)
    (first_told ys)
told_both [] ys = refl
told_both (None ∷ xs) ys = told_both xs ys
told_both (Some why ∷ xs) ys = refl

told_later : (before rest : List (Option Why)) → All (λ fault. fault ≡ None) before
    → first_told (before ++ rest) ≡ first_told rest
told_later [] rest clear = refl
told_later (fault ∷ before) rest clear = rw (All-head (λ f. f ≡ None) fault before clear)
    (told_later before rest (All-tail (λ f. f ≡ None) fault before clear))

pub told_first : (faults : List (Option Why)) (why : Why) → IsFirstOf faults why
    → first_told faults ≡ Some why
told_first faults why is = rw is.split (told_later is.before (Some why ∷ is.behind) is.clear)

pub first_is : (faults : List (Option Why)) (why : Why) → first_told faults ≡ Some why
    → IsFirstOf faults why
first_is [] why e = cc
first_is (Some w ∷ rest) why e = let same : w ≡ why = cc in
    record {
      before = [];
      behind = rest;
      split = ap (λ (v : Why). Some v ∷ rest) same;
      clear = All-nil (λ f. f ≡ None);
    }
first_is (None ∷ rest) why e =
    let later = first_is rest why e in
    record {
      before = None ∷ later.before;
      behind = later.behind;
      split = ap (λ (fs : List (Option Why)). None ∷ fs) later.split;
      clear = All-cons (λ f. f ≡ None) None later.before refl later.clear;
    }

-- of a word for what must be there, and of one for what can't be there yet
abbrev pub if_missing : Bool → Option Why
if_missing is_there = fault_if Unknown (not is_there)

abbrev pub if_there : Bool → Option Why
if_there is_there = fault_if Twice is_there

-- a result is just the first of faults, and none where there is none
abbrev pub Tells : {A E : Type 0} → (E → Why) → Option Why → Result A E → Type 0
Tells {A} {E} g (Some why) r = (fault : E) × (r ≡ Err fault) × (g fault ≡ why)
Tells {A} {E} g None r = (x : A) × (r ≡ Ok x)

-- one call behind another
pub tells_both : {A B E : Type 0} (g : E → Why) (first later : Option Why) (r : Result A E)
    (f : A → Result B E) → Tells g first r → ((x : A) → r ≡ Ok x → Tells g later (f x))
    → Tells g (or_later first later) (r >>= f)
tells_both g (Some why) later r f is then = (is.0, rw is.1 refl, is.2)
tells_both {A} {B} {E} g None later r f is then =
    subst (λ (s : Result A E). Tells {A = B} g later (s >>= f)) (sym is.1) (then is.0 is.1)

-- a result that is kept, with another value
pub tells_kept : {A B E : Type 0} (g : E → Why) (first : Option Why) (r : Result A E) (f : A → B)
    → Tells g first r → Tells {A = B} g first (r >>= λ x. Ok (f x))
tells_kept g (Some why) r f is = (is.0, rw is.1 refl, is.2)
tells_kept {A} {B} {E} g None r f is = (f is.0, ap (λ (s : Result A E). s >>= λ x. Ok (f x)) is.1)

-- a test, and what is behind it
pub tells_if : {A E : Type 0} (g : E → Why) (why : Why) (later : Option Why) (fault : E) (b : Bool)
    (rest : Result A E) → g fault ≡ why → (b ≡ false → Tells g later rest)
    → Tells g (or_later (fault_if why b) later) (cond b (Err fault) rest)
tells_if g why later fault true rest is then = (fault, refl, is)
tells_if g why later fault false rest is then = then refl

-- nothing is behind the last test
pub tells_last : {A E : Type 0} (g : E → Why) (why : Why) (fault : E) (b : Bool) (x : A)
    → g fault ≡ why → Tells g (or_later (fault_if why b) None) (cond b (Err fault) (Ok x))
tells_last g why fault true x is = (fault, refl, is)
tells_last g why fault false x is = (x, refl)

pub place_known : {X : Type 0} (p : X → Bool) (xs : List X)
    → list_any p xs ≡ is_some (position p xs)
place_known p [] = refl
place_known p (x ∷ xs) = rw (position_cons p x xs)
    (by_test (p x) (position p xs) (place_known p xs))
  where
    by_test : (b : Bool) (o : Option ℕ) → list_any p xs ≡ is_some o
        → (b || list_any p xs) ≡ is_some (cond b (Some 0) (option_map (λ i. i + 1) o))
    by_test true o e = refl
    by_test false None e = e
    by_test false (Some i) e = e

-- what is made of a thing is there where it is
pub made_there : {A B : Type 0} (f : A → B) (o : Option A) → is_some (option_map f o) ≡ is_some o
made_there f None = refl
made_there f (Some x) = refl

-- the number of a name
pub number_told : (names : List (List ℕ)) (name : List ℕ)
    → Tells why_of_build (if_missing (is_known name names)) (number_in names name)
number_told names name = rw (place_known (same_text name) names)
    (by_place (position (same_text name) names))
  where
    by_place : (o : Option ℕ) → Tells why_of_build (if_missing (is_some o)) (ok_or o build.Unknown)
    by_place None = (build.Unknown, refl, refl)
    by_place (Some n) = (n, refl)

pub number_at : (names : List (List ℕ)) (name : List ℕ) (n : ℕ) → number_in names name ≡ Ok n
    → position (same_text name) names ≡ Some n
number_at names name n e = by_place (position (same_text name) names) e
  where
    by_place : (o : Option ℕ) → ◌≡◌ {A = Result ℕ BuildFault} (ok_or o build.Unknown) (Ok n)
        → o ≡ Some n
    by_place None e' = cc
    by_place (Some k) e' = let same : k ≡ n = cc in ap (λ (i : ℕ). Some i) same

-- all of some things
both_there : (a b : Bool) → or_later (if_missing a) (if_missing b) ≡ if_missing (a && b)
both_there true b = refl
both_there false b = refl

no_later : (o : Option Why) → or_later o None ≡ o
no_later None = refl
no_later (Some why) = refl

pub all_there : {X : Type 0} (faults : X → List (Option Why)) (p : X → Bool)
    → ((x : X) → first_told (faults x) ≡ if_missing (p x)) → (xs : List X)
    → first_told (flat_map faults xs) ≡ if_missing (list_all p xs)
all_there faults p each [] = refl
all_there faults p each (x ∷ xs) =
    told_both (faults x) (flat_map faults xs)
    ∙ rw (each x, all_there faults p each xs) (both_there (p x) (list_all p xs))

-- names of variables, by a look-up
module _ (find : VariableName → Option Variable) (is_there : VariableName → Bool)
    (same : (v : VariableName) → is_there v ≡ is_some (find v)) where
  term_told : (t : Term VariableName) → first_told (faults_of_term is_there t) ≡ if_missing
      (knows_term find t)
  term_told (Value n) = refl
  term_told (Of v) = no_later (if_missing (is_there v)) ∙ ap if_missing (same v)

  pub sum_told : (e : Expr VariableName) → first_told (faults_of_sum is_there e) ≡ if_missing
      (knows_sum find e)
  sum_told e =
      let rest = all_there (λ (t : Sign × Term VariableName). faults_of_term is_there t.1)
      (λ t. knows_term find t.1) (λ t. term_told t.1) e.rest in
      told_both (faults_of_term is_there e.first)
      (flat_map (λ (t : Sign × Term VariableName). faults_of_term is_there t.1) e.rest)
      ∙ rw (term_told e.first, rest) (both_there (knows_term find e.first)
      (list_all (λ (t : Sign × Term VariableName). knows_term find t.1) e.rest))

  pub guard_told : (guard : List (Comparison VariableName))
      → first_told (faults_of_guard is_there guard) ≡ if_missing (knows_guard find guard)
  guard_told guard =
      all_there (λ (c : Comparison VariableName). faults_of_sum is_there c.left
      ++ faults_of_sum is_there c.right) (λ c. knows_sum find c.left && knows_sum find c.right)
      (λ c. told_both (faults_of_sum is_there c.left) (faults_of_sum is_there c.right)
      ∙ rw (sum_told c.left, sum_told c.right)
      (both_there (knows_sum find c.left) (knows_sum find c.right))) guard

  pub update_told : (update : List (Assignment VariableName))
      → first_told (flat_map (faults_of_update is_there) update) ≡ if_missing
      (knows_assignments find update)
  update_told update =
      all_there (faults_of_update is_there) (λ a. is_some (find a.target) && knows_sum find a.sum)
      (λ a. rw (same a.target, sum_told a.sum)
      (both_there (is_some (find a.target)) (knows_sum find a.sum))) update
