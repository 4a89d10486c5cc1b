-- The laws of sums, transfers and updates.
use Rattle.std.proofs.Common.{◌≡◌, ℕ, ◌+◌, ◌%◌, ◌^◌, ◌<◌, ◌&&◌, ◌⊎◌, Bool, true, false, eqb, List}
use Rattle.std.proofs.Common.{[], ◌∷◌, length, get_or, set, zero, suc, refl, sym, ap, ◌∙◌, inl, inr}
use Rattle.std.proofs.Common.{arith, eq-eqb, length-set}
use Rattle.std.specs.Prelude.{All, Contains, sum_by}
use Rattle.std.proofs.Math.Seq.{map-set_same}
use Rattle.std.proofs.lemmas.Bool.Decides.{eqb_tells, nat_tests}
use Rattle.std.proofs.lemmas.Bool.{false≢true}
use Rattle.std.proofs.lemmas.List.{get_or-map, get_or-set_same, get_or-set_other, length-map}
use Rattle.std.proofs.lemmas.List.Sums.{fold-append, sum_by-cons}
use Rattle.std.proofs.lemmas.List.Elements.{All-cons, All-contains, All-contains_itself, All-head}
use Rattle.std.proofs.lemmas.List.Elements.{All-nil, All-tail, All-weaker}
use Rattle.bip_model.specs.declared.expressions.Assignment.{Assignment}
use Rattle.bip_model.specs.declared.expressions.Sign.{Sign}
use Rattle.bip_model.specs.declared.expressions.Sign.TheVariants.{Plus, Minus}
use Rattle.bip_model.specs.declared.expressions.Term.{Term}
use Rattle.bip_model.specs.declared.expressions.Variable.{Variable}
use Rattle.bip_model.specs.Expressions.{AreAssignmentsIn, AreTargetsApart, IsAssignmentIn}
use Rattle.bip_model.specs.Expressions.{IsVariableIn, all_joined, assigned, counts, is_same, joined}
use Rattle.bip_model.specs.Expressions.{put_in, term_value, transferred, updated, value_in}
use Rattle.bip_model.specs.Expressions.{value_of}
use Rattle.bip_model.specs.Laws.{SumsAreIntegers, TransfersAtOnce, TransfersInAnyOrder}
use Rattle.bip_model.specs.Laws.{UpdatesInOrder, UpdatesOneByOne, added, taken_away}

pub counts-put_in : (values : List (List ℕ)) (v : Variable) (n : ℕ)
    → counts (put_in values v n) ≡ counts values
counts-put_in values v n =
    let own : List ℕ = get_or values v.owner [] in
    map-set_same length values v.owner (set own v.number.0 n) [] (length-set own v.number.0 n)

pub counts-transferred : (assignments : List (Assignment Variable)) (values : List (List ℕ))
    → counts (transferred assignments values) ≡ counts values
counts-transferred [] values = refl
counts-transferred (a ∷ rest) values =
    counts-put_in (transferred rest values) a.target (value_of values a.sum)
    ∙ counts-transferred rest values

-- an update keeps how many variables there are
pub length-updated : (assignments : List (Assignment Variable)) (values : List ℕ)
    → length (updated assignments values) ≡ length values
length-updated [] values = refl
length-updated (a ∷ rest) values =
    length-updated rest (assigned values a) ∙ length-set values a.target.number.0
    (value_of (values ∷ []) a.sum)

-- a term joined to a sum
joined_sum : (values : List (List ℕ)) (t : Sign × Term Variable) (n a b w : ℕ)
    → (w + b) % 2 ^ 32 ≡ (joined t.0 n (term_value values t.1) + a) % 2 ^ 32
    → (w + (taken_away values t + b)) % 2 ^ 32 ≡ (n + (added values t + a)) % 2 ^ 32
joined_sum values (Plus, t) n a b w h = omega arith
joined_sum values (Minus, t) n a b w h = omega arith

all_joined_sum : (values : List (List ℕ)) (n : ℕ) (terms : List (Sign × Term Variable))
    → (all_joined values n terms + sum_by (taken_away values) terms) % 2 ^ 32
    ≡ (n + sum_by (added values) terms) % 2 ^ 32
all_joined_sum values n [] = refl
all_joined_sum values n (t ∷ terms) =
    let k : ℕ = joined t.0 n (term_value values t.1) in
    rw (sum_by-cons (taken_away values) t terms, sum_by-cons (added values) t terms)
    (joined_sum values t n (sum_by (added values) terms) (sum_by (taken_away values) terms)
    (all_joined values k terms) (all_joined_sum values k terms))

-- a sum to which terms are joined is below 2^32
joined_fits : (sign : Sign) (n k : ℕ) → joined sign n k < 2 ^ 32
joined_fits Plus n k = omega arith
joined_fits Minus n k = omega arith

all_joined_fits : (values : List (List ℕ)) (n : ℕ) (terms : List (Sign × Term Variable))
    → n < 2 ^ 32 → all_joined values n terms < 2 ^ 32
all_joined_fits values n [] fits = fits
all_joined_fits values n (t ∷ terms) fits = all_joined_fits values
    (joined t.0 n (term_value values t.1)) terms (joined_fits t.0 n (term_value values t.1))

pub sums_are_integers : SumsAreIntegers
sums_are_integers values e = (
  all_joined_sum values (term_value values e.first) e.rest,
  all_joined_fits values (term_value values e.first) e.rest,
)

-- a variable that is there, as bounds on the lists
within_values : (values : List (List ℕ)) (v : Variable) → IsVariableIn (counts values) v
    → (v.owner < length values) × (v.number.0 < length (get_or values v.owner []))
within_values values v there =
    let owner : v.owner < length values = simp length-map at there.0 in
    (owner, rw (← get_or-map length values v.owner [] 0 owner) there.1)

-- the variable itself has what is put in its place
value-put_same : (values : List (List ℕ)) (v : Variable) (n : ℕ) → IsVariableIn (counts values) v
    → value_in (put_in values v n) v ≡ n
value-put_same values v n there =
    let within = within_values values v there in
    let own : List ℕ = get_or values v.owner [] in
    rw (get_or-set_same values v.owner (set own v.number.0 n) [] within.0)
    (get_or-set_same own v.number.0 n 0 within.1)

-- each other variable has what it had
value-put_other : (values : List (List ℕ)) (v w : Variable) (n : ℕ) → IsVariableIn (counts values) v
    → is_same w v ≡ false → value_in (put_in values v n) w ≡ value_in values w
value-put_other values v w n there differ =
    let within = within_values values v there in
    let own : List ℕ = get_or values v.owner [] in
    elim (eqb_tells w.owner v.owner) [
      | inl same ↦
          let number : eqb w.number.0 v.number.0 ≡ false = rw same.0 at differ in
          rw same.1
          (rw (get_or-set_same values v.owner (set own v.number.0 n) [] within.0)
          (get_or-set_other own v.number.0 w.number.0 n 0
          (λ e. absurd (false≢true (sym number ∙ eq-eqb w.number.0 v.number.0 e)))))
      | inr other ↦ rw (get_or-set_other values v.owner w.owner (set own v.number.0 n) [] other.1)
          refl
    ]

-- two variables differ either way round
differ_too : (v w : Variable) → is_same v w ≡ false → is_same w v ≡ false
differ_too v w differ = grind (arith, nat_tests)

both_same : (a b n k : ℕ) → (eqb a b && eqb n k) ≡ true → (a ≡ b) × (n ≡ k)
both_same a b n k same = grind (arith, nat_tests)

same_variable : (v w : Variable) → is_same v w ≡ true → v ≡ w
same_variable v w same =
    let both = both_same v.owner w.owner v.number.0 w.number.0 same in
    ap (λ (o : ℕ). record { owner = o; number = v.number }) both.0
    ∙ ap (λ (n : ℕ). record { owner = w.owner; number = record { 0 = n } }) both.1

-- what a transfer's first assignment puts, behind the others
module _ (a : Assignment Variable) (rest : List (Assignment Variable)) (values : List (List ℕ))
    (there : AreAssignmentsIn (counts values) (a ∷ rest)) where
  first_in : IsVariableIn (counts (transferred rest values)) a.target
  first_in = rw counts-transferred (All-head (IsAssignmentIn (counts values)) a rest there).target

  rest_in : AreAssignmentsIn (counts values) rest
  rest_in = All-tail (IsAssignmentIn (counts values)) a rest there

  first_put : value_in (transferred (a ∷ rest) values) a.target ≡ value_of values a.sum
  first_put = value-put_same (transferred rest values) a.target (value_of values a.sum) first_in

  others_stay : (v : Variable) → is_same v a.target ≡ false
      → value_in (transferred (a ∷ rest) values) v ≡ value_in (transferred rest values) v
  others_stay v differ = value-put_other (transferred rest values) a.target v
      (value_of values a.sum) first_in differ

-- a transfer gives each target its sum of the values before
given : (assignments : List (Assignment Variable)) (values : List (List ℕ))
    → AreAssignmentsIn (counts values) assignments → AreTargetsApart assignments
    → (k : ℕ) (d : Assignment Variable) → k < length assignments
    → value_in (transferred assignments values) (get_or assignments k d).target ≡ value_of values
    (get_or assignments k d).sum
given [] values there apart k d within = absurd (omega arith)
given (a ∷ rest) values there apart zero d within = first_put a rest values there
given (a ∷ rest) values there apart (suc k) d within =
    let differ : is_same a.target (get_or rest k d).target ≡ false =
    apart 0 (suc k) d (omega arith) within in
    others_stay a rest values there (get_or rest k d).target
    (differ_too a.target (get_or rest k d).target differ)
    ∙ given rest values (rest_in a rest values there)
    (λ i j e before inside. apart (suc i) (suc j) e (omega arith) (omega arith)) k d
    (omega arith)

-- the variable is no target
abbrev IsOther : Variable → Assignment Variable → Type 0
IsOther v a = is_same v a.target ≡ false

-- a transfer keeps what is no target
kept : (assignments : List (Assignment Variable)) (values : List (List ℕ)) (v : Variable)
    → AreAssignmentsIn (counts values) assignments → All (IsOther v) assignments
    → value_in (transferred assignments values) v ≡ value_in values v
kept [] values v there none = refl
kept (a ∷ rest) values v there none =
    others_stay a rest values there v (All-head (IsOther v) a rest none)
    ∙ kept rest values v (rest_in a rest values there) (All-tail (IsOther v) a rest none)

pub transfers_at_once : TransfersAtOnce
transfers_at_once assignments values is = record {
  counts = counts-transferred assignments values;
  given = λ a here. rw here.2 at (given assignments values is.0 is.1 here.0 a here.1);
  kept = λ v none. kept assignments values v is.0 none;
}

-- a variable is the target of an assignment
abbrev IsGiven : Variable → List (Assignment Variable) → Type 0
IsGiven v assignments = (a : Assignment Variable) × Contains assignments a × (v ≡ a.target)

-- a variable is the target of an assignment, or of none
pick : (v : Variable) (assignments : List (Assignment Variable)) → IsGiven v assignments
    ⊎ All (IsOther v) assignments
pick v [] = inr (All-nil (IsOther v))
pick v (a ∷ rest) = by_first (is_same v a.target) refl (pick v rest)
  where
    by_first : (same : Bool) → is_same v a.target ≡ same → IsGiven v rest ⊎ All (IsOther v) rest
        → IsGiven v (a ∷ rest) ⊎ All (IsOther v) (a ∷ rest)
    by_first true is later = inl (a, (0, omega arith, refl), same_variable v a.target is)
    by_first false is (inl at) = inl (at.0, (suc at.1.0, omega (arith, at.1.1), at.1.2), at.2)
    by_first false is (inr none) = inr (All-cons (IsOther v) a rest is none)

pub transfers_in_any_order : TransfersInAnyOrder
transfers_in_any_order xs ys values of_xs of_ys both v =
    let x = transfers_at_once xs values of_xs in
    let y = transfers_at_once ys values of_ys in
    elim (pick v xs) [
      | inl at ↦ rw at.2 (x.given at.0 at.1 ∙ sym (y.given at.0 ((both at.0).0 at.1)))
      | inr none ↦
          x.kept v none
          ∙ sym (y.kept v (All-weaker (Contains ys) (IsOther v)
          (λ a here. All-contains (IsOther v) xs a none ((both a).1 here)) ys
          (All-contains_itself ys)))
    ]

pub updates_in_order : UpdatesInOrder
updates_in_order xs ys values = fold-append assigned values xs ys

pub updates_one_by_one : UpdatesOneByOne
updates_one_by_one a values there =
    let own : a.target.owner ≡ 0 = omega (arith, there.target.0) in
    rw own refl
