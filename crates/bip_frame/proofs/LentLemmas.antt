-- The parts that views lend stand at their places.
use Rattle.std.proofs.Common.{◌≡◌, ℕ, zero, suc, ◌+◌, ◌*◌, ◌≤◌, ◌<◌, List, [], ◌∷◌, ◌++◌, set}
use Rattle.std.proofs.Common.{get_or, length, take, drop, Some, None, refl, sym, ap}
use Rattle.std.proofs.Common.{◌∙◌, arith}
use Rattle.std.specs.Prelude.{slice_get}
use Rattle.std.specs.Int.{w32, from_be_bytes}
use Rattle.std.proofs.Math.Nat.{mul-suc}
use Rattle.std.proofs.lemmas.List.{drop-drop, take_more, take_more_set}
use Rattle.bip_frame.specs.Lent.{parts_in, values_in, wants_in, want_in, whys_lent}
use Rattle.bip_frame.specs.Lent.{why_in}

-- ---- parts of one size

-- behind the first part
next_place : (size i : ℕ) (bytes : List ℕ)
    → drop (size * i) (drop size bytes) ≡ drop (size * suc i) bytes
next_place size i bytes =
    let next : size * i + size ≡ size * suc i = sym (mul-suc size i) in
    drop-drop (size * i) size bytes ∙ ap (λ (k : ℕ). drop k bytes) (omega (arith, next))

part_here : {A : Type 0} (size : ℕ) (one : List ℕ → A) (n i : ℕ) (bytes : List ℕ) → i < n
    → slice_get (parts_in size one n bytes) i ≡ Some (one (take size (drop (size * i) bytes)))
part_here size one zero i bytes lt = absurd (omega arith)
part_here size one (suc n) zero bytes lt =
    let none : 0 ≡ size * 0 = omega arith in
    ap (λ (k : ℕ). Some (one (take size (drop k bytes)))) none
part_here size one (suc n) (suc i) bytes lt =
    part_here size one n i (drop size bytes) (omega arith)
    ∙ ap (λ (d : List ℕ). Some (one (take size d))) (next_place size i bytes)

no_part : {A : Type 0} (size : ℕ) (one : List ℕ → A) (n i : ℕ) (bytes : List ℕ) → n ≤ i
    → slice_get (parts_in size one n bytes) i ≡ None
no_part size one zero i bytes le = refl
no_part size one (suc n) zero bytes le = absurd (omega arith)
no_part size one (suc n) (suc i) bytes le = no_part size one n i (drop size bytes) (omega arith)

pub parts_counted : {A : Type 0} (size : ℕ) (one : List ℕ → A) (n : ℕ) (bytes : List ℕ)
    → length (parts_in size one n bytes) ≡ n
parts_counted size one zero bytes = refl
parts_counted size one (suc n) bytes = ap suc (parts_counted size one n (drop size bytes))

all_parts : {A : Type 0} (size : ℕ) (one : List ℕ → A) (n : ℕ) (bytes : List ℕ)
    → take n (parts_in size one n bytes) ≡ parts_in size one n bytes
all_parts size one zero bytes = refl
all_parts size one (suc n) bytes = ap (λ xs. one (take size bytes) ∷ xs)
    (all_parts size one n (drop size bytes))

pub at_get : {A : Type 0} (ys : List A) (i : ℕ) (x : A) → slice_get ys i ≡ Some x
    → get_or ys i x ≡ x
at_get [] i x e = refl
at_get (y ∷ ys) zero x e = cc
at_get (y ∷ ys) (suc i) x e = at_get ys i x e

-- one part more is copied
pub one_more_part : {A : Type 0} (xs ys : List A) (i : ℕ) (x : A) → i < length xs → i < length ys
    → take i xs ≡ take i ys → slice_get ys i ≡ Some x → take (i + 1) (set xs i x) ≡ take (i + 1) ys
one_more_part {A = A} xs ys i x below within same is =
    take_more_set xs i x below ∙ ap (λ (t : List A). t ++ x ∷ []) same
    ∙ ap (λ (y : A). take i ys ++ y ∷ []) (sym (at_get ys i x is))
    ∙ sym (take_more ys i x within)

-- ---- values

pub value_here : (n i : ℕ) (bytes : List ℕ) → i < n
    → slice_get (values_in n bytes) i ≡ Some (from_be_bytes w32 (take 4 (drop (4 * i) bytes)))
value_here = part_here 4 (from_be_bytes w32)

pub no_value : (n i : ℕ) (bytes : List ℕ) → n ≤ i → slice_get (values_in n bytes) i ≡ None
no_value = no_part 4 (from_be_bytes w32)

pub values_counted : (n : ℕ) (bytes : List ℕ) → length (values_in n bytes) ≡ n
values_counted = parts_counted 4 (from_be_bytes w32)

pub all_values : (n : ℕ) (bytes : List ℕ) → take n (values_in n bytes) ≡ values_in n bytes
all_values = all_parts 4 (from_be_bytes w32)

pub ruleset copying_values = (all_values, values_counted)

-- ---- entries

pub entry_here : (n i : ℕ) (bytes : List ℕ) → i < n
    → slice_get (wants_in n bytes) i ≡ Some (want_in (take 11 (drop (11 * i) bytes)))
entry_here = part_here 11 want_in

pub no_entry : (n i : ℕ) (bytes : List ℕ) → n ≤ i → slice_get (wants_in n bytes) i ≡ None
no_entry = no_part 11 want_in

pub wants_counted : (n : ℕ) (bytes : List ℕ) → length (wants_in n bytes) ≡ n
wants_counted = parts_counted 11 want_in

pub all_wants : (n : ℕ) (bytes : List ℕ) → take n (wants_in n bytes) ≡ wants_in n bytes
all_wants = all_parts 11 want_in

pub ruleset copying_wants = (all_wants, wants_counted)

-- ---- reasons

pub reason_here : (n i : ℕ) (bytes : List ℕ) → i < n
    → slice_get (whys_lent n bytes) i ≡ Some (why_in (take 4 (drop (4 * i) bytes)))
reason_here = part_here 4 why_in

pub no_reason : (n i : ℕ) (bytes : List ℕ) → n ≤ i → slice_get (whys_lent n bytes) i ≡ None
no_reason = no_part 4 why_in

pub whys_counted : (n : ℕ) (bytes : List ℕ) → length (whys_lent n bytes) ≡ n
whys_counted = parts_counted 4 why_in

pub all_whys : (n : ℕ) (bytes : List ℕ) → take n (whys_lent n bytes) ≡ whys_lent n bytes
all_whys = all_parts 4 why_in

pub ruleset copying_reasons = (all_whys, whys_counted)
