-- Lanes and rows of a layout, one beside or below another, and texts that begin and end nothing.
use Rattle.std.proofs.Common.{◌≤◌, ℕ, ◌+◌, ◌*◌, List, [], ◌∷◌, length, max, arith, zero, suc, Bool}
use Rattle.std.proofs.Common.{◌≡◌, ◌-◌, None, Option, Some, ap, false, refl, sym}
use Rattle.std.proofs.lemmas.Bool.{false≢true}
use Rattle.std.proofs.Math.Nat.{mul-le-mul_right}
use Rattle.std.specs.Borrow.{Bor}
use Rattle.std.specs.List.{fold}
use Rattle.std.specs.Prelude.{if◌then◌else◌, is_some}
use Rattle.bip_model.specs.declared.numbering.CompId.{CompId}
use Rattle.bip_model.specs.Naming.{name_in}
use Rattle.bip_model.specs.declared.parts.System.{System}
use Rattle.bip_draw.specs.Laws.{LanesAreApart, RowsAreApart}
use Rattle.bip_draw.specs.Layout.{half_of, has_lane, height_of, lanes_before}

-- where none are asked for, each component has a lane
pub all_lanes : (only : Option (Bor (List CompId))) (c : ℕ) → is_some only ≡ false
    → c ≡ lanes_before only c
all_lanes None zero none = refl
all_lanes None (suc c) none = omega (arith, all_lanes None c none)
all_lanes (Some asked) c none = absurd (false≢true (sym none))

-- one component more
pub lanes_more : (only : Option (Bor (List CompId))) (c : ℕ)
    → lanes_before only (c + 1) ≡ lanes_before only c + (if has_lane only c then 1 else 0)
lanes_more only c =
    let on : c + 1 ≡ suc c = omega arith in
    ap (lanes_before only) on

-- and more of them
lanes_up : (only : Option (Bor (List CompId))) (c k d : ℕ) → d ≡ c + k
    → lanes_before only c ≤ lanes_before only d
lanes_up only c zero d e =
    let same : d ≡ c = omega (arith, e) in
    omega (arith, ap (lanes_before only) same)
lanes_up only c (suc k) d e =
    let before = lanes_up only c k (c + k) refl in
    let same : d ≡ (c + k) + 1 = omega (arith, e) in
    let more = lanes_more only (c + k) in
    omega (arith, before, ap (lanes_before only) same, more)

from_the_start : {X : Type 0} (measure : X → ℕ) (a : ℕ) (xs : List X)
    → a ≤ fold (λ most x. max most (measure x)) a xs
from_the_start measure a [] = omega arith
from_the_start measure a (x ∷ xs) = let more = from_the_start measure (max a (measure x)) xs in
    omega (arith, more)

-- nothing of a list is longer than the longest
within-fold : (a : ℕ) (xs : List (List ℕ)) (i : ℕ)
    → length (name_in xs i) ≤ fold (λ most name. max most (length name)) a xs
within-fold a [] i = omega arith
within-fold a (x ∷ xs) zero = let more = from_the_start length (max a (length x)) xs in
    omega (arith, more)
within-fold a (x ∷ xs) (suc i) = within-fold (max a (length x)) xs i

half_holds : (m : System) (values : Bool) (c : ℕ)
    → 4 * length (name_in m.component_names c) + 12 ≤ half_of values m
half_holds m values c = let name = within-fold 0 m.component_names c in omega (arith, name)

pub lanes_are_apart : LanesAreApart
lanes_are_apart m values only classes c d before laned =
    let half = half_of values m in
    let on : lanes_before only (c + 1) ≡ lanes_before only c + 1 = rw laned at (lanes_more only c) in
    let up = lanes_up only (c + 1) (d - (c + 1)) d (omega (arith, before)) in
    let next : lanes_before only c + 1 ≤ lanes_before only d = omega (arith, on, up) in
    let further : (lanes_before only c + 1) * half ≤ lanes_before only d * half =
    mul-le-mul_right half next in
    let first = half_holds m values c in
    let second = half_holds m values d in
    omega (arith, further, first, second)

height_holds : (m : System) (values : Bool) → 34 ≤ height_of values m
height_holds m values = omega arith

pub rows_are_apart : RowsAreApart
rows_are_apart m values only classes i j before =
    let height = height_of values m in
    let next : i + 1 ≤ j = omega (arith, before) in
    let further : (i + 1) * height ≤ j * height = mul-le-mul_right height next in
    let high = height_holds m values in
    omega (arith, further, high)
