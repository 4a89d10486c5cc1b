-- Wants: what a grant does with which components, and with which numbers.
use Rattle.std.specs.Prelude.{ℕ, ◌≤◌, ◌<◌, Bool, true, false, ◌==◌, ◌&&◌, List, [], ◌∷◌, length}
use Rattle.std.specs.Prelude.{map, max, All, IsTrue, if◌then◌else◌}
use Rattle.std.specs.List.{list_any}
use Rattle.std.specs.List.Sorted.{IsStrictlyIncreasing}
use Rattle.bip_model.specs.declared.wants.Role.{Role}
use Rattle.bip_model.specs.declared.wants.Role.TheVariants.{Moved, Seen}
use Rattle.bip_model.specs.declared.wants.Want.{Want}

abbrev pub is_moved : Role → Bool
is_moved Moved = true
is_moved Seen = false

-- the components of wants, in the order of the wants
abbrev pub components_of : List Want → List ℕ
components_of wants = map (λ w. w.comp.0) wants

-- lists that can be the wants of one grant
pub record IsWants (wants : List Want) : Type 0 where
  pub few : length wants ≤ 32
  pub rising : IsStrictlyIncreasing (components_of wants)
  pub numbered : All (λ (w : Want). 1 ≤ w.number) wants
  pub moving : IsTrue (list_any (λ (w : Want). is_moved w.role) wants)

-- the number with which wants move a component; 0 where they don't move it
abbrev pub moved_in : List Want → ℕ → ℕ
moved_in [] c = 0
moved_in (w ∷ ws) c = if (w.comp.0 == c) && is_moved w.role then w.number else moved_in ws c

-- each want's number is above the used number of its component
abbrev pub IsFresh : (ℕ → ℕ) → List Want → Type 0
IsFresh used wants = All (λ (w : Want). used w.comp.0 < w.number) wants

-- used numbers after wants were granted: the moved numbers are used then, the seen ones aren't
abbrev pub raised : (ℕ → ℕ) → List Want → ℕ → ℕ
raised used wants c = max (used c) (moved_in wants c)

-- What contracts of private functions say.

-- used numbers after one want
abbrev pub used_up : Want → (ℕ → ℕ) → ℕ → ℕ
used_up w used c =
    if (w.comp.0 == c) && is_moved w.role then max (used c) w.number else used c
