-- What is touched is a component of the model, and what touches is an interaction of it.
use Rattle.std.proofs.Common.{◌≡◌, ℕ, ◌<◌, true, false, List, [], length, inl, inr, arith}
use Rattle.bip_model.specs.Parts.{IsSystem}
use Rattle.bip_model.specs.Priorities.{HasAbove, IsPairOf, declared, through}
use Rattle.bip_model.specs.Steps.{IsLookedAt, moves}
use Rattle.bip_model.specs.declared.parts.Pair.{Pair}
use Rattle.bip_model.specs.declared.parts.System.{System}
use Rattle.std.specs.Prelude.{All}
use Rattle.std.proofs.lemmas.Bool.{cases_lt, false≢true}
use Rattle.std.proofs.lemmas.List.Elements.{All-contains}
use Rattle.std.proofs.lemmas.Option.{slice_get_cases, slice_get_within}
use Rattle.std.proofs.lemmas.List.{get_or_past}
use Rattle.bip_model.proofs.LookLemmas.{looked_known, moves_known}
use Rattle.bip_partition.specs.Plans.{ClassTouches, Planned, Touches}

pub touched_known : (m : System) (a c : ℕ) → IsSystem m → Touches m a c → c < length m.components
touched_known m a c valid (inl moved) = moves_known m a c valid.so_far moved
touched_known m a c valid (inr looked) = looked_known m a c valid.so_far looked

pub touching_known : (p : Planned) (k c : ℕ) → ClassTouches p k c → k < length p.classes.members
touching_known p k c at = elim (cases_lt k (length p.classes.members)) [
  | inl within ↦ within
  | inr past ↦ let none = rw (get_or_past p.classes.members k [] past) at at in
      absurd (omega (arith, none.2))
]

above_known : (count a b : ℕ) (pairs : List Pair) → All (IsPairOf count) pairs → HasAbove pairs a b
    → a < count
above_known count a b pairs known (declared at) =
    (All-contains (IsPairOf count) pairs _ known at).low
above_known count a b pairs known (through at rest) =
    (All-contains (IsPairOf count) pairs _ known at).low

-- what looks at something is an interaction of the model
pub looking_known : (m : System) (a c : ℕ) → IsSystem m → IsLookedAt m a c
    → a < length m.interactions
looking_known m a c valid looked = above_known
    (length m.interactions) a looked.higher m.priorities valid.so_far.priorities looked.above

-- so is what moves something
moving_known : (m : System) (a c : ℕ) → moves m a c ≡ true → a < length m.interactions
moving_known m a c moved = elim (slice_get_cases m.interactions a).1 [
  | inl here ↦ slice_get_within m.interactions a here.0 here.2
  | inr past ↦ let none : false ≡ true = rw past.1 at moved in absurd (false≢true none)
]

pub touches_known : (m : System) (a c : ℕ) → IsSystem m → Touches m a c → a < length m.interactions
touches_known m a c valid (inl moved) = moving_known m a c moved
touches_known m a c valid (inr looked) = looking_known m a c valid looked

-- what a class touches is a component of the model
pub class_touched_known : (p : Planned) (k c : ℕ) → IsSystem p.model → ClassTouches p k c
    → c < length p.model.components
class_touched_known p k c valid at = touched_known p.model at.1.0 c valid at.4
