-- Reasons: why nothing above the interaction of a request is enabled.
use Rattle.std.specs.Prelude.{◌≡◌, ◌↔◌, ℕ, ◌≤◌, ◌<◌, ◌==◌, List, [], length, map, take, true}
use Rattle.std.specs.Prelude.{All, Any, Option, None, Some, ⊤, if◌then◌else◌}
use Rattle.std.specs.List.Sorted.{IsStrictlyIncreasing}
use Rattle.bip_model.specs.Priorities.{HasAbove}
use Rattle.bip_model.specs.Steps.{moves}
use Rattle.bip_model.specs.declared.parts.System.{System}
use Rattle.bip_model.specs.declared.reasons.Cause.{Cause}
use Rattle.bip_model.specs.declared.reasons.Cause.TheVariants.{Port, Guard}
use Rattle.bip_model.specs.declared.reasons.Kept.{Kept}
use Rattle.bip_model.specs.declared.reasons.Why.{Why}

-- the interactions of reasons, in the order of the reasons
abbrev pub inters_of : List Why → List ℕ
inters_of reasons = map (λ (y : Why). y.inter.0) reasons

-- a cause that has a number of its own: 65535 stands for a guard, so no port is component 65535's
abbrev pub IsNameable : Cause → Type 0
IsNameable (Port c) = c.0 < 65535
IsNameable Guard = ⊤

-- lists that can be the reasons of one request
pub record IsReasons (reasons : List Why) : Type 0 where
  pub few : length reasons ≤ 127
  pub rising : IsStrictlyIncreasing (inters_of reasons)
  pub nameable : All (λ (y : Why). IsNameable y.cause) reasons

-- a component that the cause of an interaction's reason names: that of the port, or each one that
-- the interaction moves
abbrev pub IsNamedBy : System → ℕ → Cause → ℕ → Type 0
IsNamedBy m b (Port d) c = d.0 ≡ c
IsNamedBy m b Guard c = moves m b c ≡ true

-- a component that one of these reasons names
abbrev pub AreNaming : System → List Why → ℕ → Type 0
AreNaming m reasons c = Any (λ (y : Why). IsNamedBy m y.inter.0 y.cause c) reasons

-- there is a reason for each interaction above one, and for no other
abbrev pub AreForEach : System → ℕ → List Why → Type 0
AreForEach m a reasons =
    (b : ℕ) → Any (λ (y : Why). y.inter.0 ≡ b) reasons ↔ HasAbove m.priorities a b

-- the number that stands for a cause: that of the component whose port is off, or 65535
abbrev pub cause_number : Cause → ℕ
cause_number (Port c) = c.0
cause_number Guard = 65535

-- the cause that a number stands for
abbrev pub cause_of_number : ℕ → Cause
cause_of_number number = if number == 65535 then Guard else Port (record { 0 = number })

-- What contracts of private functions say.

-- a reason as it is kept, and the reason that is kept so
abbrev pub entry_of : Why → Kept
entry_of y = record { inter = y.inter; cause = cause_number y.cause }

abbrev pub why_of : Kept → Why
why_of kept = record { inter = kept.inter; cause = cause_of_number kept.cause }

-- what is kept, if anything
abbrev pub kept_in : Option (List Kept) → List Kept
kept_in None = []
kept_in (Some kept) = kept

-- the first reasons that are kept
abbrev pub whys_in : ℕ → List Kept → List Why
whys_in count kept = map why_of (take count kept)
