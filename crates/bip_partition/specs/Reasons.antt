-- What contracts of private functions say: tests of the reasons of a request.
use Rattle.std.specs.Prelude.{◌≡◌, ℕ, Bool, ◌&&◌, List, Option, Some, IsSomeAnd, length, slice_get}
use Rattle.std.specs.List.{list_all}
use Rattle.bip_model.specs.Parties.{IsBorne, has_want_of}
use Rattle.bip_model.specs.Parts.{Participant}
use Rattle.bip_model.specs.Steps.{moves, participants_of}
use Rattle.bip_model.specs.declared.numbering.InterId.{InterId}
use Rattle.bip_model.specs.declared.parts.System.{System}
use Rattle.bip_model.specs.declared.reasons.Cause.{Cause}
use Rattle.bip_model.specs.declared.reasons.Cause.TheVariants.{Port, Guard}
use Rattle.bip_model.specs.declared.reasons.Why.{Why}
use Rattle.bip_model.specs.declared.wants.Want.{Want}

-- whether wants have one of each participant of an interaction
abbrev pub want_each : System → List Want → ℕ → Bool
want_each m wants b = list_all (λ (q : Participant). has_want_of wants q.0.0) (participants_of m b)

-- whether the cause of an interaction's reason names participants alone, each of which is wanted
abbrev pub is_cause_borne : System → List Want → ℕ → Cause → Bool
is_cause_borne m wants b (Port c) = moves m b c.0 && has_want_of wants c.0
is_cause_borne m wants b Guard = want_each m wants b

-- there is a reason, for this interaction, and borne by wants
abbrev pub IsReasonFor : System → List Want → ℕ → Option Why → Type 0
IsReasonFor m wants b reason = IsSomeAnd reason (λ y. (y.inter.0 ≡ b) × IsBorne m wants y)

-- reasons are as many as these interactions, each for the one at its place, and borne by wants
pub record AreInTurn (m : System) (above : List InterId) (wants : List Want) (reasons : List Why)
    : Type 0 where
  pub count : length reasons ≡ length above
  pub each : (k : ℕ) (b : InterId) → slice_get above k ≡ Some b
      → IsReasonFor m wants b.0 (slice_get reasons k)
