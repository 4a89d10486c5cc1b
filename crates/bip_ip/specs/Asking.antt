-- What a class asks for, and what it tells the components, by the offers that it holds.
use Rattle.std.specs.Prelude.{ℕ, ◌==◌, ◌||◌, Bool, List, filter, map, zip, if◌then◌else◌}
use Rattle.std.specs.List.{list_any}
use Rattle.bip_model.specs.Expressions.{transferred}
use Rattle.bip_model.specs.Parts.{Participant}
use Rattle.bip_model.specs.Steps.{moves, participants_of, transfer_of}
use Rattle.bip_model.specs.declared.messages.Notify.{Notify}
use Rattle.bip_model.specs.declared.messages.Offer.{Offer}
use Rattle.bip_model.specs.declared.numbering.CompId.{CompId}
use Rattle.bip_model.specs.declared.parts.System.{System}
use Rattle.bip_model.specs.declared.reasons.Cause.{Cause}
use Rattle.bip_model.specs.declared.reasons.Cause.TheVariants.{Port, Guard}
use Rattle.bip_model.specs.declared.reasons.Why.{Why}
use Rattle.bip_model.specs.declared.wants.Role.TheVariants.{Moved, Seen}
use Rattle.bip_model.specs.declared.wants.Want.{Want}

-- the values that the participants of an interaction offer
abbrev pub values_offered : System → (ℕ → Offer) → ℕ → List (List ℕ)
values_offered m o a = map (λ (q : Participant). (o q.0.0).values) (participants_of m a)

-- what a participant is told: to move by its port, from these values, with the number of its offer
abbrev pub notify_of : (ℕ → Offer) → Participant × List ℕ → Notify
notify_of o told =
    record {
      number = (o told.0.0.0).number;
      values = told.1;
      comp = told.0.0;
      port = told.0.1;
    }

-- what the participants of an interaction are told, by component: each its values after the
-- transfer, which reads those that all of them offer
abbrev pub told_by : System → (ℕ → Offer) → ℕ → List Notify
told_by m o a =
    map (notify_of o)
    (zip (participants_of m a) (transferred (transfer_of m a) (values_offered m o a)))

-- What contracts of private functions say.

-- whether the cause of an interaction's reason names a component
abbrev pub names : System → ℕ → Cause → ℕ → Bool
names m b (Port d) c = d.0 == c
names m b Guard c = moves m b c

-- whether an interaction moves a component, or reasons name it
abbrev pub is_wanted : System → ℕ → List Why → ℕ → Bool
is_wanted m a reasons c =
    moves m a c || list_any (λ (y : Why). names m y.inter.0 y.cause c) reasons

-- of these components those that are wanted
abbrev pub wanted_among : System → ℕ → List Why → List CompId → List CompId
wanted_among m a reasons comps = filter (λ (c : CompId). is_wanted m a reasons c.0) comps

-- what an interaction wants of a component, by offers
abbrev pub want_by : System → (ℕ → Offer) → ℕ → CompId → Want
want_by m o a c =
    record { number = (o c.0).number; comp = c; role = if moves m a c.0 then Moved else Seen }
