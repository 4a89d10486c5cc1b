-- How the reasons of a request are told: why what is above its interaction can't run.
use Rattle.std.specs.Option.{option_map, option_map_or}
use Rattle.std.specs.Prelude.{List, Option, [], codes, find, ℕ, ◌++◌, ◌==◌}
use Rattle.bip_model.specs.Parts.{Participant}
use Rattle.bip_model.specs.Steps.{participants_of}
use Rattle.bip_model.specs.declared.numbering.PortId.{PortId}
use Rattle.bip_model.specs.declared.parts.System.{System}
use Rattle.bip_model.specs.declared.reasons.Cause.TheVariants.{Guard, Port}
use Rattle.bip_model.specs.declared.reasons.Cause.{Cause}
use Rattle.bip_model.specs.declared.reasons.Why.{Why}
use Rattle.bip_tell.specs.Words.{named, port_named}

-- the port by which an interaction of these participants moves a component
abbrev pub port_in : List Participant → ℕ → Option PortId
port_in participants c =
    option_map (λ (q : Participant). q.1) (find (λ (q : Participant). q.0.0 == c) participants)

-- ` s`: that port, of an interaction
abbrev pub port_for : System → ℕ → ℕ → List ℕ
port_for m b c =
    option_map_or (λ (port : PortId). port_named m c port.0) (port_in (participants_of m b) c) []

-- ` B lacks s` or ` its guard is false`
abbrev pub cause_text : System → ℕ → Cause → List ℕ
cause_text m b (Port c) = named m.component_names c.0 ++ (codes " lacks" ++ port_for m b c.0)
cause_text m b Guard = codes " its guard is false"

-- `; y can't: B lacks s`
abbrev pub told_reason : System → Why → List ℕ
told_reason m y =
    codes ";" ++ (named m.interaction_names y.inter.0 ++ (codes " can't:"
    ++ cause_text m y.inter.0 y.cause))
