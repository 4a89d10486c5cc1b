-- Actors: what they wait for.
use Rattle.std.specs.Prelude.{⊤}
use Rattle.bip_host.specs.declared.actors.Step.{Step}
use Rattle.bip_host.specs.declared.actors.Step.TheVariants.{Act, Over}

module _ {A : Type 0} where
  -- an actor waits for the act that a step wants, if it wants one
  abbrev pub IsAwaited : (A → Type 0) → Step A → Type 0
  IsAwaited awaits (Act act) = awaits act
  IsAwaited awaits (Over turn) = ⊤
