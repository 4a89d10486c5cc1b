-- Surveys: the walks of many seeds, and their tally.
use Rattle.std.specs.Prelude.{◌≡◌, List, length, ℕ}
use Rattle.bip_model.specs.declared.parts.System.{System}
use Rattle.bip_walk.specs.Tallies.{EachSeed, IsStuckAfter, Tallied, Traced, tally_of}
use Rattle.bip_walk.specs.Walking.{IsWalk}

-- this came of the walk of a seed
pub record IsSeedWalk (m : System) (base count seed : ℕ) (t : Traced) : Type 0 where
  pub named : t.seed ≡ seed
  pub walk : IsWalk m base seed count t.grants
  pub stuck : IsStuckAfter m t.grants t.is_stuck

-- this is the tally of the walks of so many seeds, from the first one on
pub record IsSurvey (m : System) (base count first seeds : ℕ) (tally : Tallied) : Type 0 where
  pub traced : List Traced
  pub each : length traced ≡ seeds
  pub walks : EachSeed (IsSeedWalk m base count) first traced
  pub is : tally ≡ tally_of (length m.interactions) traced
