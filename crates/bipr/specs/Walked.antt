-- The answer to walks of a model.
use Rattle.std.specs.Prelude.{◌≡◌, ◌∷◌, ◌++◌, ℕ, Bool, List, [], None, Option, Some, false, true}
use Rattle.std.specs.Prelude.{length}
use Rattle.std.specs.Prelude.{if◌then◌else◌, nat_lt}
use Rattle.bip_draw.specs.Tallies.{tally_text}
use Rattle.bip_model.specs.declared.grants.Grant.{Grant}
use Rattle.bip_model.specs.declared.parts.System.{System}
use Rattle.bip_partition.specs.Plans.{Planned}
use Rattle.bip_replay.specs.Replays.{IsRunOf}
use Rattle.bip_replay.specs.Writing.{text_of}
use Rattle.bip_walk.specs.Surveys.{IsSurvey}
use Rattle.bip_walk.specs.Tallies.{IsStuckAfter, Tallied, Traced, tally_of}
use Rattle.bip_walk.specs.Walking.{IsWalk}
use Rattle.bip_answers.specs.Answers.{saying}
use Rattle.bipr.specs.Scheduled.{reporting}
use Rattle.bipr.specs.Stops.{out_of_memory}
use Rattle.bipr.specs.Wording.{stuck_text, walks_text}
use Rattle.bip_answers.specs.declared.answers.Answer.{Answer}
use Rattle.bip_answers.specs.declared.answers.Status.TheVariants.{Done}
use Rattle.bipr.specs.declared.commands.walk.WalkArguments.{WalkArguments}
use Rattle.bipr.specs.declared.walked.Walks.{Walks}
use Rattle.bipr.specs.declared.walked.Walks.TheVariants.{Many, One}

-- which walks are asked for, by the seed and by how many seeds: by just one of the two
abbrev pub walks_of : Option ℕ → Option ℕ → Option Walks
walks_of (Some seed) None = Some (One seed)
walks_of None (Some seeds) = Some (Many seeds)
walks_of seed seeds = None

-- what is said beside a walk that was to have so many grants: that it ends after fewer
abbrev pub walk_end : ℕ → List Grant → List ℕ
walk_end count gs = if nat_lt (length gs) count then stuck_text (length gs) else []

-- the text of a tally, where that is asked for
abbrev pub tally_stats : System → Bool → Tallied → List ℕ
tally_stats m true tally = tally_text m tally
tally_stats m false tally = []

-- and behind that what its one trace comes to
abbrev pub trace_stats : System → Bool → Traced → List ℕ
trace_stats m is_asked t = tally_stats m is_asked (tally_of (length m.interactions) (t ∷ []))

-- what the walks of many seeds come to
abbrev pub survey_text : System → Tallied → List ℕ
survey_text m tally = walks_text tally.traces tally.grants ++ tally_text m tally

-- the answer to walks of a plan's model
pub data IsWalkAnswer (p : Planned) (asked : WalkArguments) : Walks → Answer → Type 0 where
  -- the trace of the walk of the seed, which is that of a run, of as many grants
  walked : (t : Traced) → IsWalk p.model asked.base t.seed asked.grants t.grants
      → IsStuckAfter p.model t.grants t.is_stuck
      → IsRunOf p.model asked.base (text_of p.model t.grants) (length t.grants)
      → IsWalkAnswer p asked (One t.seed)
      (reporting (text_of p.model t.grants)
      (walk_end asked.grants t.grants ++ trace_stats p.model asked.with_stats t))
  -- what the walks of so many seeds come to
  surveyed : (seeds : ℕ) (tally : Tallied)
      → IsSurvey p.model asked.base asked.grants 1 seeds tally
      → IsWalkAnswer p asked (Many seeds) (saying Done (survey_text p.model tally))
  -- memory is out
  walk_lacking : (walks : Walks) → IsWalkAnswer p asked walks out_of_memory

-- What contracts of private functions say.

-- what is said beside the walk of a seed
pub record IsBesideWalk (m : System) (asked : WalkArguments) (seed : ℕ) (gs : List Grant)
    (text : List ℕ) : Type 0 where
  pub is_stuck : Bool
  pub stuck : IsStuckAfter m gs is_stuck
  pub is : text
      ≡ walk_end asked.grants gs ++ trace_stats m asked.with_stats
      (record { seed = seed; grants = gs; is_stuck = is_stuck })
