-- Events by chance, one after another: which ones are drawn from a seed, and what they lead to.
use Rattle.std.specs.Prelude.{List, [], length, ℕ, ◌++◌, ◌<◌, ◌∷◌, ◌≤◌}
use Rattle.rand_pcg.specs.Lcg.{Lcg}
use Rattle.rand_pcg.specs.Pcg.{pcg32}
use Rattle.bip_bank.specs.Laws.{MovesInOneWay}
use Rattle.bip_bank.specs.Sharing.{in_flight}
use Rattle.bip_core.specs.Runs.{IsEventCounted, report_of}
use Rattle.bip_core.specs.Worlds.{WorldContent}
use Rattle.bip_core.specs.declared.events.Event.{Event}
use Rattle.bip_core.specs.declared.runs.Report.{Report}
use Rattle.bip_walk.specs.Chance.{generator_of}
use Rattle.bip_schedule.specs.Busy.{IsBusyDrawn, IsQuiet}
use Rattle.bip_schedule.specs.Drawing.{IsDrawn}
use Rattle.bip_schedule.specs.declared.drawing.Draw.TheVariants.{Busy, Table}
use Rattle.bip_schedule.specs.declared.drawing.Draw.{Draw}
use Rattle.bip_schedule.specs.declared.drawing.Draws.{Draws}

-- an event is that of a word in a world: by the table, by what is in flight there and inside its
-- bank; or among the events that have something to do, where what stations share moves in one way
abbrev pub IsDrawnIn : Draw → WorldContent → ℕ → Event → Type 0
IsDrawnIn Table w word event =
    IsDrawn w.plan word (length w.mail) (in_flight w.bank.sharing) event
IsDrawnIn Busy w word event = MovesInOneWay w.bank.sharing → IsBusyDrawn w word event

-- no word is an event there: none has anything to do
abbrev pub EndsDraws : Draw → WorldContent → Type 0
EndsDraws Table w = ⊥
EndsDraws Busy w = MovesInOneWay w.bank.sharing → IsQuiet w

-- events that a generator draws from a world on, where they lead, the generator then, and their
-- report: none; or one more, that of the generator's next word in the world to which those before
-- it lead
pub data AreDrawn (by : Draw) (start : Lcg) (w : WorldContent) :
    List Event → WorldContent → Lcg → Report → Type 0 where
  none_drawn : AreDrawn by start w [] w start (report_of [])
  one_drawn : (events : List Event) (v : WorldContent) (words : Lcg) (report : Report)
      (event : Event) (next : WorldContent) (later : Report)
      → AreDrawn by start w events v words report
      → IsDrawnIn by v (pcg32 words).0 event
      → IsEventCounted event v next report later
      → AreDrawn by start w (events ++ event ∷ []) next (pcg32 words).1 later

-- so many events are drawn from a seed, or fewer behind which no word is one, and lead from one
-- world to another; this is their report
pub record AreSeeded (seed : ℕ) (draws : Draws) (events : List Event) (w v : WorldContent)
    (report : Report) : Type 0 where
  pub words : Lcg
  pub drawn : AreDrawn draws.by (generator_of seed) w events v words report
  pub few : length events ≤ draws.count
  pub ended : length events < draws.count → EndsDraws draws.by v
