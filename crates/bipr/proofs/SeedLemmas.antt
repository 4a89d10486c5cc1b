-- The schedule of a seed is that of the events that were drawn.
use Rattle.std.proofs.Common.{◌≡◌, ℕ, List, refl, subst, sym}
use Rattle.bip_bank.specs.Sharing.{Sharing}
use Rattle.bip_core.specs.Runs.{IsLossless}
use Rattle.bip_core.specs.Starting.{IsNewWorld}
use Rattle.bip_core.specs.Worlds.{WorldContent}
use Rattle.bip_core.specs.declared.events.Event.{Event}
use Rattle.bip_core.specs.declared.runs.Report.{Report}
use Rattle.bip_partition.specs.Plans.{Planned}
use Rattle.bip_schedule.specs.Schedules.{IsEventText}
use Rattle.bip_schedule.specs.Seeding.{AreSeeded}
use Rattle.bip_schedule.specs.Writing.{IsWritten}
use Rattle.bipr.specs.Resolvers.{IsSharedAtFirst}
use Rattle.bipr.specs.Seeds.{IsSeedSchedule}
use Rattle.bipr.specs.declared.commands.seed.SeedArguments.{SeedArguments}

pub is_seed_schedule : (p : Planned) (asked : SeedArguments) (schedule : List ℕ)
    (events : List Event) (w v : WorldContent) (report : Report) (sharing : Sharing)
    → IsNewWorld p 0 w → w.bank.sharing ≡ sharing → IsSharedAtFirst asked.resolver p sharing
    → AreSeeded asked.seed asked.draws events w v report → IsLossless report
    → IsWritten p events schedule → IsEventText p schedule events
    → IsSeedSchedule p asked schedule
is_seed_schedule p asked schedule events w v report sharing new shares first seeded whole written
    reads =
    record {
      trace = v.trace;
      of_seed = record {
        first = w;
        last = v;
        events = events;
        report = report;
        new = new;
        shared = subst (IsSharedAtFirst asked.resolver p) (sym shares) first;
        seeded = seeded;
        is = refl;
      };
      whole = whole;
      written = written;
      reads = reads;
    }
