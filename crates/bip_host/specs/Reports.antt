-- What a host reports, and why it gives no report.
use Rattle.std.specs.Prelude.{◌≡◌, ℕ, ◌+◌, ◌*◌, ◌==◌, ◌≤◌, ◌||◌, Bool, IsTrue, List, None, Option}
use Rattle.std.specs.Prelude.{Some, false, if◌then◌else◌, length, max, nat_le, true, ⊤}
use Rattle.bip_host.specs.Starting.{IsStationCount}
use Rattle.bip_partition.specs.Plans.{Planned}
use Rattle.bip_host.specs.Counts.{sum_of}
use Rattle.bip_host.specs.declared.actors.NodeEnd.{NodeEnd}
use Rattle.bip_host.specs.declared.hosts.Asked.{Asked}
use Rattle.bip_host.specs.declared.hosts.Ended.{Ended}
use Rattle.bip_host.specs.declared.hosts.Ended.TheVariants.{ByGrants, ByQuiet, ByTurns}
use Rattle.bip_host.specs.declared.hosts.Kind.{Kind}
use Rattle.bip_host.specs.declared.hosts.Limits.{Limits}
use Rattle.bip_host.specs.declared.hosts.Tables.{Tables}
use Rattle.bip_model.specs.declared.grants.Grant.{Grant}
use Rattle.bip_model.specs.declared.parts.System.{System}
use Rattle.bip_host.specs.Books.{SharedContent, blames_grant}
use Rattle.bip_host.specs.declared.faults.HostFault.TheVariants as host
use Rattle.bip_host.specs.declared.faults.HostFault.{HostFault}
use Rattle.bip_host.specs.declared.hosts.HostFigures.{HostFigures}
use Rattle.bip_host.specs.declared.hosts.HostReport.{HostReport}
use Rattle.bip_host.specs.declared.hosts.Totals.{Totals}
use Rattle.bip_replay.specs.Runs.{IsModelRun}
use Rattle.bip_replay.specs.declared.faults.BookFault.TheVariants.{Below, Memory, NotEnabled}
use Rattle.bip_replay.specs.declared.faults.BookFault.TheVariants.{Number, Parties}
use Rattle.bip_replay.specs.declared.faults.BookFault.{BookFault}

-- how many threads a host of a plan and a kind has: one for each component, for each class, and
-- for each station
abbrev pub IsThreadCount : Planned → Kind → ℕ → Type 0
IsThreadCount p k n =
    (stations : ℕ) × IsStationCount p k stations
    × (n ≡ length p.model.components + length p.classes.members + stations)

-- of no thread so far
abbrev pub no_totals : Kind → Tables → Totals
no_totals k tables =
    record {
      figures =
          record {
            kind = k;
            tables = tables;
            ended = ByTurns;
            threads = 0;
            turns = 0;
            most_turns = 0;
            passes = 0;
            asks = 0;
            refusals = 0;
            busy = 0;
            drawn = 0;
            entered = 0;
          };
      told = 0;
      lost = 0;
      wanted_memory = false;
      is_short = false;
    }

-- with what one more thread left
abbrev pub with_end : NodeEnd → Totals → Totals
with_end e t =
    record {
      figures =
          record t.figures {
            threads = t.figures.threads + 1;
            turns = sum_of t.figures.turns e.turns;
            most_turns = max t.figures.most_turns e.turns;
            passes = sum_of t.figures.passes e.counts.passes;
            asks = sum_of t.figures.asks e.counts.asks;
            refusals = sum_of t.figures.refusals e.counts.refusals;
            busy = sum_of t.figures.busy e.counts.busy;
            drawn = sum_of t.figures.drawn e.drawn;
          };
      told = sum_of t.told e.counts.told;
      lost = sum_of t.lost e.counts.lost;
      wanted_memory = t.wanted_memory || e.counts.wanted_memory;
      is_short = t.is_short;
    }

-- the totals of threads, of the form that was asked for, each of which made at most as many turns;
-- they fall short where there weren't as many threads
pub record AreTotalsOf (asked : Asked) (t : Totals) : Type 0 where
  pub kind : t.figures.kind ≡ asked.kind
  pub tables : t.figures.tables ≡ asked.tables
  pub turns : t.figures.turns ≤ t.figures.threads * asked.limits.turns
  pub most : t.figures.most_turns ≤ asked.limits.turns
  pub threads : t.is_short ≡ false → t.figures.threads ≡ asked.threads

-- the figures of a host: it had this kind of third layer, whose tables were shared so, as many
-- threads as that asks for, and each of them made at most so many turns
pub record AreFiguresOf (p : Planned) (k : Kind) (how : Tables) (limit : ℕ) (f : HostFigures)
    : Type 0 where
  pub kind : f.kind ≡ k
  pub tables : f.tables ≡ how
  pub threads : IsThreadCount p k f.threads
  pub turns : f.turns ≤ f.threads * limit

-- why a host ended, where the first that applies is told: no number of grants was asked for; its
-- book has as many; a thread made all its turns; all were quiet
abbrev pub ended_of : Option ℕ → ℕ → Bool → Ended
ended_of None grants spent = ByTurns
ended_of (Some wanted) grants spent =
    (if nat_le wanted grants then ByGrants else (if spent then ByTurns else ByQuiet))

-- why a host with these limits ended that reports these grants; none of its threads made more turns
-- than it could
pub record IsEndedBy (limits : Limits) (gs : List Grant) (f : HostFigures) : Type 0 where
  pub most : f.most_turns ≤ limits.turns
  pub ended : f.ended ≡ ended_of limits.grants (length gs) (f.most_turns == limits.turns)

-- a host's fault is one: what is told as refused isn't want of memory
abbrev pub IsHostFault : HostFault → Type 0
IsHostFault (host.NotARun fault) = IsTrue (blames_grant fault)
IsHostFault host.Memory = ⊤
IsHostFault host.Thread = ⊤

-- the fault of a host that a book's fault is
abbrev pub of_book : BookFault → HostFault
of_book NotEnabled = host.NotARun NotEnabled
of_book (Below b) = host.NotARun (Below b)
of_book (Number c expected) = host.NotARun (Number c expected)
of_book Parties = host.NotARun Parties
of_book Memory = host.Memory

-- why grants aren't known to be a run of the model: they are none, or memory was wanted
abbrev pub IsWhyNoRun : System → List Grant → HostFault → Type 0
IsWhyNoRun m gs (host.NotARun fault) = IsTrue (blames_grant fault) × ¬ IsModelRun m 0 gs
IsWhyNoRun m gs host.Memory = ⊤
IsWhyNoRun m gs host.Thread = ⊥

-- Once all threads are joined: why there is no report of what the book holds, where threads wanted
-- memory or couldn't be started.
pub data IsWhyNone (m : System) (b : SharedContent) (lacks short : Bool) : HostFault → Type 0 where
  -- the first grant that the book refused
  refused : (fault : BookFault) → b.refused ≡ Some fault
      → IsWhyNone m b lacks short (host.NotARun fault)
  -- the book holds no run of this model
  no_run : (fault : BookFault) → b.refused ≡ None → ¬ IsModelRun m 0 b.book.grants
      → IsWhyNone m b lacks short (host.NotARun fault)
  -- memory was wanted, by a thread or for the report
  no_memory : b.refused ≡ None → IsWhyNone m b lacks short host.Memory
  -- a thread couldn't be started, and else all is well
  no_thread : b.refused ≡ None → b.wanted_memory ≡ false → lacks ≡ false → short ≡ true
      → IsModelRun m 0 b.book.grants → IsWhyNone m b lacks short host.Thread

-- a report of what the book holds, of which so many grants came by their serials, with the totals
-- of all threads, and why they ended: nothing was refused, nobody wanted memory, and each thread
-- was started
pub record IsReportOf (limits : Limits) (b : SharedContent) (entered : ℕ) (t : Totals)
    (r : HostReport) (f : HostFigures) : Type 0
  where
    pub grants : r.grants.items ≡ b.book.grants
    pub counted : (r.told ≡ t.told) × (r.lost ≡ t.lost)
    pub figures : f ≡ record t.figures {
      ended = ended_of limits.grants (length b.book.grants)
          (t.figures.most_turns == limits.turns);
      entered = entered;
    }
    pub all_taken : b.refused ≡ None
    pub with_memory : (b.wanted_memory ≡ false) × (t.wanted_memory ≡ false)
    pub with_threads : t.is_short ≡ false
