-- The answer to running the nodes of a plan as threads.
use Rattle.std.specs.Prelude.{◌≡◌, Bool, true, false, List, [], None, Option, Some, ℕ, Result, Ok}
use Rattle.std.specs.Prelude.{Err, IfOk, length, ⊤, ◌≢◌, ◌⊎◌}
use Rattle.std.specs.Borrow.{Bor}
use Rattle.bip_host.specs.declared.faults.HostFault.TheVariants as host_fault
use Rattle.bip_host.specs.declared.faults.HostFault.{HostFault}
use Rattle.bip_host.specs.declared.hosts.Limits.{Limits}
use Rattle.bip_host.specs.Reports.{AreFiguresOf, IsEndedBy}
use Rattle.bip_host.specs.Seats.{CanHave}
use Rattle.bip_partition.specs.Plans.{Planned}
use Rattle.bip_replay.specs.Replays.{IsRunOf}
use Rattle.bip_replay.specs.Runs.{IsModelRun}
use Rattle.bip_replay.specs.Writing.{text_of}
use Rattle.bip_replay.specs.declared.faults.BookFault.{BookFault}
use Rattle.bip_answers.specs.Answers.{complaining}
use Rattle.bipr.specs.Resolvers.{kind_named}
use Rattle.bipr.specs.Scheduled.{reporting}
use Rattle.bipr.specs.Recorded.{IsRecorded}
use Rattle.bipr.specs.Stops.{out_of_memory, too_many_rows, unwritten_text}
use Rattle.bipr.specs.Wording.{host_refusal, no_thread_text, stats_text}
use Rattle.bip_answers.specs.declared.answers.Answer.{Answer}
use Rattle.bip_answers.specs.declared.answers.Status.TheVariants.{Done, NoThread, NotARun, Refused}
use Rattle.bipr.specs.declared.commands.run.RunArguments.{RunArguments}
use Rattle.bipr.specs.declared.hosted.Hosted.{Hosted}
use Rattle.bipr.specs.declared.resolvers.HostForm.{HostForm}
use Rattle.bipr.specs.declared.stops.Stop.{Stop}
use Rattle.bipr.specs.declared.stops.Stop.TheVariants.{GrantRefused, OutOfMemory, ThreadRefused}

-- how long a host runs: each thread for so many turns, or until there are so many grants and for at
-- most 10^9 turns each; by just one of the two
abbrev pub limits_of : Option ℕ → Option ℕ → Option Limits
limits_of (Some turns) None = Some (record { turns = turns; grants = None })
limits_of None (Some grants) = Some (record { turns = 1000000000; grants = Some grants })
limits_of turns grants = None

-- what running the nodes of a plan in a form, with limits, may give; whether the file that a path
-- names may be made; and what may come of a text that is kept there: whether all of it is out
pub record Hosts : Type 1 where
  pub gives : Planned → HostForm → Limits → Result Hosted HostFault → Type 0
  pub makes : List ℕ → Bool → Type 0
  pub keeps : List ℕ → List ℕ → Bool → Type 0

-- what a host gave in a form, with these limits: a run of the plan's model, by the third layer that
-- the resolver names, whose tables were shared so, in as many threads as that asks for, none of
-- which made more turns; and why it ended
pub record IsHostedAs (p : Planned) (form : HostForm) (limits : Limits) (hosted : Hosted) : Type 0
  where
    pub run : IsModelRun p.model 0 hosted.report.grants.items
    pub figures : AreFiguresOf p (kind_named form.resolver) form.tables limits.turns hosted.figures
    pub limited : hosted.limits ≡ limits
    pub ended : IsEndedBy limits hosted.report.grants.items hosted.figures

-- what threads of the process may give, and whatever comes of a file
abbrev pub threaded : Hosts
threaded = record {
  gives = λ p form limits given. IfOk given (IsHostedAs p form limits);
  makes = λ path is_made. ⊤;
  keeps = λ path text is_out. ⊤;
}

-- what is told of a host on standard error: what is counted, where that is asked for
abbrev pub stats_told : Bool → Hosted → List ℕ
stats_told true hosted = stats_text hosted
stats_told false hosted = []

-- the answer to running the nodes of a plan, where that may give this
pub data IsHostAnswer (gives : Result Hosted HostFault → Type 0) (p : Planned)
    (with_stats : Bool) : Answer → Type 0 where
  -- it gave grants: what is written is their trace, which is that of a run of the model
  hosted : (given : Hosted) → gives (Ok given)
      → IsRunOf p.model 0 (text_of p.model given.report.grants.items)
      (length given.report.grants.items)
      → IsHostAnswer gives p with_stats
      (reporting (text_of p.model given.report.grants.items) (stats_told with_stats given))
  -- a grant couldn't be next, and nobody was told of it
  refused_grant : (fault : BookFault) → gives (Err (host_fault.NotARun fault))
      → IsHostAnswer gives p with_stats (complaining NotARun host_refusal)
  -- a thread couldn't be made
  no_thread : gives (Err host_fault.Thread)
      → IsHostAnswer gives p with_stats (complaining NoThread no_thread_text)
  -- memory is out: the host's, or for the text of the grants that it gave
  host_lacking : gives (Err host_fault.Memory) → IsHostAnswer gives p with_stats out_of_memory
  text_lacking : (given : Hosted) → gives (Ok given)
      → IsHostAnswer gives p with_stats out_of_memory

-- what stops a command whose host gave no report: a refused grant, a thread that couldn't be made,
-- or want of memory
abbrev pub IsHostStop : Stop → Type 0
IsHostStop why = (why ≡ GrantRefused) ⊎ (why ≡ ThreadRefused) ⊎ (why ≡ OutOfMemory)

-- a plan can have the form of host that is asked for
abbrev pub FitsPlan : Planned → HostForm → Type 0
FitsPlan p form = CanHave p (kind_named form.resolver) form.tables

-- no record is asked for, or there is none to keep, since the answer has no trace
abbrev pub KeepsNone : RunArguments → Answer → Type 0
KeepsNone asked answer = (asked.record_in ≡ None) ⊎ (answer.status ≢ Done)

-- what may be answered where running the nodes of a plan in a form, with limits, may give that
pub data IsPlanHosted (p : Planned) (hosts : Hosts) (asked : RunArguments) (limits : Limits)
    : Answer → Type 0 where
  -- the plan can have the form that is asked for
  of_host : (answer : Answer) → FitsPlan p asked.form → KeepsNone asked answer
      → IsHostAnswer (hosts.gives p asked.form limits) p asked.with_stats answer
      → IsPlanHosted p hosts asked limits answer
  -- the host gave this, a run of the model, whose trace is recorded in the file that a path names
  of_record : (given : Hosted) (answer : Answer) (path : Bor (List ℕ)) → FitsPlan p asked.form
      → asked.record_in ≡ Some path → hosts.gives p asked.form limits (Ok given)
      → IsRunOf p.model 0 (text_of p.model given.report.grants.items)
      (length given.report.grants.items)
      → IsRecorded p asked.form.resolver path.now given
      (reporting (text_of p.model given.report.grants.items) (stats_told asked.with_stats given))
      answer → IsPlanHosted p hosts asked limits answer
  -- that file isn't made, and nothing is run; or memory is out for the record
  of_no_file : (path : Bor (List ℕ)) → FitsPlan p asked.form → asked.record_in ≡ Some path
      → hosts.makes path.now false
      → IsPlanHosted p hosts asked limits (complaining Refused unwritten_text)
  record_lacking : FitsPlan p asked.form → asked.record_in ≢ None
      → IsPlanHosted p hosts asked limits out_of_memory
  -- more of its components have a row than row words can
  of_many_rows : ¬ FitsPlan p asked.form → IsPlanHosted p hosts asked limits too_many_rows
