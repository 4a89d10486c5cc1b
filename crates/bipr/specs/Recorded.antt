-- The record of a run of threads: a schedule that does it again.
use Rattle.std.specs.Prelude.{Err, List, Some, codes, length, ℕ, ◌<◌, ◌≡◌, ◌≢◌}
use Rattle.std.specs.Prelude.{◌≤◌}
use Rattle.bip_answers.specs.Wording.{complaint_text}
use Rattle.bip_answers.specs.declared.answers.Answer.{Answer}
use Rattle.bip_answers.specs.declared.answers.Status.{Status}
use Rattle.bip_answers.specs.declared.answers.Status.TheVariants.{NotARun, Refused}
use Rattle.bip_bank.specs.Sharing.{Sharing}
use Rattle.bip_partition.specs.Plans.{Planned}
use Rattle.bip_core.specs.declared.events.Event.{Event}
use Rattle.bip_record.specs.Records.{AreNoRecordOf, IsRecordOf}
use Rattle.bip_record.specs.declared.recorder.RecordFault.TheVariants.{TooLong as NotesTooLong}
use Rattle.bipr.specs.Inputs.{most_bytes}
use Rattle.bipr.specs.Resolvers.{IsSharedAtFirst}
use Rattle.bipr.specs.Stops.{long_schedule_text}
use Rattle.bipr.specs.declared.hosted.Hosted.{Hosted}
use Rattle.bipr.specs.declared.recorded.Unkept.{Unkept}
use Rattle.bipr.specs.declared.recorded.Unkept.TheVariants.{Elsewhere, Lost, TooLong}
use Rattle.bipr.specs.declared.resolvers.Resolver.{Resolver}

-- a schedule leads from the new world of a plan, with a resolver's bank, to a trace
abbrev pub IsRecord : Planned → Resolver → List ℕ → List ℕ → Type 0
IsRecord p resolver trace schedule =
    (sharing : Sharing) × IsSharedAtFirst resolver p sharing × IsRecordOf p sharing trace schedule

-- the trace that was answered, with another status and complaint
abbrev pub instead : Answer → Status → List ℕ → Answer
instead plain status complaint = record plain { status = status; complaint = complaint }

-- an answer with a text to keep in the file that a path names
abbrev pub keeping : Answer → List ℕ → List ℕ → Answer
keeping plain path text = record plain { file = Some (record { path = path; text = text }) }

-- messages were lost for want of memory
abbrev pub messages_lost_text : List ℕ
messages_lost_text = complaint_text (codes "messages were lost, nothing is recorded")

-- what threads did, as steps, has another trace
abbrev pub other_run_text : List ℕ
other_run_text = complaint_text (codes "not the same run")

-- a run of threads has too long a record: what they did took too much to note, or a record is
-- longer than any text that is read
pub data IsTooLong (p : Planned) (resolver : Resolver) (given : Hosted) (trace : List ℕ)
    : Type 0 where
  unnoted : given.notes ≡ Some (Err NotesTooLong) → IsTooLong p resolver given trace
  unreadable : (schedule : List ℕ) → IsRecord p resolver trace schedule
      → most_bytes < length schedule → IsTooLong p resolver given trace

-- some events, in which an order of what threads did was looked for, are no record of their trace
abbrev pub LeadElsewhere : Planned → Resolver → List ℕ → Type 0
LeadElsewhere p resolver trace =
    (events : List Event) × (sharing : Sharing) × IsSharedAtFirst resolver p sharing
    × AreNoRecordOf p sharing events trace

-- what may be answered where a host gave this, whose run has this answer, and its record is to be
-- kept in the file that a path names
pub data IsRecorded (p : Planned) (resolver : Resolver) (path : List ℕ) (given : Hosted)
    (plain : Answer) : Answer → Type 0 where
  -- a record of its trace is kept there
  recorded : (schedule : List ℕ) → given.report.lost ≡ 0
      → IsRecord p resolver plain.output schedule → length schedule ≤ most_bytes
      → IsRecorded p resolver path given plain (keeping plain path schedule)
  -- it is too long
  too_long : given.report.lost ≡ 0 → IsTooLong p resolver given plain.output
      → IsRecorded p resolver path given plain (instead plain Refused long_schedule_text)
  -- messages were lost for want of memory
  lost : given.report.lost ≢ 0
      → IsRecorded p resolver path given plain (instead plain Refused messages_lost_text)
  -- what threads did leads elsewhere
  elsewhere : given.report.lost ≡ 0 → LeadElsewhere p resolver plain.output
      → IsRecorded p resolver path given plain (instead plain NotARun other_run_text)

-- What contracts of private functions say.

-- a record that is no longer than what is read, of a run that lost nothing
pub record IsRecordKept (p : Planned) (resolver : Resolver) (given : Hosted)
    (trace schedule : List ℕ) : Type 0 where
  pub whole : given.report.lost ≡ 0
  pub is : IsRecord p resolver trace schedule
  pub short : length schedule ≤ most_bytes

-- why there is none
abbrev pub IsWhyUnkept : Planned → Resolver → Hosted → List ℕ → Unkept → Type 0
IsWhyUnkept p resolver given trace TooLong =
    (given.report.lost ≡ 0) × IsTooLong p resolver given trace
IsWhyUnkept p resolver given trace Lost = given.report.lost ≢ 0
IsWhyUnkept p resolver given trace Elsewhere =
    (given.report.lost ≡ 0) × LeadElsewhere p resolver trace

-- the answer where there is no record
abbrev pub answer_unkept : Answer → Unkept → Answer
answer_unkept plain TooLong = instead plain Refused long_schedule_text
answer_unkept plain Lost = instead plain Refused messages_lost_text
answer_unkept plain Elsewhere = instead plain NotARun other_run_text
