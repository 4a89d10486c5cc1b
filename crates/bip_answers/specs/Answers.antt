-- The answer to a replay: the one that the text of a model, the text of a trace and a base have.
-- The answer to a check: the one that the text of a model has.
use Rattle.std.specs.Prelude.{◌≡◌, ◌≢◌, ◌++◌, ℕ, Bool, false, true, List, [], length, ⊤}
use Rattle.std.specs.Prelude.{None, Result, Ok, Err}
use Rattle.bip_explain.specs.Explanations.{Telling, Tells}
use Rattle.bip_explain.specs.Steps.{TellsStep}
use Rattle.bip_explain.specs.Traces.{IsTraceReasonOf, MayKeepTrace, trace_parts}
use Rattle.bip_model.specs.Texts.{line_at}
use Rattle.bip_model.specs.declared.parts.System.{System}
use Rattle.bip_model.specs.declared.partitions.Partition.{Partition}
use Rattle.bip_model.specs.declared.numbering.InterId.{InterId}
use Rattle.bip_partition.specs.Faults.{IsLowestTooMany}
use Rattle.bip_partition.specs.Plans.{AreStations, IsCountTabled, Planned, TouchesTooMany}
use Rattle.bip_reader.specs.Texts.{HasFault, Means}
use Rattle.bip_reader.specs.declared.faults.ReadFault.{ReadFault}
use Rattle.bip_reader.specs.declared.faults.Why.TheVariants.{Memory}
use Rattle.bip_replay.specs.Replays.{IsFirstFault, IsRunOf}
use Rattle.bip_replay.specs.declared.faults.BookFault.{BookFault}
use Rattle.bip_replay.specs.declared.faults.ReplayFault.{ReplayFault}
use Rattle.bip_replay.specs.declared.faults.ReplayFault.TheVariants as replay_fault
use Rattle.bip_replay.specs.declared.faults.TraceFault.TheVariants as trace_fault
use Rattle.bip_replay.specs.declared.faults.TraceFault.{TraceFault}
use Rattle.bip_review.specs.Writing.{IsPlanText}
use Rattle.bip_answers.specs.Wording.{counts_text, model_refusal, plan_refusal, run_text}
use Rattle.bip_answers.specs.Wording.{trace_refusal, verdict_text}
use Rattle.bip_answers.specs.declared.wording.Counts.{Counts}
use Rattle.bip_answers.specs.declared.answers.Answer.{Answer}
use Rattle.bip_answers.specs.declared.answers.PlanOrRefusal.{PlanOrRefusal}
use Rattle.bip_answers.specs.declared.answers.PlanOrRefusal.TheVariants as come
use Rattle.bip_answers.specs.declared.answers.Status.{Status}
use Rattle.bip_answers.specs.declared.answers.Status.TheVariants.{Done, Refused, BadCommandLine}
use Rattle.bip_answers.specs.declared.answers.Status.TheVariants.{NoMemory, NoThread, NotARun}

-- the greatest base: one number at least is left above it
abbrev pub greatest_base : ℕ
greatest_base = 18446744073709551614

-- the statuses with which the program ends
abbrev pub code_of : Status → ℕ
code_of Done = 0
code_of Refused = 1
code_of BadCommandLine = 2
code_of NoMemory = 3
code_of NoThread = 3
code_of NotARun = 4

-- an answer on standard output, and no complaint
abbrev pub saying : Status → List ℕ → Answer
saying status output =
    record { status = status; output = output; complaint = []; file = None }

-- a complaint, and nothing on standard output
abbrev pub complaining : Status → List ℕ → Answer
complaining status complaint =
    record { status = status; output = []; complaint = complaint; file = None }

-- a fault of a line that says no grant of the model
abbrev pub SaysNoGrant : ReplayFault → Type 0
SaysNoGrant replay_fault.Syntax = ⊤
SaysNoGrant replay_fault.Unknown = ⊤
SaysNoGrant (replay_fault.NotARun why) = ⊥
SaysNoGrant replay_fault.Memory = ⊥

-- what is said of a trace that was replayed so
abbrev pub IsSaidOf : System → List ℕ → Result ℕ (ℕ × ReplayFault) → Answer → Type 0
IsSaidOf m trace (Ok count) answer = answer ≡ saying Done (run_text count)
IsSaidOf m trace (Err (number, replay_fault.NotARun why)) answer =
    answer ≡ saying NotARun (verdict_text m trace number why)
IsSaidOf m trace (Err (number, replay_fault.Syntax)) answer =
    answer ≡ complaining Refused (trace_refusal number replay_fault.Syntax)
IsSaidOf m trace (Err (number, replay_fault.Unknown)) answer =
    answer ≡ complaining Refused (trace_refusal number replay_fault.Unknown)
IsSaidOf m trace (Err (number, replay_fault.Memory)) answer = ⊥

-- what is explained of a line that says no grant
abbrev pub ExplainsLine : System → List ℕ → ℕ → TraceFault → Telling → Telling → Type 0
ExplainsLine m trace number fault old new =
    let line = line_at trace number in
    Tells (MayKeepTrace m line fault) (IsTraceReasonOf m line fault) trace_parts old new

-- what is explained of a trace that was replayed so: the line at fault, by its fault
abbrev pub ExplainsReplayed : System → ℕ → List ℕ → Result ℕ (ℕ × ReplayFault) → Telling → Telling
    → Type 0
ExplainsReplayed m base trace (Ok count) old new = new ≡ old
ExplainsReplayed m base trace (Err (number, replay_fault.NotARun why)) old new =
    TellsStep m base trace number why old new
ExplainsReplayed m base trace (Err (number, replay_fault.Syntax)) old new =
    ExplainsLine m trace number trace_fault.Syntax old new
ExplainsReplayed m base trace (Err (number, replay_fault.Unknown)) old new =
    ExplainsLine m trace number trace_fault.Unknown old new
ExplainsReplayed m base trace (Err (number, replay_fault.Memory)) old new = new ≡ old

-- what there is to count of a plan
pub record AreCountsOf (p : Planned) (counts : Counts) : Type 0 where
  pub components : counts.components ≡ length p.model.components
  pub interactions : counts.interactions ≡ length p.model.interactions
  pub classes : counts.classes ≡ length p.classes.names
  pub tabled : IsCountTabled p counts.tabled
  pub stations : List InterId
  pub reserved : AreStations p stations
  pub counted : counts.reserved ≡ length stations

-- a text means a model with classes that has this plan: no interaction touches too many components
pub record HasPlan (model : List ℕ) (p : Planned) : Type 0 where
  pub means : Means model p.model p.classes
  pub few : (a : ℕ) → ¬ TouchesTooMany p.model a

-- the answer to a model's text that has no plan, where one is needed
pub data IsRefusedModel (model : List ℕ) : Answer → Type 0 where
  -- the text means a model that has none: this interaction, the lowest such, touches too many
  no_plan : (m : System) (classes : Partition) (a : ℕ) → Means model m classes
      → IsLowestTooMany m a → IsRefusedModel model (complaining Refused (plan_refusal m a))
  -- the text is no model
  no_text : (fault : ReadFault) → fault.why ≢ Memory → HasFault model fault
      → IsRefusedModel model (complaining Refused (model_refusal fault))

-- what a model's text comes to where a plan is needed
abbrev pub IsPlanOrRefusal : List ℕ → PlanOrRefusal → Type 0
IsPlanOrRefusal model (come.Plan p) = HasPlan model p
IsPlanOrRefusal model (come.Refusal answer) = IsRefusedModel model answer

-- the answer to the check of a model's text
pub data IsCheckAnswer (model : List ℕ) : Answer → Type 0 where
  -- what its plan has
  planned : (p : Planned) (counts : Counts) → HasPlan model p → AreCountsOf p counts
      → IsCheckAnswer model (saying Done (counts_text counts))
  -- it has none
  unchecked : (answer : Answer) → IsRefusedModel model answer → IsCheckAnswer model answer

-- the answer to the check of a model's text, whose plan is shown behind the counts where that is
-- asked for
pub data IsCheckShowing (model : List ℕ) : Bool → Answer → Type 0 where
  plain : (answer : Answer) → IsCheckAnswer model answer → IsCheckShowing model false answer
  shown : (p : Planned) (counts : Counts) (plan : List ℕ) → HasPlan model p
      → AreCountsOf p counts → IsPlanText p plan
      → IsCheckShowing model true (saying Done (counts_text counts ++ plan))
  refused : (answer : Answer) → IsRefusedModel model answer → IsCheckShowing model true answer

-- the answer to the texts of a model and a trace, from a base
pub data IsAnswer (base : ℕ) (model trace : List ℕ) : Answer → Type 0 where
  -- the grants of the trace are a run of the model
  run : (m : System) (classes : Partition) (count : ℕ) → Means model m classes
      → IsRunOf m base trace count → IsAnswer base model trace (saying Done (run_text count))
  -- the first line at fault has a grant that can't be next after those before it
  not_a_run : (m : System) (classes : Partition) (number : ℕ) (fault : BookFault)
      → Means model m classes → IsFirstFault m base trace number (replay_fault.NotARun fault)
      → IsAnswer base model trace (saying NotARun (verdict_text m trace number fault))
  -- the first line at fault is no grant of the model
  no_trace : (m : System) (classes : Partition) (number : ℕ) (fault : ReplayFault)
      → Means model m classes → SaysNoGrant fault → IsFirstFault m base trace number fault
      → IsAnswer base model trace (complaining Refused (trace_refusal number fault))
  -- the model's text is none; the trace doesn't count
  no_model : (fault : ReadFault) → fault.why ≢ Memory → HasFault model fault
      → IsAnswer base model trace (complaining Refused (model_refusal fault))
