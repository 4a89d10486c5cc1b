-- Runs: what events lead to one after another, and their sums.
use Rattle.std.specs.Prelude.{◌≡◌, ℕ, ◌+◌, ◌*◌, ◌≤◌, Bool, false, true, List, [], ◌∷◌}
use Rattle.std.specs.Prelude.{Option, None, Some, count_by, is_some, length, sum_by}
use Rattle.bip_bank.specs.Decisions.Decision.TheVariants as decision
use Rattle.bip_ip.specs.declared.nodes.Tried.TheVariants as tried
use Rattle.bip_bank.specs.declared.banks.Acted.TheVariants as acted
use Rattle.bip_core.specs.Events.{CanBeSkipped, IsStep, grant_in}
use Rattle.bip_core.specs.Worlds.{WorldContent}
use Rattle.bip_core.specs.declared.events.Did.{Did}
use Rattle.bip_core.specs.declared.events.Event.{Event}
use Rattle.bip_core.specs.declared.events.What.{What}
use Rattle.bip_core.specs.declared.events.What.TheVariants.{Acts, Nothing, Tries}
use Rattle.bip_core.specs.declared.outcomes.Effect.{Effect}
use Rattle.bip_core.specs.declared.outcomes.Effect.TheVariants as effect
use Rattle.bip_core.specs.declared.outcomes.Outcome.{Outcome}
use Rattle.bip_core.specs.declared.runs.Report.{Report}

-- events lead from one world to another, one after another: each did this, or was skipped
abbrev pub AreSteps : List Event → List (Option Did) → WorldContent → WorldContent → Type 0
AreSteps [] [] w v = v ≡ w
AreSteps (event ∷ events) (Some did ∷ dids) w v =
    (next : WorldContent) × IsStep w event did next × AreSteps events dids next v
AreSteps (event ∷ events) (None ∷ dids) w v = CanBeSkipped w event × AreSteps events dids w v
AreSteps events dids w v = ⊥

-- what an event did is a grant, a refusal, or idle
abbrev pub is_grant : What → Bool
is_grant what = is_some (grant_in what)

abbrev pub is_refusal : What → Bool
is_refusal (Acts (acted.Answered q (decision.Refused c used))) = true
is_refusal what = false

abbrev pub is_idle : What → Bool
is_idle Nothing = true
is_idle (Tries tried.Foreign) = true
is_idle (Tries (tried.Pending b)) = true
is_idle (Tries (tried.Not verdict)) = true
is_idle (Tries tried.Ended) = true
is_idle (Acts acted.Nothing) = true
is_idle what = false

-- an event did something of this kind
abbrev pub did_so : (What → Bool) → Option Did → Bool
did_so kind None = false
did_so kind (Some did) = kind did.what

abbrev pub was_skipped : Option Did → Bool
was_skipped None = true
was_skipped (Some did) = false

abbrev pub lost_by : Option Did → ℕ
lost_by None = 0
lost_by (Some did) = did.lost

-- the sums of a run
abbrev pub report_of : List (Option Did) → Report
report_of dids =
    record {
      lost = sum_by lost_by dids;
      events = length dids;
      grants = count_by (did_so is_grant) dids;
      refusals = count_by (did_so is_refusal) dids;
      idle = count_by (did_so is_idle) dids;
      skipped = count_by was_skipped dids;
    }

-- events lead from one world to another, and this is the report
pub record IsRunOfEvents (events : List Event) (w v : WorldContent) (report : Report) : Type 0 where
  pub dids : List (Option Did)
  pub steps : AreSteps events dids w v
  pub sums : report ≡ report_of dids

-- a report with one more event, which did this or was skipped
abbrev pub number_if : Bool → ℕ
number_if false = 0
number_if true = 1

abbrev pub report_with : Report → Option Did → Report
report_with report did =
    record {
      lost = report.lost + lost_by did;
      events = report.events + 1;
      grants = report.grants + number_if (did_so is_grant did);
      refusals = report.refusals + number_if (did_so is_refusal did);
      idle = report.idle + number_if (did_so is_idle did);
      skipped = report.skipped + number_if (was_skipped did);
    }

-- no event of a run was skipped, and no message lost, for want of memory
pub record IsLossless (report : Report) : Type 0 where
  pub done : report.skipped ≡ 0
  pub sent : report.lost ≡ 0

-- one event leads from one world to another or is skipped, and is counted
pub record IsEventCounted (event : Event) (w v : WorldContent) (report later : Report)
    : Type 0 where
  pub did : Option Did
  pub steps : AreSteps (event ∷ []) (did ∷ []) w v
  pub sums : later ≡ report_with report did

-- a report has no sum above its events, and lost no more than what each of so many events can lose
pub record AddsUp (report : Report) : Type 0 where
  pub grants : report.grants ≤ report.events
  pub refusals : report.refusals ≤ report.events
  pub idle : report.idle ≤ report.events
  pub skipped : report.skipped ≤ report.events
  pub lost : report.lost ≤ report.events * 18446744073709551615

-- What contracts of private functions say.

-- a report with one more event, which comes to this
abbrev pub is_effect_granted : Effect → Bool
is_effect_granted effect.Granted = true
is_effect_granted other = false

abbrev pub is_effect_refused : Effect → Bool
is_effect_refused effect.Refused = true
is_effect_refused other = false

abbrev pub is_effect_idle : Effect → Bool
is_effect_idle effect.Idle = true
is_effect_idle other = false

abbrev pub report_counted : Report → Outcome → Report
report_counted report outcome =
    record {
      lost = report.lost + outcome.lost;
      events = report.events + 1;
      grants = report.grants + number_if (is_effect_granted outcome.effect);
      refusals = report.refusals + number_if (is_effect_refused outcome.effect);
      idle = report.idle + number_if (is_effect_idle outcome.effect);
      skipped = report.skipped;
    }
