-- Answers to running nodes as threads that were written out are those that the text has.
use Rattle.std.proofs.Common.{◌≡◌, ◌≢◌, ◌∙◌, Bool, Err, Ok, Result, false, inl, inr, length, subst}
use Rattle.std.proofs.Common.{sym}
use Rattle.std.proofs.lemmas.Bool.{false≢true}
use Rattle.std.specs.Prelude.{◌↔◌, IsTrue}
use Rattle.bip_host.specs.declared.faults.HostFault.{HostFault}
use Rattle.bip_partition.specs.Plans.{Planned}
use Rattle.bip_replay.specs.Replays.{IsRunOf}
use Rattle.bip_replay.specs.Writing.{text_of}
use Rattle.bip_answers.specs.Answers.{IsAnswer, run, saying}
use Rattle.bipr.specs.Endings.{AllOutcomes, IsOutcome}
use Rattle.bipr.specs.Hosted.{IsHostAnswer, IsHostStop, host_lacking, hosted, no_thread}
use Rattle.bipr.specs.Hosted.{refused_grant, stats_told, text_lacking}
use Rattle.bipr.specs.Laws.{HostsReplay}
use Rattle.bipr.specs.Resolvers.{NeedsCentral}
use Rattle.bipr.specs.Scheduled.{reporting}
use Rattle.bipr.specs.Stops.{answer_of_stop}
use Rattle.bip_answers.specs.Wording.{run_text}
use Rattle.bip_answers.specs.declared.answers.Answer.{Answer}
use Rattle.bip_answers.specs.declared.answers.Status.TheVariants.{Done, NoMemory, NoThread, NotARun}
use Rattle.bipr.specs.declared.hosted.Hosted.{Hosted}
use Rattle.bipr.specs.declared.resolvers.HostForm.{HostForm}
use Rattle.bipr.specs.declared.stops.Stop.{Stop}

-- what is written of a host is replayed as a run
pub hosts_replay : HostsReplay
hosts_replay given model p with_stats answer has is done = by_answer answer is done
  where
    by_answer : (a : Answer) → IsHostAnswer (λ gives. gives ≡ given) p with_stats a
        → a.status ≡ Done
        → (host : Hosted) × (given ≡ Ok host)
        × IsAnswer 0 model a.output (saying Done (run_text (length host.report.grants.items)))
    by_answer _ (hosted done_by gave is) done =
        (done_by, sym gave, run p.model p.classes _ has.means is)
    by_answer _ (refused_grant fault gave) done = cc
    by_answer _ (no_thread gave) done = cc
    by_answer _ (host_lacking gave) done = cc
    by_answer _ (text_lacking given gave) done = cc

-- what a host gave is answered
pub host_answered : (gives : Result Hosted HostFault → Type 0) (p : Planned) (with_stats : Bool)
    (given : Hosted) (answer : Answer) → gives (Ok given)
    → answer ≡ reporting (text_of p.model given.report.grants.items) (stats_told with_stats given)
    → IsRunOf p.model 0 answer.output (length given.report.grants.items)
    → IsHostAnswer gives p with_stats answer
host_answered gives p with_stats given answer gave is of_run =
    subst (IsHostAnswer gives p with_stats) (sym is)
    (hosted given gave
    (subst (λ (a : Answer). IsRunOf p.model 0 a.output (length given.report.grants.items)) is
    of_run))

-- what stops a command whose host gave no report is said
pub host_stop_said : (P : Answer → Type 0) (why : Stop) → IsHostStop why → P (answer_of_stop why)
    → AllOutcomes (Err why) P
host_stop_said P why (inl is) held = λ answer said.
    subst P (sym (subst (λ (v : Stop). IsOutcome (Err v) answer) is said))
    (subst (λ (v : Stop). P (answer_of_stop v)) is held)
host_stop_said P why (inr (inl is)) held = λ answer said.
    subst P (sym (subst (λ (v : Stop). IsOutcome (Err v) answer) is said))
    (subst (λ (v : Stop). P (answer_of_stop v)) is held)
host_stop_said P why (inr (inr is)) held = λ answer said.
    subst P (sym (subst (λ (v : Stop). IsOutcome (Err v) answer) is said))
    (subst (λ (v : Stop). P (answer_of_stop v)) is held)

-- its status isn't that all is done
pub host_stop_ends : (why : Stop) → IsHostStop why → (answer_of_stop why).status ≢ Done
host_stop_ends why (inl is) done =
    not_done (subst (λ (v : Stop). (answer_of_stop v).status ≡ Done) is done)
  where
    not_done : NotARun ≡ Done → ⊥
    not_done same = cc
host_stop_ends why (inr (inl is)) done =
    not_done (subst (λ (v : Stop). (answer_of_stop v).status ≡ Done) is done)
  where
    not_done : NoThread ≡ Done → ⊥
    not_done same = cc
host_stop_ends why (inr (inr is)) done =
    not_done (subst (λ (v : Stop). (answer_of_stop v).status ≡ Done) is done)
  where
    not_done : NoMemory ≡ Done → ⊥
    not_done same = cc

-- words that need no central bank
pub needs_none : (needs : Bool) (form : HostForm) → IsTrue needs ↔ NeedsCentral form
    → needs ≡ false → NeedsCentral form → ⊥
needs_none needs form either off needed = absurd (false≢true (sym off ∙ either.1 needed))
