-- The same again comes to the same.
use Rattle.std.proofs.Common.{◌≡◌, ℕ, List, length, sym, ap, ap₂, ◌∙◌, subst}
use Rattle.bip_bank.proofs.CentralLemmas.{stations_same}
use Rattle.bip_bank.specs.Laws.{MovesInOneWay}
use Rattle.bip_bank.specs.Sharing.{Sharing, ring, token_at}
use Rattle.bip_core.proofs.RepeatRunLemmas.{one_new_world, one_run}
use Rattle.bip_core.specs.Runs.{IsLossless, IsRunOfEvents}
use Rattle.bip_core.specs.Starting.{IsNewWorld}
use Rattle.bip_core.specs.Worlds.{WorldContent}
use Rattle.bip_core.specs.declared.events.Event.{Event}
use Rattle.bip_core.specs.declared.runs.Report.{Report}
use Rattle.bip_forks.proofs.FirstLemmas.{forks_begin_once}
use Rattle.bip_model.specs.declared.grants.Grant.{Grant}
use Rattle.bip_model.specs.declared.numbering.InterId.{InterId}
use Rattle.bip_partition.specs.Plans.{Planned}
use Rattle.bip_replay.specs.Writing.{text_of}
use Rattle.bip_schedule.proofs.DrawLemmas.{seeded_run}
use Rattle.bip_schedule.proofs.LawLemmas.{one_schedule, one_seed_trace}
use Rattle.bip_schedule.specs.Exploring.{IsSeedRun, SeedRun}
use Rattle.bip_schedule.specs.declared.drawing.Draws.{Draws}
use Rattle.bip_schedule.specs.Schedules.{IsEventText}
use Rattle.bipr.specs.Laws.{OneStepsAnswer, OneTraceOfASeed, RecordsAreSteps, SeedsAreSteps}
use Rattle.bipr.specs.Laws.{ToldOrNot}
use Rattle.bipr.specs.Resolvers.{IsSharedAtFirst}
use Rattle.bipr.specs.Scheduled.{IsStepped, reporting}
use Rattle.bipr.specs.Wording.{report_text}
use Rattle.bip_answers.specs.declared.answers.Answer.{Answer}
use Rattle.bipr.specs.declared.resolvers.Resolver.{Resolver}
use Rattle.bipr.specs.declared.resolvers.Resolver.TheVariants.{Central, Forks, Ring}

-- the stations of a resolver's new bank share one thing, which they move in one way
shared_once : (resolver : Resolver) (p : Planned) (x y : Sharing) → IsSharedAtFirst resolver p x
    → IsSharedAtFirst resolver p y → x ≡ y
shared_once Central p x y one other = one ∙ sym other
shared_once Ring p x y one other =
    one.shared ∙ (ap (λ (list : List InterId). ring (length list) (token_at 0))
    (stations_same p one.stations other.stations one.listed other.listed) ∙ sym other.shared)
shared_once Forks p x y one other = forks_begin_once p x y one other

moved_one_way : (resolver : Resolver) (p : Planned) (x : Sharing) → IsSharedAtFirst resolver p x
    → MovesInOneWay x
moved_one_way Central p x is = subst MovesInOneWay (sym is) tt
moved_one_way Ring p x is = subst MovesInOneWay (sym is.shared) tt
moved_one_way Forks p x is = subst MovesInOneWay (sym is.is) tt

-- the answer to the schedule of events that were done
answered_so : (p : Planned) (base : ℕ) (resolver : Resolver) (schedule : List ℕ)
    (events : List Event) (w v : WorldContent) (report other : Report) (answer : Answer)
    → IsEventText p schedule events → IsNewWorld p base w
    → IsSharedAtFirst resolver p w.bank.sharing → IsRunOfEvents events w v report
    → IsStepped p base resolver schedule other answer → IsLossless report → IsLossless other
    → answer ≡ reporting (text_of p.model v.trace) (report_text report)
answered_so p base resolver schedule events w v report other answer says new shared ran two whole
    so =
    let list : events ≡ two.events = one_schedule p schedule events two.events says two.says in
    let worlds : w ≡ two.first =
    one_new_world p base w two.first new two.new
    (shared_once resolver p w.bank.sharing two.first.bank.sharing shared two.shared) in
    let there : IsRunOfEvents two.events two.first v report =
    subst (λ (u : WorldContent). IsRunOfEvents two.events u v report) worlds
    (subst (λ (es : List Event). IsRunOfEvents es w v report) list ran) in
    let same =
    one_run two.events two.first v two.last report other
    (moved_one_way resolver p two.first.bank.sharing two.shared) there two.ran whole so in
    two.is ∙ sym (ap₂ (λ (gs : List Grant) (r : Report). reporting (text_of p.model gs)
    (report_text r)) same.traces same.reports)

pub one_steps_answer : OneStepsAnswer
one_steps_answer p base resolver schedule report other a b one two whole so =
    one.is ∙ sym (answered_so p base resolver schedule one.events one.first one.last report other b
    one.says one.new one.shared one.ran two whole so)

pub seeds_are_steps : SeedsAreSteps
seeds_are_steps p asked schedule report answer seed two so =
    let of = seed.of_seed in
    subst (λ (gs : List Grant). answer ≡ reporting (text_of p.model gs) (report_text of.report))
    (sym of.is)
    (answered_so p 0 asked.resolver schedule of.events of.first of.last of.report report answer
    seed.reads of.new of.shared
    (seeded_run asked.seed asked.draws of.events of.first of.last of.report of.seeded) two
    seed.whole so)

pub records_are_steps : RecordsAreSteps
records_are_steps p resolver trace schedule report answer (sharing, first, of) two so =
    ap (λ (a : Answer). a.output)
    (answered_so p 0 resolver schedule of.events of.first of.last of.report report answer of.reads
    of.new (subst (IsSharedAtFirst resolver p) (sym of.shared) first) of.ran two of.whole so)
    ∙ of.leads

pub told_or_not : ToldOrNot
told_or_not p base resolver schedule report other told a b one two whole so =
    one_steps_answer p base resolver schedule report other a b one.stepped two whole so

-- a run of a seed by what its stations share
shared_as : (resolver : Resolver) (p : Planned) (draws : Draws) (seed : ℕ) (n : SeedRun)
    (x : Sharing)
    → IsSharedAtFirst resolver p x → IsSeedRun (IsSharedAtFirst resolver p) p 0 draws seed n
    → IsSeedRun (λ y. y ≡ x) p 0 draws seed n
shared_as resolver p draws seed n x first run = record {
  named = run.named;
  of_seed = record {
    first = run.of_seed.first;
    last = run.of_seed.last;
    events = run.of_seed.events;
    report = run.of_seed.report;
    new = run.of_seed.new;
    shared = shared_once resolver p run.of_seed.first.bank.sharing x run.of_seed.shared first;
    seeded = run.of_seed.seeded;
    is = run.of_seed.is;
  };
  reported = run.reported;
  whole = run.whole;
  is_run = run.is_run;
  stuck = run.stuck;
}

pub one_trace_of_a_seed : OneTraceOfASeed
unfolding shared_as
one_trace_of_a_seed p resolver draws seed m n one other =
    let x = one.of_seed.first.bank.sharing in
    let first = one.of_seed.shared in
    one_seed_trace x p 0 draws seed m n (moved_one_way resolver p x first)
    (shared_as resolver p draws seed m x first one)
    (shared_as resolver p draws seed n x first other)
