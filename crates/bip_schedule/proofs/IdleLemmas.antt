-- What is drawn among the events that have something to do does something.
use Rattle.std.proofs.Common.{◌≡◌, ◌∙◌, ◌<◌, ◌≤◌, ◌+◌, ◌∷◌, [], ℕ, List, None, Option, Some}
use Rattle.std.proofs.Common.{ap}
use Rattle.std.proofs.Common.{arith, false, length, refl, subst, sym}
use Rattle.std.proofs.lemmas.List.{length-append}
use Rattle.rand_pcg.specs.Lcg.{Lcg}
use Rattle.rand_pcg.specs.Pcg.{pcg32}
use Rattle.bip_bank.specs.Banks.{BankContent}
use Rattle.bip_bank.specs.Laws.{MovesInOneWay}
use Rattle.bip_core.proofs.RepeatLemmas.{step_once}
use Rattle.bip_core.proofs.WorkLemmas.{bank_grows, work_is_done}
use Rattle.bip_core.specs.Runs.{AreSteps, IsEventCounted, IsLossless, is_idle, number_if}
use Rattle.bip_core.specs.Runs.{report_with}
use Rattle.bip_core.specs.Worlds.{WorldContent}
use Rattle.bip_core.specs.declared.events.Did.{Did}
use Rattle.bip_core.specs.declared.events.Event.{Event}
use Rattle.bip_core.specs.declared.runs.Report.{Report}
use Rattle.bip_model.specs.Numbering.{last_number}
use Rattle.bip_schedule.proofs.BusyRepeatLemmas.{drawn_works}
use Rattle.bip_schedule.proofs.LawLemmas.{whole_before}
use Rattle.bip_schedule.specs.Laws.{BusySeedsAreNeverIdle}
use Rattle.bip_schedule.specs.Seeding.{AreDrawn, IsDrawnIn, none_drawn, one_drawn}
use Rattle.bip_schedule.specs.declared.drawing.Draw.TheVariants.{Busy}

-- so far no event was idle, and so many grants are the bank's at most
record IsNeverIdle (v : WorldContent) (report : Report) (count : ℕ) : Type 0 where
  idle : report.idle ≡ 0
  way : MovesInOneWay v.bank.sharing
  few : length v.bank.grants ≤ count

one_more_done : (v next : WorldContent) (r later : Report) (e : Event) (word count : ℕ)
    → IsNeverIdle v r count → count < last_number → IsDrawnIn Busy v word e
    → IsEventCounted e v next r later → IsLossless later → IsNeverIdle next later (count + 1)
one_more_done v next r later e word count so small drawn is whole =
    by_did is.did is.steps is.sums
  where
    by_did : (did : Option Did) → AreSteps (e ∷ []) (did ∷ []) v next → later ≡ report_with r did
        → IsNeverIdle next later (count + 1)
    by_did None steps sums =
        let none = subst IsLossless sums whole in
        absurd (omega (arith, none.done))
    by_did (Some did) (mid, step, same) sums =
        let sent = subst IsLossless sums whole in
        let way = so.way in
        let busy : is_idle did.what ≡ false =
        work_is_done v mid e did way (omega (arith, so.few, small))
        (drawn_works v way word e (drawn way)) step in
        let once = step_once v v mid mid e did did refl way step step (omega (arith, sent.sent))
        (omega (arith, sent.sent)) in
        record {
          idle = ap (λ (x : Report). x.idle) sums
              ∙ (ap (λ b. r.idle + number_if b) busy ∙ omega (arith, so.idle));
          way = subst (λ (u : WorldContent). MovesInOneWay u.bank.sharing) (sym same) once.2;
          few = omega (
            arith,
            bank_grows v mid e did step,
            ap (λ (u : WorldContent). length u.bank.grants) same,
            so.few,
          );
        }

all_done : (start : Lcg) (w : WorldContent) (es : List Event) (v : WorldContent) (ws : Lcg)
    (r : Report) → MovesInOneWay w.bank.sharing → length w.bank.grants ≡ 0
    → AreDrawn Busy start w es v ws r → IsLossless r → length es < last_number
    → IsNeverIdle v r (length es)
all_done start w _ _ _ _ way first none_drawn whole small = record {
  idle = refl;
  way = way;
  few = omega (arith, first);
}
all_done start w _ _ _ _ way first (one_drawn es v ws r e next later drawn is counted) whole small =
    let longer = length-append es (e ∷ []) in
    let before : IsLossless r = whole_before r counted.did (subst IsLossless counted.sums whole) in
    let so = all_done start w es v ws r way first drawn before (omega (arith, small, longer)) in
    subst (λ (k : ℕ). IsNeverIdle next later k) (omega (arith, longer))
    (one_more_done v next r later e (pcg32 ws).0 (length es) so (omega (arith, small, longer)) is
    counted whole)

pub busy_never_idle : BusySeedsAreNeverIdle
busy_never_idle sharing p base count seed run way small is =
    let so = is.of_seed in
    let first : length so.first.bank.grants ≡ 0 =
    ap (λ (b : BankContent). length b.grants) so.new.bank in
    ap (λ (r : Report). r.idle) is.reported
    ∙ (all_done _ so.first so.events so.last so.seeded.words so.report
    (subst MovesInOneWay (sym so.shared) way) first so.seeded.drawn
    (subst IsLossless is.reported is.whole) (omega (arith, small, so.seeded.few))).idle
