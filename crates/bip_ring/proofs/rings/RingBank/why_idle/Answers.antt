use Rattle.std.proofs.Common.{arith, subst, sym}
use Rattle.std.specs.Prelude.{IfNone}
use Rattle.bip_bank.specs.Banks.{CanWantMemory, content_of}
use Rattle.bip_bank.specs.declared.banks.BankStep.{BankStep}
use Rattle.bip_bank.specs.declared.banks.BankStep.TheVariants.{Pass}
use Rattle.bip_ring.proofs.RingLemmas.{ring_delivers, ring_passes}
use Rattle.bip_ring.specs.Rings.{KeptRing, kept_ring}
use Rattle.bip_ring.proofs.rings.RingBank.why_idle.Goals as goal

pub returns-in-Pass-clause-none : goal.returns-in-Pass-clause-none
returns-in-Pass-clause-none c =
    let r : KeptRing = record {
      desk = record {
        plan = c.self.inside.plan.now;
        base = c.self.inside.base;
        table = c.self.inside.token.table;
        waiting = c.self.inside.waiting.items;
      };
      place = c.self.inside.place;
      count = c.self.inside.count;
    } in
    subst (λ (step : BankStep). IfNone c.why_kept.result
    (CanWantMemory (content_of (kept_ring c.args.self.now)) step)) (sym c.in-Pass.is)
    (subst (λ (k : KeptRing). IfNone c.why_kept.result (CanWantMemory (content_of (kept_ring k))
    (Pass c.in-Pass.from c.in-Pass.to))) c.self.view_is
    (ring_passes r c.in-Pass.from c.in-Pass.to c.why_kept.result c.why_kept.ensures.none))

pub returns-in-Deliver-clause-none : goal.returns-in-Deliver-clause-none
returns-in-Deliver-clause-none c =
    subst (CanWantMemory (content_of (kept_ring c.args.self.now))) (sym c.in-Deliver.is)
    (ring_delivers c.args.self.now c.in-Deliver.place
    (omega (arith, c.if-place-in_flight.true, c.in_flight.ensures)))
