use Rattle.std.proofs.Common.{◌<◌, length, sym, ap, ◌∙◌, subst, arith}
use Rattle.bip_partition.proofs.TableLemmas.{reserved_known}
use Rattle.bip_partition.specs.Plans.{IsFit}
use Rattle.bip_bank.proofs.CentralLemmas.{submits}
use Rattle.bip_bank.specs.Banks.{content_of, with_request}
use Rattle.bip_ring.proofs.RingLemmas.{submits_ring}
use Rattle.bip_ring.specs.Rings.{KeptRing, kept_ring}
use Rattle.bip_ring.proofs.rings.RingBank.submit.Goals as goal

pub put_last-requires : goal.put_last-requires
put_last-requires c =
    let fit = subst (λ (k : KeptRing). IsFit k.desk.plan c.args.request) (sym c.self.view_is)
    c.requires in
    omega (
      arith,
      c.self.invariant.desk.each,
      reserved_known c.self.inside.plan.now
          c.args.request.inter.0 c.recall.ensures.planned.valid fit.reserved,
    )

pub invariant_of-self-2 : goal.invariant_of-self-2
invariant_of-self-2 c =
    let fit = subst (λ (k : KeptRing). IsFit k.desk.plan c.args.request) (sym c.self.view_is)
    c.requires in
    let within : c.args.request.inter.0 < length c.self.inside.waiting.items = omega (
      arith,
      c.self.invariant.desk.each,
      reserved_known c.self.inside.plan.now c.args.request.inter.0
          c.recall.ensures.planned.valid fit.reserved,
    ) in
    record {
      desk = (submits _ c.args.request c.put_last.new.queues.items c.self.invariant.desk fit within
          c.in_default.ensures.ok).valid;
      stations = c.self.invariant.stations;
      listed = c.self.invariant.listed;
      counted = c.self.invariant.counted;
    }

pub returns-clause-ok : goal.returns-clause-ok
returns-clause-ok c =
    let fit = subst (λ (k : KeptRing). IsFit k.desk.plan c.args.request) (sym c.self.view_is)
    c.requires in
    let within : c.args.request.inter.0 < length c.self.inside.waiting.items = omega (
      arith,
      c.self.invariant.desk.each,
      reserved_known c.self.inside.plan.now c.args.request.inter.0
          c.recall.ensures.planned.valid fit.reserved,
    ) in
    submits_ring (record {
      desk = record {
        plan = c.self.inside.plan.now;
        base = c.self.inside.base;
        table = c.self.inside.token.table;
        waiting = c.self.inside.waiting.items;
      };
      place =
          c.self.inside.place;
      count = c.self.inside.count;
    }) c.args.request c.put_last.new.queues.items
    (submits _ c.args.request c.put_last.new.queues.items c.self.invariant.desk fit within
    c.in_default.ensures.ok).content
    ∙ ap (λ (k : KeptRing). with_request c.args.request (content_of (kept_ring k))) c.self.view_is
