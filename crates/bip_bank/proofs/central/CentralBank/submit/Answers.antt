use Rattle.std.proofs.Common.{◌<◌, length, sym, ap, ◌∙◌, subst, arith}
use Rattle.bip_partition.proofs.TableLemmas.{reserved_known}
use Rattle.bip_partition.specs.Plans.{IsFit}
use Rattle.bip_bank.proofs.CentralLemmas.{submits}
use Rattle.bip_bank.specs.Banks.{content_of, with_request}
use Rattle.bip_bank.specs.Central.{KeptCentral, kept_central}
use Rattle.bip_bank.proofs.central.CentralBank.submit.Goals as goal

pub put_last-requires : goal.put_last-requires
put_last-requires c =
    let fit = subst (λ (k : KeptCentral). IsFit k.plan c.args.request)
    (sym c.self.view_is) c.requires in
    omega (
      arith,
      c.self.invariant.each,
      reserved_known c.self.inside.plan.now c.args.request.inter.0 c.recall.ensures.planned.valid
          fit.reserved,
    )

pub invariant_of-self-2 : goal.invariant_of-self-2
invariant_of-self-2 c =
    let fit = subst (λ (k : KeptCentral). IsFit k.plan c.args.request)
    (sym c.self.view_is) c.requires in
    let within : c.args.request.inter.0 < length c.self.inside.waiting.items =
    omega (
      arith,
      c.self.invariant.each,
      reserved_known c.self.inside.plan.now c.args.request.inter.0 c.recall.ensures.planned.valid
          fit.reserved,
    ) in
    (submits _ c.args.request c.put_last.new.queues.items c.self.invariant fit within
    c.in_default.ensures.ok).valid

pub returns-clause-ok : goal.returns-clause-ok
returns-clause-ok c =
    let fit = subst (λ (k : KeptCentral). IsFit k.plan c.args.request)
    (sym c.self.view_is) c.requires in
    let within : c.args.request.inter.0 < length c.self.inside.waiting.items =
    omega (
      arith,
      c.self.invariant.each,
      reserved_known c.self.inside.plan.now c.args.request.inter.0 c.recall.ensures.planned.valid
          fit.reserved,
    ) in
    (submits _ c.args.request c.put_last.new.queues.items c.self.invariant fit within
    c.in_default.ensures.ok).content
    ∙ ap (λ (k : KeptCentral). with_request c.args.request (content_of (kept_central k)))
    c.self.view_is
