use Rattle.std.proofs.Common.{◌≡◌, ◌∙◌, List, None, Some, [], ap, get_or, slice_get, sym}
use Rattle.std.proofs.lemmas.List.{get_or_default}
use Rattle.bip_model.specs.declared.messages.Request.{Request}
use Rattle.bip_bank.proofs.IdlenessLemmas.{asked_where_first, never_asked, queue_within}
use Rattle.bip_bank.proofs.idleness.is_asked_at.Goals as goal

pub bounds-queues-inter : goal.bounds-queues-inter
bounds-queues-inter c =
    let at : slice_get c.stations.result.now c.args.station.0 ≡ Some c.in-Some.inter =
    sym c.interaction_at.ensures ∙ c.in-Some.is in
    queue_within c.args.plan.now c.args.queues.now c.args.station.0 c.stations.result.now
    c.in-Some.inter c.recall.ensures.planned.valid c.requires c.stations.ensures at

pub returns-in-Some : goal.returns-in-Some
returns-in-Some c =
    let at : slice_get c.stations.result.now c.args.station.0 ≡ Some c.in-Some.inter =
    sym c.interaction_at.ensures ∙ c.in-Some.is in
    let within = queue_within c.args.plan.now c.args.queues.now c.args.station.0
    c.stations.result.now c.in-Some.inter c.recall.ensures.planned.valid c.requires
    c.stations.ensures at in
    let queue : c.index-queues-inter.result ≡ get_or c.args.queues.now c.in-Some.inter.0 [] =
    c.index-queues-inter.is
    ∙ get_or_default c.args.queues.now c.in-Some.inter.0 c.index-queues-inter.result [] within in
    let asked = asked_where_first _ c.first.result c.args.plan.now c.args.queues.now
    c.args.station.0 c.stations.result.now c.in-Some.inter c.stations.ensures at
    (c.first.ensures ∙ ap (λ (qs : List Request). slice_get qs 0) queue) in (
      λ is. asked.0 (sym c.is_some.ensures ∙ is),
      λ is. c.is_some.ensures ∙ asked.1 is,
    )

pub returns-in-None : goal.returns-in-None
returns-in-None c =
    let at : slice_get c.stations.result.now c.args.station.0 ≡ None = sym c.interaction_at.ensures
    ∙ c.in-None.is in (
      λ is. cc,
      λ is. absurd (never_asked c.args.plan.now c.args.queues.now c.args.station.0
          c.stations.result.now c.stations.ensures at is),
    )
