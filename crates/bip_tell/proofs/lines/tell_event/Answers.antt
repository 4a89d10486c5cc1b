use Rattle.bip_core.specs.Worlds.{world_of}
use Rattle.bip_tell.proofs.LineLemmas.{event_told, if_err}
use Rattle.bip_tell.specs.Lines.{done_untold}
use Rattle.bip_tell.proofs.lines.tell_event.Goals as goal

pub begin_line-requires-clause-spelled : goal.begin_line-requires-clause-spelled
begin_line-requires-clause-spelled g c = rw c.plan-plan.ensures c.requires.spelled

pub returns-clause-told : goal.returns-clause-told
returns-clause-told g c =
    let begun = c.in_ok-left.ensures.text in
    let told =
    event_told c.plan-plan.result.now (world_of c.args.world.now)
    (world_of c.watch_event-did.new.world) _ c.in_ok-left.left c.args.event
    c.hint_of-hint.result c.watch_event-did.result begun.0
    c.args.text.now.items c.begin_line.new.text.items c.write_done.new.text.items
    c.push.new.self.items
    c.plan-plan.ensures c.watch_event-did.ensures.done begun.1 c.hint_of-hint.ensures begun.2
    c.in_ok-left.ensures.left c.in_ok-write_done.ensures c.in_ok-push.ensures.items in
    (c.watch_event-did.result, told.0, told.1, told.2, c.watch_event-did.ensures.counted)

pub returns-in_err-write_done-clause-untold : goal.returns-in_err-write_done-clause-untold
returns-in_err-write_done-clause-untold g c =
    if_err c.from_residual-in_err-write_done.result _
    (done_untold c.watch_event-did.result c.watch_event-did.ensures.done
    c.watch_event-did.ensures.counted)

pub returns-in_err-push-clause-untold : goal.returns-in_err-push-clause-untold
returns-in_err-push-clause-untold g c = if_err c.from_residual-in_err-push.result _
    (done_untold c.watch_event-did.result c.watch_event-did.ensures.done
    c.watch_event-did.ensures.counted)
