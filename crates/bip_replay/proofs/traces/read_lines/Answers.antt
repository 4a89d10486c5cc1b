use Rattle.bip_replay.proofs.ItemLemmas.{has_read-fault}
use Rattle.bip_replay.proofs.TraceLemmas.{read_before-end, read_before-more, read_before-none}
use Rattle.bip_replay.proofs.TraceLemmas.{read_before-stopped}
use Rattle.bip_replay.proofs.traces.read_lines.Goals as goal

pub loop-number-init : goal.loop-number-init
loop-number-init c =
    rw (
      c.new-grants.ensures.items,
      c.into_iter-number-iterator.ensures.into_iter_gives,
      c.of-number-items.ensures,
    ) (read_before-none c.args.model.now c.args.text.now c.args.end)

pub returns-then-is_after-clause-grants : goal.returns-then-is_after-clause-grants
returns-then-is_after-clause-grants c =
    read_before-stopped _ _ _ _ _ _ _ _ c.loop-number.invariant c.in-Some.ensures.steps
    (c.is_after.ensures.after c.if-is_after.true)

pub returns-in-Err-clause-fault : goal.returns-in-Err-clause-fault
returns-in-Err-clause-fault c =
    has_read-fault _ _ _ _ _ _ _ c.read_one.new.grants.items c.in-Err.fault
    c.loop-number.invariant.read c.in-Some.ensures.steps c.in-Err.ensures

pub loop-number-preserved : goal.loop-number-preserved
loop-number-preserved c =
    read_before-more _ _ _ _ _ _ _ _ c.read_one.new.grants.items _ c.loop-number.invariant
    c.in-Some.ensures.steps (c.is_after.ensures.before c.if-is_after.false) c.in_default.ensures

pub returns-clause-grants : goal.returns-clause-grants
returns-clause-grants c = read_before-end _ _ _ _ _ c.loop-number.invariant
    c.in-None.ensures.steps.0
