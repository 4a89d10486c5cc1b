use Rattle.bip_reader.specs.Writing.{IsSpelledTransition, line_of_transition}
use Rattle.bip_reader.proofs.WritingLemmas.{all_taken, list_step}
use Rattle.bip_reader.proofs.writing.write_transitions.Goals as goal

pub loop-transition-preserved : goal.loop-transition-preserved
loop-transition-preserved c =
    list_step IsSpelledTransition (line_of_transition c.args.component.now)
    c.as_slice-transition-items.result.now c.loop-transition.transition-index
    c.transition-item.result c.args.text.now.items c.loop-transition.text.items _
    c.loop-transition-test.true c.transition-item.is c.loop-transition.invariant
    c.in_ok-write_transition.ensures.text c.in_ok-write_transition.ensures.spelled

pub returns-clause-spelled : goal.returns-clause-spelled
returns-clause-spelled c =
    rw c.as_slice-transition-items.ensures at
    (all_taken IsSpelledTransition c.as_slice-transition-items.result.now
    c.loop-transition.transition-index c.loop-transition-test.false
    c.loop-transition.invariant.1)
