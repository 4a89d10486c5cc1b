use Rattle.std.proofs.Common.{Err, ap}
use Rattle.bip_reader.specs.Reading.{reading_after}
use Rattle.bip_reader.proofs.AnswerLemmas.{led_to, told_as_said}
use Rattle.bip_reader.proofs.FaultLemmas.{lacks_fairly, line_fair}
use Rattle.bip_reader.proofs.TextLemmas.{all_said, at_fault, goes_on, lacks_next}
use Rattle.bip_reader.proofs.texts.read_lines.Goals as goal

pub returns-in-Err-clause-fault : goal.returns-in-Err-clause-fault
returns-in-Err-clause-fault c = λ other.
    at_fault _ _ _ _ _ _ _ c.in-Err.why c.loop-line.invariant c.in-Some.ensures.steps
    (told_as_said (reading_after c.in-Some.bytes.now c.loop-line.reading) c.in-Err.why
    c.in-Err.ensures.said other)

pub returns-in-Err-clause-memory : goal.returns-in-Err-clause-memory
returns-in-Err-clause-memory c = λ is.
    lacks_next _ _ _ _ _ _ _ c.loop-line.invariant c.in-Some.ensures.steps
    (lacks_fairly (reading_after c.in-Some.bytes.now c.loop-line.reading) c.in-Err.why
    (line_fair c.in-Some.bytes.now c.loop-line.reading) c.in-Err.ensures.said is)
    (c.in-Err.ensures.says (ap Err is))

pub loop-line-preserved : goal.loop-line-preserved
loop-line-preserved c =
    goes_on _ _ _ _ _ _ _ _ c.loop-line.invariant c.in-Some.ensures.steps
    (led_to (reading_after c.in-Some.bytes.now c.loop-line.reading) c.read_line.result
    c.read_line.new.self c.in_default.not-Err c.read_line.ensures.said)

pub returns-clause-said : goal.returns-clause-said
returns-clause-said c = (all_said _ _ _ _ c.loop-line.invariant c.in-None.ensures.steps.0).0

pub returns-clause-last : goal.returns-clause-last
returns-clause-last c = (all_said _ _ _ _ c.loop-line.invariant c.in-None.ensures.steps.0).1
