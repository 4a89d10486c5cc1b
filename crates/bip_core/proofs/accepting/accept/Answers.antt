use Rattle.std.proofs.Common.{Err, ap}
use Rattle.bip_frame.specs.Views.{message_shown}
use Rattle.bip_core.proofs.AcceptingLemmas.{judged_dropped, not_dropped, one_drop}
use Rattle.bip_core.specs.declared.accepting.DropFault.TheVariants.{Frame}
use Rattle.bip_core.proofs.accepting.accept.Goals as goal

pub returns-in-Err-clause-each : goal.returns-in-Err-clause-each
returns-in-Err-clause-each c = λ fault dropped.
    ap (λ f. Err f) (one_drop c.args.plan.now c.args.to c.args.bytes.now
    (Frame c.in-Err.fault) fault c.in-Err.ensures.first dropped)

pub returns-in-Ok-judge-clause-each : goal.returns-in-Ok-judge-clause-each
returns-in-Ok-judge-clause-each c = λ fault dropped.
    absurd (not_dropped c.args.plan.now c.args.to c.args.bytes.now
    (message_shown c.in-Ok.frame) fault c.in-Ok.ensures.found c.in-Ok-judge.ensures dropped)

pub returns-in-Err-judge-clause-each : goal.returns-in-Err-judge-clause-each
returns-in-Err-judge-clause-each c = λ fault dropped.
    let first = judged_dropped c.args.plan.now c.args.to c.args.bytes.now
    (message_shown c.in-Ok.frame) c.in-Err-judge.fault c.in-Ok.ensures.found
    c.in-Err-judge.ensures in
    ap (λ f. Err f) (one_drop c.args.plan.now c.args.to c.args.bytes.now c.in-Err-judge.fault fault
    first dropped)

pub returns-in-Err-clause-only : goal.returns-in-Err-clause-only
returns-in-Err-clause-only c = λ m frame accepted.
    absurd (not_dropped c.args.plan.now c.args.to c.args.bytes.now m
    (Frame c.in-Err.fault) frame accepted c.in-Err.ensures.first)

pub returns-in-Err-judge-clause-only : goal.returns-in-Err-judge-clause-only
returns-in-Err-judge-clause-only c = λ m frame accepted.
    let first = judged_dropped c.args.plan.now c.args.to c.args.bytes.now
    (message_shown c.in-Ok.frame) c.in-Err-judge.fault c.in-Ok.ensures.found
    c.in-Err-judge.ensures in
    absurd (not_dropped c.args.plan.now c.args.to c.args.bytes.now m c.in-Err-judge.fault frame
    accepted first)
