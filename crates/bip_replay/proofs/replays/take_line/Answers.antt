use Rattle.std.proofs.Common.{rules}
use Rattle.bip_replay.specs.Replays.{IsRefused}
use Rattle.bip_replay.specs.Runs.{standing_of}
use Rattle.bip_replay.proofs.replays.take_line.Goals as goal

pub returns-in_err-step_expected : goal.returns-in_err-step_expected
returns-in_err-step_expected c =
    let e = c.in-Some.ensures in
    let refused : IsRefused c.args.position.now.model (standing_of c.args.position.now).state
    (standing_of c.args.position.now).used c.args.line.now c.in_err-step_expected.field-0.0 =
    record {
      grant = e.grant;
      reads = e.reads;
      why = c.in_err-step_expected.ensures.fault e.grant e.is.inter;
    } in
    search rules
