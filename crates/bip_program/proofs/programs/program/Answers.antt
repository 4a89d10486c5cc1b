use Rattle.std.proofs.Common.{[]}
use Rattle.std.proofs.lemmas.Result.{IfOk-weaker}
use Rattle.bip_program.specs.Programs.{bare_program}
use Rattle.bip_program.proofs.programs.program.Goals as goal

pub returns : goal.returns
returns c =
    let bare = IfOk-weaker c.bare.result _ _ (λ program has. has.0) c.bare.ensures in
    let one =
    c.with-program.ensures (record { top = bare_program; subs = [] }) _ bare c.canon.ensures in
    let two = c.with-program-2.ensures _ _ one c.chart.ensures in
    let three = c.with-program-3.ensures _ _ two c.check.ensures in
    let four = c.with-program-4.ensures _ _ three c.draw.ensures in
    let five = c.with-program-5.ensures _ _ four c.replay.ensures in
    let six = c.with-program-6.ensures _ _ five c.walk.ensures in
    let seven = c.with-program-7.ensures _ _ six c.steps.ensures in
    let eight = c.with-program-8.ensures _ _ seven c.explore.ensures in
    let nine = c.with-program-9.ensures _ _ eight c.seed.ensures in
    c.with.ensures _ _ nine c.run.ensures
