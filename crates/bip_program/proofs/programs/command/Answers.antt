use Rattle.std.proofs.lemmas.Result.{IfOk-weaker}
use Rattle.clap.specs.Simple.{new_shape}
use Rattle.bip_program.specs.Programs.{HasShape}
use Rattle.bip_program.proofs.ProgramLemmas.{bare_shape, have_rules}
use Rattle.bip_program.proofs.programs.command.Goals as goal

pub returns : goal.returns
returns c = λ rules are.
    let none : HasShape (new_shape c.args.name.now) c.after_help.result =
    bare_shape c.args.name.now c.new.result c.about.result c.after_help.result _ _
    c.new.ensures.app c.new.ensures.local c.about.ensures c.after_help.ensures in
    IfOk-weaker c.args-2.result _ _
    (λ command adds.
    have_rules rules c.args.arguments.items c.after_help.result command (new_shape c.args.name.now)
    none are adds) c.args-2.ensures
