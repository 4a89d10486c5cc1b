use Rattle.std.proofs.lemmas.Option.{IfSome_then}
use Rattle.std.proofs.lemmas.Result.{IfOk-weaker}
use Rattle.bip_explain.proofs.ends.lines_below.Goals as goal

pub returns : goal.returns
returns c = λ text all. IfOk-weaker c.lines_to.result _ _
    (λ found above. IfSome_then found above (λ lines so. so.1))
    (c.lines_to.ensures text c.args.from.now all)
