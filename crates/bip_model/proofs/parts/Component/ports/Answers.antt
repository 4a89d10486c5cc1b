use Rattle.std.proofs.Common.{◌∙◌, arith}
use Rattle.bip_model.proofs.PlaceLemmas.{offered_all}
use Rattle.bip_model.proofs.parts.Component.ports.Goals as goal

pub returns : goal.returns
returns c = λ port.
    c.loop-number.invariant port.0 ∙ offered_all c.args.self.now c.args.local.now
    c.loop-number.number port c.requires.component (omega arith)
