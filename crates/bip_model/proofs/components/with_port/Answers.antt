use Rattle.std.proofs.Common.{w16, arith}
use Rattle.std.proofs.lemmas.Bool.Decides.{nat_tests}
use Rattle.std.proofs.lemmas.Nat.Bits.{bit_at_set_same, bit_at_set_other}
use Rattle.bip_model.proofs.components.with_port.Goals as goal

pub returns : goal.returns
returns c = λ k.
    let same = bit_at_set_same w16 c.args.ports c.args.port.0 (omega arith) in
    grind (arith, nat_tests, bit_at_set_other w16 c.args.ports c.args.port.0 (omega arith) k)
