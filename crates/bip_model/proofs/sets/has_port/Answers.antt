use Rattle.std.proofs.Common.{le-ltb, refl}
use Rattle.std.proofs.lemmas.Nat.Bits.{bit_at_above}
use Rattle.bip_model.proofs.sets.has_port.Goals as goal

pub returns-else-port-lt16 : goal.returns-else-port-lt16
returns-else-port-lt16 c =
    rw (
      le-ltb c.args.port.0 16 c.if-port-lt16.false,
      bit_at_above c.args.ports 16 c.args.port.0 c.ranges.ports.fits c.if-port-lt16.false,
    ) refl
