-- Colours: each class has its own, and none is near red.
use Rattle.std.proofs.Common.{arith}
use Rattle.bip_draw.specs.Laws.{ColoursDiffer, NoneIsRed}

pub colours_differ : ColoursDiffer
colours_differ j k low below same = omega (arith, low, below, same)

pub none_is_red : NoneIsRed
none_is_red k = (omega arith, omega arith)
