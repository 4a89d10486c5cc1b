use Rattle.std.proofs.Common.{refl}
use Rattle.bip_partition.proofs.TableLemmas.{reserved_known}
use Rattle.bip_partition.proofs.plans.Plan.fits.Goals as goal

pub class_of-requires : goal.class_of-requires
class_of-requires c = reserved_known c.args.self.now c.args.request.now.inter.0
    c.reserved.ensures.valid (c.if-not-reserved.ensures.reserved.0 refl)

pub are_parties-requires : goal.are_parties-requires
are_parties-requires c =
    rw (← c.self.view_is) at (reserved_known c.args.self.now c.args.request.now.inter.0
    c.reserved.ensures.valid (c.if-not-reserved.ensures.reserved.0 refl))

pub are_explained-requires : goal.are_explained-requires
are_explained-requires c =
    rw (← c.self.view_is) at (reserved_known c.args.self.now c.args.request.now.inter.0
    c.reserved.ensures.valid (c.if-not-reserved.ensures.reserved.0 refl))
