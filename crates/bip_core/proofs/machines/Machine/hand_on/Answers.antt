use Rattle.std.proofs.Common.{refl}
use Rattle.bip_core.specs.Worlds.{world_of}
use Rattle.bip_core.proofs.WorldLemmas.{taken_counted}
use Rattle.bip_core.proofs.machines.Machine.hand_on.Goals as goal

pub returns : goal.returns
returns g c = taken_counted _ c.args.self.now c.args.self.now c.take_out-letter.new.self
    c.args.place c.take_out-letter.result c.take_in.result
    (world_of c.take_in.new.self) refl c.take_out-letter.ensures.taken
    c.take_out-letter.ensures.others c.take_in.ensures
