use Rattle.std.proofs.lemmas.List.{get_or-replicate}
use Rattle.bip_model.proofs.partitions.times_of_each.Goals as goal

pub loop-class-init : goal.loop-class-init
loop-class-init c = λ a within. get_or-replicate 128 a 0 0 within
