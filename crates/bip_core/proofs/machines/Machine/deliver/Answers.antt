use Rattle.bip_core.specs.Worlds.{world_of}
use Rattle.bip_core.specs.declared.events.Event.TheVariants.{Mail}
use Rattle.bip_core.specs.declared.events.What.TheVariants.{Nothing}
use Rattle.std.proofs.Common.{◌≤◌, length, refl, rules}
use Rattle.bip_core.proofs.WorldLemmas.{counted_quiet, no_mail}
use Rattle.bip_core.proofs.machines.Machine.deliver.Goals as goal

pub returns-then-place-len-clause-counted : goal.returns-then-place-len-clause-counted
returns-then-place-len-clause-counted g c =
    let past : length c.args.self.now.mail ≤ c.args.place = search rules in
    counted_quiet _ (world_of c.args.self.now) (Mail c.args.place) Nothing _
    (world_of c.args.self.now) c.see.ensures (no_mail c.args.self.now c.args.place past) refl
    c.of.ensures
