use Rattle.std.proofs.Common.{◌<◌, ◌≤◌, length, refl, rules}
use Rattle.bip_core.specs.Worlds.{world_of}
use Rattle.bip_core.specs.declared.events.Event.TheVariants.{Try}
use Rattle.bip_core.specs.declared.events.What.TheVariants.{Nothing}
use Rattle.bip_core.proofs.WorldLemmas.{counted_idly, counted_quiet, kept_by, no_try, read_here}
use Rattle.bip_core.proofs.machines.Machine.try_one.Goals as goal

pub returns-then-class-len-clause-counted : goal.returns-then-class-len-clause-counted
returns-then-class-len-clause-counted g c =
    let w = kept_by c.self.inside.plan.now c.self.inside.components.items
    c.self.inside.classes.items c.self.inside.mail c.self.inside.own
    (g.B.Bank.kept c.self.inside.bank) in
    let past : length w.classes ≤ c.args.class.0 = search rules in
    rw (← c.self.view_is) (counted_quiet _ (world_of w) (Try c.args.class c.args.inter) Nothing _
    (world_of w) c.see.ensures (no_try w c.args.class c.args.inter past) refl c.of.ensures)

pub returns-in-Some-clause-counted : goal.returns-in-Some-clause-counted
returns-in-Some-clause-counted g c =
    let w = kept_by c.self.inside.plan.now c.self.inside.components.items
    c.self.inside.classes.items c.self.inside.mail c.self.inside.own
    (g.B.Bank.kept c.self.inside.bank) in
    let within : c.args.class.0 < length w.classes = search rules in
    let is = read_here w.classes c.args.class.0 c.index.result.now within c.index.ensures in
    rw (← c.self.view_is) (counted_idly _ w c.args.class c.args.inter c.in-Some.why
    c.index.result.now _ c.see_why_not.ensures is c.in-Some.ensures.some c.of-in-Some.ensures)
