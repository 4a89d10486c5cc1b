use Rattle.std.proofs.Common.{◌<◌, length, subst, sym}
use Rattle.bip_model.proofs.ListLemmas.{All-slice_get}
use Rattle.bip_core.specs.Letters.{CanBeHandedOn}
use Rattle.bip_core.specs.Worlds.{KeptWorld}
use Rattle.bip_core.proofs.WorldLemmas.{kept_by, mail_kept, rest_fits, taken_out}
use Rattle.bip_core.proofs.machines.Machine.take_out.Goals as goal

pub invariant_of-self : goal.invariant_of-self
invariant_of-self g c =
    let w = kept_by c.self.inside.plan.now c.self.inside.components.items
    c.self.inside.classes.items c.self.inside.mail c.self.inside.own
    (g.B.Bank.kept c.self.inside.bank) in
    let within : c.args.place < length w.mail =
    subst (λ (k : KeptWorld). c.args.place < length k.mail) (sym c.self.view_is) c.requires in
    rw c.remove.ensures.others (mail_kept w _
    (rest_fits w.plan w.mail c.args.place within c.self.invariant.mail) c.self.invariant)

pub returns-clause-message : goal.returns-clause-message
returns-clause-message g c = rw (← c.self.view_is) c.remove.ensures.message

pub returns-clause-taken : goal.returns-clause-taken
returns-clause-taken g c =
    rw (c.remove.ensures.others, ← c.self.view_is)
    (taken_out c.self.inside.mail c.args.place c.remove.result c.remove.ensures.message)

pub returns-clause-accepted : goal.returns-clause-accepted
returns-clause-accepted g c =
    let w = kept_by c.self.inside.plan.now c.self.inside.components.items
    c.self.inside.classes.items c.self.inside.mail c.self.inside.own
    (g.B.Bank.kept c.self.inside.bank) in
    rw (← c.self.view_is) (All-slice_get (CanBeHandedOn w.plan) w.mail c.args.place c.remove.result
    c.self.invariant.mail c.remove.ensures.message)
