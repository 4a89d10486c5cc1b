use Rattle.std.proofs.Common.{◌≡◌, ◌<◌, ◌∙◌, ap, length, refl, rules, set}
use Rattle.bip_model.specs.declared.numbering.CompId.{CompId}
use Rattle.bip_frame.specs.Views.{notify_shown}
use Rattle.bip_core.specs.Worlds.{world_of}
use Rattle.bip_core.specs.declared.events.What.TheVariants.{Moves}
use Rattle.bip_core.proofs.FitLemmas.{moved_fits}
use Rattle.bip_core.proofs.WorldLemmas.{component_kept, kept_by, moved_on, notified_same, read_here}
use Rattle.bip_core.proofs.WorldLemmas.{sent_kept}
use Rattle.bip_core.proofs.machines.Machine.move_by.Goals as goal

pub send_moved-outcome-requires : goal.send_moved-outcome-requires
send_moved-outcome-requires g c =
    let w = kept_by c.self.inside.plan.now c.self.inside.components.items
    c.self.inside.classes.items c.self.inside.mail c.self.inside.own
    (g.B.Bank.kept c.self.inside.bank) in
    let old = c.index_mut.result.now in
    let n = notify_shown c.args.notify.now in
    let later = c.on_notify_frame-did.new.self in
    let within : c.comp-comp.result.0 < length w.components = search rules in
    let is = read_here w.components c.comp-comp.result.0 old within c.index_mut.ensures.value in
    let same = notified_same old later n c.on_notify_frame-did.result
    c.on_notify_frame-did.ensures.after in
    moved_fits w.plan old later n c.on_notify_frame-did.result c.recall.ensures.valid
    (same.0 ∙ (c.self.invariant.components c.comp-comp.result.0 old is).0)
    c.on_notify_frame-did.ensures.node c.on_notify_frame-did.ensures.answer
    c.on_notify_frame-did.ensures.after

pub invariant_of-self : goal.invariant_of-self
invariant_of-self g c =
    let w = kept_by c.self.inside.plan.now c.self.inside.components.items
    c.self.inside.classes.items c.self.inside.mail c.self.inside.own
    (g.B.Bank.kept c.self.inside.bank) in
    let old = c.index_mut.result.now in
    let n = notify_shown c.args.notify.now in
    let did = c.on_notify_frame-did.result in
    let later = c.on_notify_frame-did.new.self in
    let within : c.comp-comp.result.0 < length w.components = search rules in
    let is = read_here w.components c.comp-comp.result.0 old within c.index_mut.ensures.value in
    let same = notified_same old later n did c.on_notify_frame-did.ensures.after in
    let kept = component_kept w c.comp-comp.result.0 later old within is same.0 same.1
    c.self.invariant in
    let fits = moved_fits w.plan old later n did c.recall.ensures.valid
    (same.0 ∙ (c.self.invariant.components c.comp-comp.result.0 old is).0)
    c.on_notify_frame-did.ensures.node c.on_notify_frame-did.ensures.answer
    c.on_notify_frame-did.ensures.after in
    sent_kept (record w { components = set w.components c.comp-comp.result.0 later })
    (Moves did) c.send_moved-outcome.result c.send_moved-outcome.new.mail
    c.recall.ensures.planned fits c.send_moved-outcome.ensures kept

pub returns : goal.returns
returns g c =
    let w = kept_by c.self.inside.plan.now c.self.inside.components.items
    c.self.inside.classes.items c.self.inside.mail c.self.inside.own
    (g.B.Bank.kept c.self.inside.bank) in
    let old = c.index_mut.result.now in
    let n = notify_shown c.args.notify.now in
    let later = c.on_notify_frame-did.new.self in
    let within : c.comp-comp.result.0 < length w.components = search rules in
    let is = read_here w.components c.comp-comp.result.0 old within c.index_mut.ensures.value in
    let named : c.comp-comp.result.0 ≡ n.comp.0 = ap (λ (k : CompId). k.0) c.comp-comp.ensures in
    rw (← c.self.view_is) (record {
      what = Moves c.on_notify_frame-did.result;
      seen = c.see.ensures;
      middle = world_of (record w { components = set w.components c.comp-comp.result.0 later });
      on = moved_on w c.comp-comp.result.0 n c.on_notify_frame-did.result old later named is within
          c.on_notify_frame-did.ensures.answer c.on_notify_frame-did.ensures.after;
      sending = c.send_moved-outcome.ensures;
      others = refl;
    })
