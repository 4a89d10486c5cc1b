use Rattle.std.proofs.Common.{◌<◌, length, refl, rules, set}
use Rattle.bip_frame.specs.Views.{offer_shown}
use Rattle.bip_ip.specs.Nodes.{node_of}
use Rattle.bip_core.specs.Worlds.{world_of}
use Rattle.bip_core.specs.declared.events.What.TheVariants.{Hears}
use Rattle.bip_core.proofs.FitLemmas.{heard_keeps}
use Rattle.bip_core.proofs.SendLemmas.{sends_nothing}
use Rattle.bip_core.proofs.WorldLemmas.{class_kept, heard_on, heard_same, kept_by, read_here}
use Rattle.bip_core.proofs.machines.Machine.hear.Goals as goal

pub invariant_of-self : goal.invariant_of-self
invariant_of-self g c =
    let w = kept_by c.self.inside.plan.now c.self.inside.components.items
    c.self.inside.classes.items c.self.inside.mail c.self.inside.own
    (g.B.Bank.kept c.self.inside.bank) in
    let old = c.index_mut.result.now in
    let offer = offer_shown c.args.offer.now in
    let within : c.args.class.0 < length w.classes = search rules in
    let is = read_here w.classes c.args.class.0 old within c.index_mut.ensures.value in
    let left = c.on_offer_frame-receipt.ensures.left in
    let same = heard_same offer c.on_offer_frame-receipt.result (node_of old)
    (node_of c.on_offer_frame-receipt.new.self) left in
    let keeps = heard_keeps w.plan offer c.on_offer_frame-receipt.result (node_of old)
    (node_of c.on_offer_frame-receipt.new.self) c.on_offer_frame-receipt.ensures.receipt left
    (c.self.invariant.fits c.args.class.0 old is) in
    class_kept w c.args.class.0 c.on_offer_frame-receipt.new.self old within is same.0 same.1 keeps
    c.self.invariant

pub returns : goal.returns
returns g c =
    let w = kept_by c.self.inside.plan.now c.self.inside.components.items
    c.self.inside.classes.items c.self.inside.mail c.self.inside.own
    (g.B.Bank.kept c.self.inside.bank) in
    let old = c.index_mut.result.now in
    let within : c.args.class.0 < length w.classes = search rules in
    let is = read_here w.classes c.args.class.0 old within c.index_mut.ensures.value in
    rw (← c.self.view_is) (record {
      what = Hears c.on_offer_frame-receipt.result;
      seen = c.see.ensures;
      middle = world_of
          (record w { classes = set w.classes c.args.class.0 c.on_offer_frame-receipt.new.self });
      on = heard_on w c.args.class (offer_shown c.args.offer.now) c.on_offer_frame-receipt.result
          old c.on_offer_frame-receipt.new.self is c.on_offer_frame-receipt.ensures.receipt
          c.on_offer_frame-receipt.ensures.left;
      sending = sends_nothing w.plan (Hears c.on_offer_frame-receipt.result) _ w.mail refl
          c.of.ensures;
      others = refl;
    })
