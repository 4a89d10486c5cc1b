use Rattle.std.proofs.Common.{◌≡◌, ◌<◌, ◌∙◌, ap, length, refl, rules, set}
use Rattle.bip_model.specs.declared.numbering.ClassId.{ClassId}
use Rattle.bip_frame.specs.Views.{reply_shown}
use Rattle.bip_ip.specs.Nodes.{node_of}
use Rattle.bip_core.specs.Events.{class_named}
use Rattle.bip_core.specs.Worlds.{world_of}
use Rattle.bip_core.specs.declared.events.What.TheVariants.{Learns}
use Rattle.bip_core.proofs.LetterLemmas.{class_is}
use Rattle.bip_core.proofs.FitLemmas.{replied_fits, replied_keeps}
use Rattle.bip_core.proofs.WorldLemmas.{class_kept, kept_by, learned_on, read_here, replied_same}
use Rattle.bip_core.proofs.WorldLemmas.{sent_kept}
use Rattle.bip_core.proofs.machines.Machine.learn.Goals as goal

pub send_told-outcome-requires : goal.send_told-outcome-requires
send_told-outcome-requires g c =
    let w = kept_by c.self.inside.plan.now c.self.inside.components.items
    c.self.inside.classes.items c.self.inside.mail c.self.inside.own
    (g.B.Bank.kept c.self.inside.bank) in
    let old = c.index_mut.result.now in
    let within : c.class-class.result.0 < length w.classes = search rules in
    let is = read_here w.classes c.class-class.result.0 old within c.index_mut.ensures.value in
    replied_fits w.plan (node_of old) (reply_shown c.args.reply.now) c.on_reply_frame-did.result
    (c.self.invariant.fits c.class-class.result.0 old is) c.on_reply_frame-did.ensures.answered

pub invariant_of-self : goal.invariant_of-self
invariant_of-self g c =
    let w = kept_by c.self.inside.plan.now c.self.inside.components.items
    c.self.inside.classes.items c.self.inside.mail c.self.inside.own
    (g.B.Bank.kept c.self.inside.bank) in
    let old = c.index_mut.result.now in
    let r = reply_shown c.args.reply.now in
    let did = c.on_reply_frame-did.result in
    let n = c.on_reply_frame-did.new.self in
    let within : c.class-class.result.0 < length w.classes = search rules in
    let is = read_here w.classes c.class-class.result.0 old within c.index_mut.ensures.value in
    let keeps = c.self.invariant.fits c.class-class.result.0 old is in
    let answered = c.on_reply_frame-did.ensures.answered in
    let left = c.on_reply_frame-did.ensures.left in
    let same = replied_same r did (node_of old) (node_of n) answered left in
    let kept = class_kept w c.class-class.result.0 n old within is same.0 same.1
    (replied_keeps w.plan (node_of old) (node_of n) r did keeps answered left)
    c.self.invariant in
    sent_kept (record w { classes = set w.classes c.class-class.result.0 n })
    (Learns did) c.send_told-outcome.result c.send_told-outcome.new.mail
    c.recall.ensures.planned (replied_fits w.plan (node_of old) r did keeps answered)
    c.send_told-outcome.ensures kept

pub returns : goal.returns
returns g c =
    let w = kept_by c.self.inside.plan.now c.self.inside.components.items
    c.self.inside.classes.items c.self.inside.mail c.self.inside.own
    (g.B.Bank.kept c.self.inside.bank) in
    let old = c.index_mut.result.now in
    let r = reply_shown c.args.reply.now in
    let within : c.class-class.result.0 < length w.classes = search rules in
    let is = read_here w.classes c.class-class.result.0 old within c.index_mut.ensures.value in
    let named : c.class-class.result.0 ≡ class_named r =
    ap (λ (k : ClassId). k.0) c.class-class.ensures ∙ class_is r in
    rw (← c.self.view_is) (record {
      what = Learns c.on_reply_frame-did.result;
      seen = c.see.ensures;
      middle = world_of
          (record w {
            classes = set w.classes c.class-class.result.0 c.on_reply_frame-did.new.self;
          });
      on = learned_on w c.class-class.result.0 r c.on_reply_frame-did.result old
          c.on_reply_frame-did.new.self named is c.on_reply_frame-did.ensures.answered
          c.on_reply_frame-did.ensures.left;
      sending = c.send_told-outcome.ensures;
      others = refl;
    })
