use Rattle.std.proofs.Common.{◌≡◌, ◌<◌, inl, inr, length, refl, rules, set, slice_get, Some, subst}
use Rattle.std.proofs.Common.{sym}
use Rattle.std.specs.Prelude.{vec_capacity}
use Rattle.bip_partition.specs.Plans.{IsReserved, Planned}
use Rattle.bip_ip.specs.Nodes.{CanBeAsked, KeptNode, node_of}
use Rattle.bip_core.specs.Events.{CanBeSkipped, grant_tried, trace_with}
use Rattle.bip_core.specs.Worlds.{KeptWorld, world_of}
use Rattle.bip_core.specs.declared.events.Event.TheVariants.{Try}
use Rattle.bip_core.specs.declared.events.What.TheVariants.{Tries}
use Rattle.bip_core.proofs.WorldLemmas.{class_kept, counted_by, if_err, kept_by, no_grant}
use Rattle.bip_core.proofs.WorldLemmas.{read_here, room_kept, sent_kept, trace_kept, tried_grant}
use Rattle.bip_core.proofs.WorldLemmas.{tried_on, tried_same, try_skipped}
use Rattle.bip_core.proofs.FitLemmas.{tried_fits, tried_keeps}
use Rattle.bip_core.proofs.TraceLemmas.{tried_trace}
use Rattle.bip_core.proofs.machines.Machine.ask_one.Goals as goal

pub ask-did-requires : goal.ask-did-requires
ask-did-requires g c =
    let w = kept_by c.self.inside.plan.now c.self.inside.components.items
    c.self.inside.classes.items c.self.inside.mail c.self.inside.own
    (g.B.Bank.kept c.self.inside.bank) in
    let within : c.args.class.0 < length w.classes = search rules in
    let is = read_here w.classes c.args.class.0 c.index_mut.result.now within
    c.index_mut.ensures.value in
    (subst (λ (k : KeptWorld). (node : KeptNode) → slice_get k.classes c.args.class.0 ≡ Some node
    → CanBeAsked (node_of node) c.args.inter.0) (sym c.self.view_is) c.requires.asked)
    c.index_mut.result.now is

pub join_tried-requires : goal.join_tried-requires
join_tried-requires g c =
    let w = kept_by c.self.inside.plan.now c.self.inside.components.items
    c.self.inside.classes.items c.self.inside.mail c.self.inside.own
    (g.B.Bank.kept c.self.inside.bank) in
    let old = c.index_mut.result.now in
    let within : c.args.class.0 < length w.classes = search rules in
    let is = read_here w.classes c.args.class.0 old within c.index_mut.ensures.value in
    let plan = (c.self.invariant.classes c.args.class.0 old is).0 in
    elim c.in_ok-make_room.ensures.room [
      | inl reserved ↦ inl (no_grant (node_of old) c.args.inter.0 c.ask-did.result
          c.ask-did.ensures.tried (subst (λ (p : Planned). IsReserved p c.args.inter.0)
          (sym plan) reserved))
      | inr room ↦ inr (rw (c.grants-2.ensures.grants, ← c.grants.ensures.grants) room)
    ]

pub invariant_of-self-2 : goal.invariant_of-self-2
invariant_of-self-2 g c =
    let w = kept_by c.self.inside.plan.now c.self.inside.components.items
    c.self.inside.classes.items c.self.inside.mail c.self.inside.own
    (g.B.Bank.kept c.self.inside.bank) in
    let old = c.index_mut.result.now in
    let within : c.args.class.0 < length w.classes = search rules in
    let is = read_here w.classes c.args.class.0 old within c.index_mut.ensures.value in
    let did = c.ask-did.result in
    let n = c.ask-did.new.self in
    let plan = (c.self.invariant.classes c.args.class.0 old is).0 in
    let same = tried_same c.args.inter.0 did (node_of old) (node_of n) c.ask-did.ensures.left in
    let granted = tried_grant (node_of old) c.args.inter.0 did
    (rw plan c.recall.ensures.valid) c.ask-did.ensures.tried in
    let keeps = c.self.invariant.fits c.args.class.0 old is in
    let fits = tried_fits w.plan (node_of old) c.args.inter.0 did c.recall.ensures.valid plan keeps
    c.ask-did.ensures.tried in
    let later = tried_keeps w.plan (node_of old)
    (node_of n) c.args.inter.0 did c.recall.ensures.valid plan keeps c.ask-did.ensures.tried
    c.ask-did.ensures.left in
    let kept = trace_kept (record w { classes = set w.classes c.args.class.0 n }) (grant_tried did)
    (rw plan at granted) (class_kept w c.args.class.0 n old within is same.0 same.1 later
    c.self.invariant) in
    let joined = tried_trace c.self.inside.own.items c.make_room.new.own.items
    c.join_tried.new.own.items c.grants-2.result.now
    (grant_tried did) w.bank.grants c.grants-2.ensures.grants c.make_room.ensures.same
    c.join_tried.ensures in
    rw joined (room_kept (record w {
      classes = set w.classes c.args.class.0 n;
      trace = trace_with w.trace (grant_tried did);
      mail = c.send_tried-outcome.new.mail;
    })
    (vec_capacity c.join_tried.new.own) (sent_kept
    (record w {
      classes = set w.classes c.args.class.0 n;
      trace = trace_with w.trace (grant_tried did);
    })
    (Tries did) c.send_tried-outcome.result c.send_tried-outcome.new.mail
    c.recall.ensures.planned fits c.send_tried-outcome.ensures kept))

pub returns-clause-counted : goal.returns-clause-counted
returns-clause-counted g c =
    let w = kept_by c.self.inside.plan.now c.self.inside.components.items
    c.self.inside.classes.items c.self.inside.mail c.self.inside.own
    (g.B.Bank.kept c.self.inside.bank) in
    let old = c.index_mut.result.now in
    let within : c.args.class.0 < length w.classes = search rules in
    let is = read_here w.classes c.args.class.0 old within c.index_mut.ensures.value in
    let did = c.ask-did.result in
    let n = c.ask-did.new.self in
    let traced = tried_on w c.args.class c.args.inter did old n is c.ask-did.ensures.tried
    c.ask-did.ensures.left in
    let joined = tried_trace c.self.inside.own.items c.make_room.new.own.items
    c.join_tried.new.own.items c.grants-2.result.now
    (grant_tried did) w.bank.grants c.grants-2.ensures.grants c.make_room.ensures.same
    c.join_tried.ensures in
    rw (← c.self.view_is, joined) (counted_by _ (world_of w) (Try c.args.class c.args.inter)
    (Tries did) _ (world_of (record w {
      classes = set w.classes c.args.class.0 n;
      trace = trace_with w.trace (grant_tried did);
    })) _ c.see.ensures traced
    c.send_tried-outcome.ensures refl)

pub returns-in_err-make_room-clause-skipped : goal.returns-in_err-make_room-clause-skipped
returns-in_err-make_room-clause-skipped g c =
    let local = subst (λ (k : KeptWorld). ¬ IsReserved k.plan c.args.inter.0) c.self.view_is
    c.in_err-make_room.ensures.local in
    if_err (CanBeSkipped (world_of c.args.self.now) (Try c.args.class c.args.inter))
    c.from_residual.result (try_skipped c.args.self.now c.args.class c.args.inter
    c.requires.within c.requires.asked local)

pub send_tried-outcome-requires : goal.send_tried-outcome-requires
send_tried-outcome-requires g c =
    let w = kept_by c.self.inside.plan.now c.self.inside.components.items
    c.self.inside.classes.items c.self.inside.mail c.self.inside.own
    (g.B.Bank.kept c.self.inside.bank) in
    let old = c.index_mut.result.now in
    let within : c.args.class.0 < length w.classes = search rules in
    let is = read_here w.classes c.args.class.0 old within c.index_mut.ensures.value in
    let plan = (c.self.invariant.classes c.args.class.0 old is).0 in
    tried_fits w.plan (node_of old) c.args.inter.0 c.ask-did.result c.recall.ensures.valid plan
    (c.self.invariant.fits c.args.class.0 old is) c.ask-did.ensures.tried
