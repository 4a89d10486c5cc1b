use Rattle.std.proofs.Common.{◌<◌, ◌≤◌, ap, length, refl, rules, subst}
use Rattle.std.specs.Prelude.{vec_capacity}
use Rattle.bip_bank.specs.declared.banks.Acted.TheVariants.{Nothing}
use Rattle.bip_bank.specs.Banks.{BankContent, content_of}
use Rattle.bip_core.specs.Events.{CanBeSkipped, IsFullFor, grant_acted, trace_with}
use Rattle.bip_core.specs.Traces.{trace_by}
use Rattle.bip_core.specs.Worlds.{KeptWorld, world_of}
use Rattle.bip_core.specs.declared.events.Event.TheVariants.{Bank}
use Rattle.bip_core.specs.declared.events.What.TheVariants.{Acts}
use Rattle.bip_core.proofs.WorldLemmas.{acted_grant, acted_on, bank_kept, counted_by, if_err}
use Rattle.bip_core.proofs.WorldLemmas.{kept_by, room_kept, sent_kept, serving_full}
use Rattle.bip_core.proofs.WorldLemmas.{serving_skipped, trace_kept, traced_kept}
use Rattle.bip_core.proofs.FitLemmas.{acted_fits}
use Rattle.bip_core.proofs.TraceLemmas.{acted_trace, longer_own, own_trace}
use Rattle.bip_core.proofs.machines.Machine.act.Goals as goal

pub invariant_of-self-in_err-did : goal.invariant_of-self-in_err-did
invariant_of-self-in_err-did g c =
    let w = kept_by c.self.inside.plan.now c.self.inside.components.items
    c.self.inside.classes.items c.self.inside.mail c.self.inside.own
    (g.B.Bank.kept c.self.inside.bank) in
    let b = g.B.Bank.kept c.act.new.self in
    let traced = traced_kept w c.self.inside.own.items b
    (ap (λ (x : BankContent). x.grants) c.in_err-did.ensures.err) refl
    (bank_kept w b Nothing c.in_err-did.ensures.err c.self.invariant) in
    rw c.make_room_to_serve.ensures.same (room_kept
    (record w { trace = trace_by c.self.inside.own.items b.grants; bank = b })
    (vec_capacity c.make_room_to_serve.new.own) traced)

pub invariant_of-self-2 : goal.invariant_of-self-2
invariant_of-self-2 g c =
    let w = kept_by c.self.inside.plan.now c.self.inside.components.items
    c.self.inside.classes.items c.self.inside.mail c.self.inside.own
    (g.B.Bank.kept c.self.inside.bank) in
    let b = g.B.Bank.kept c.act.new.self in
    let did = c.in_ok-did.did in
    let acted = c.in_ok-did.ensures.acted in
    let granted = acted_grant w.plan did (content_of w.bank)
    (content_of b) c.recall.ensures.planned.valid acted c.self.invariant.waiting in
    let kept = trace_kept (record w { bank = b }) (grant_acted did) granted
    (bank_kept w b did acted c.self.invariant) in
    let joined = acted_trace c.self.inside.own.items c.make_room_to_serve.new.own.items
    c.join_acted.new.own.items (length c.grants-granted.result.now) did (content_of w.bank)
    (content_of b) (ap length c.grants-granted.ensures.grants) c.make_room_to_serve.ensures.same
    c.join_acted.ensures acted in
    let sent = sent_kept (record w { bank = b; trace = trace_with w.trace (grant_acted did) })
    (Acts did) c.send_acted-outcome.result c.send_acted-outcome.new.mail
    c.recall.ensures.planned (acted_fits w.plan did (content_of w.bank)
    (content_of b) c.recall.ensures.planned acted c.self.invariant.waiting)
    c.send_acted-outcome.ensures kept in
    rw joined (room_kept (record w {
      bank = b;
      trace = trace_with w.trace (grant_acted did);
      mail = c.send_acted-outcome.new.mail;
    }) (vec_capacity c.join_acted.new.own) sent)

pub returns-clause-counted : goal.returns-clause-counted
returns-clause-counted g c =
    let w = kept_by c.self.inside.plan.now c.self.inside.components.items
    c.self.inside.classes.items c.self.inside.mail c.self.inside.own
    (g.B.Bank.kept c.self.inside.bank) in
    let b = g.B.Bank.kept c.act.new.self in
    let did = c.in_ok-did.did in
    let joined = acted_trace c.self.inside.own.items c.make_room_to_serve.new.own.items
    c.join_acted.new.own.items (length c.grants-granted.result.now) did (content_of w.bank)
    (content_of b) (ap length c.grants-granted.ensures.grants) c.make_room_to_serve.ensures.same
    c.join_acted.ensures c.in_ok-did.ensures.acted in
    rw (← c.self.view_is, joined) (counted_by _ (world_of w) (Bank c.args.step) (Acts did) _
    (world_of (record w { bank = b; trace = trace_with w.trace (grant_acted did) })) _
    c.see.ensures (acted_on w b c.args.step did
    (grant_acted did) c.in_ok-did.ensures.does c.in_ok-did.ensures.acted refl)
    c.send_acted-outcome.ensures refl)

pub returns-in_err-make_room_to_serve-clause-skipped : goal.returns-in_err-make_room_to_serve-clause-skipped
returns-in_err-make_room_to_serve-clause-skipped g c =
    let w = kept_by c.self.inside.plan.now c.self.inside.components.items
    c.self.inside.classes.items c.self.inside.mail c.self.inside.own
    (g.B.Bank.kept c.self.inside.bank) in
    let granted : length w.bank.grants < length c.self.inside.own.items =
    rw (← c.grants-granted.ensures.grants) c.in_err-make_room_to_serve.ensures.longer in
    let more = longer_own c.self.inside.own.items w.bank.grants granted in
    rw (← c.self.view_is) (if_err (CanBeSkipped (world_of w) (Bank c.args.step))
    c.from_residual.result (serving_skipped
    (world_of w) c.args.step c.in_err-make_room_to_serve.ensures.serves more))

pub returns-in_err-make_room_to_serve-clause-full : goal.returns-in_err-make_room_to_serve-clause-full
returns-in_err-make_room_to_serve-clause-full g c =
    let w = kept_by c.self.inside.plan.now c.self.inside.components.items
    c.self.inside.classes.items c.self.inside.mail c.self.inside.own
    (g.B.Bank.kept c.self.inside.bank) in
    let granted : length w.bank.grants < length c.self.inside.own.items =
    rw (← c.grants-granted.ensures.grants) c.in_err-make_room_to_serve.ensures.longer in
    let none : vec_capacity c.self.inside.own ≤ length c.self.inside.own.items = search rules in
    let full : w.room ≤ length w.trace = rw (own_trace c.self.inside.own.items w.bank.grants
    granted) none in
    let so = subst (λ (k : KeptWorld). IsFullFor k (Bank c.args.step)) c.self.view_is
    (serving_full w c.args.step c.in_err-make_room_to_serve.ensures.serves full) in
    if_err (IsFullFor c.args.self.now (Bank c.args.step)) c.from_residual.result so

pub send_acted-outcome-requires : goal.send_acted-outcome-requires
send_acted-outcome-requires g c =
    let w = kept_by c.self.inside.plan.now c.self.inside.components.items
    c.self.inside.classes.items c.self.inside.mail c.self.inside.own
    (g.B.Bank.kept c.self.inside.bank) in
    acted_fits w.plan c.in_ok-did.did (content_of w.bank)
    (content_of (g.B.Bank.kept c.act.new.self)) c.recall.ensures.planned
    c.in_ok-did.ensures.acted c.self.invariant.waiting
