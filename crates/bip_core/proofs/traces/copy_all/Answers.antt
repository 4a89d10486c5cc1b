use Rattle.std.proofs.Common.{◌<◌, ◌≤◌, ◌∙◌, length, rules, sym}
use Rattle.std.proofs.lemmas.List.{take_all}
use Rattle.std.specs.Prelude.{vec_capacity}
use Rattle.bip_core.proofs.TraceLemmas.{bank_trace, own_trace}
use Rattle.bip_core.proofs.traces.copy_all.Goals as goal

pub returns-then-granted-len-clause-all : goal.returns-then-granted-len-clause-all
returns-then-granted-len-clause-all c =
    let longer : length c.args.granted.now < length c.args.own.now.items = search rules in
    sym (own_trace c.args.own.now.items c.args.granted.now longer)

pub returns-then-granted-len-clause-room : goal.returns-then-granted-len-clause-room
returns-then-granted-len-clause-room c =
    let longer : length c.args.granted.now < length c.args.own.now.items = search rules in
    let room : length c.args.own.now.items < vec_capacity c.args.own.now =
    rw (own_trace c.args.own.now.items c.args.granted.now longer) at c.requires in
    search rules

pub loop-grant-init : goal.loop-grant-init
loop-grant-init c =
    let few : length c.args.own.now.items ≤ length c.args.granted.now = search rules in
    let room : length c.args.granted.now < vec_capacity c.args.own.now =
    rw (bank_trace c.args.own.now.items c.args.granted.now few) at c.requires in
    (c.clear.ensures.items, rw c.clear.ensures.capacity room)

pub returns-clause-all : goal.returns-clause-all
returns-clause-all c =
    let few : length c.args.own.now.items ≤ length c.args.granted.now = search rules in
    rw (bank_trace c.args.own.now.items c.args.granted.now few)
    (c.loop-grant.invariant.0 ∙ take_all c.loop-grant.grant-index c.args.granted.now
    c.loop-grant-test.false)
