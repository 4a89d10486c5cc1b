use Rattle.std.proofs.Common.{◌+◌, ◌-◌, ◌<◌, ◌≤◌, inr, length, rules}
use Rattle.std.specs.Prelude.{vec_capacity}
use Rattle.bip_core.specs.Traces.{trace_by}
use Rattle.bip_core.proofs.TraceLemmas.{room_made, room_missing}
use Rattle.bip_core.proofs.WorldLemmas.{if_err}
use Rattle.bip_core.proofs.traces.make_room.Goals as goal

pub returns-clause-room : goal.returns-clause-room
returns-clause-room c =
    let made : length c.reserve.new.self.items +
    (length c.args.granted.now - length c.reserve.new.self.items) + 1
    ≤ vec_capacity c.reserve.new.self = search rules in
    inr (room_made c.reserve.new.self.items c.args.granted.now
    (vec_capacity c.reserve.new.self) made)

pub returns-in_err-reserve-clause-full : goal.returns-in_err-reserve-clause-full
returns-in_err-reserve-clause-full c =
    let own = c.args.own.now in
    let missing : vec_capacity own < length own.items +
    (length c.args.granted.now - length own.items) + 1 = search rules in
    if_err (vec_capacity own ≤ length (trace_by own.items c.args.granted.now))
    c.from_residual.result (room_missing own.items c.args.granted.now
    (vec_capacity own) missing)
