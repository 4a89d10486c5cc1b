use Rattle.std.proofs.Common.{arith}
use Rattle.std.proofs.lemmas.Bool.Decides.{nat_tests}
use Rattle.bip_core.specs.Worlds.{world_of}
use Rattle.bip_schedule.proofs.BusyLemmas.{arrival_taken, none_of_asked, quiet_kind}
use Rattle.bip_schedule.proofs.BusyLemmas.{taken_of_asked}
use Rattle.bip_schedule.proofs.busy.take.Goals as goal

pub returns-then-busy-eq0-clause-none : goal.returns-then-busy-eq0-clause-none
returns-then-busy-eq0-clause-none g c = λ way.
    quiet_kind (world_of c.args.world.now) c.args.stations c.args.kind way
    c.count_asked-asked.result c.count_asked-asked.ensures
    (omega (arith, c.if-busy-eq0.true, c.arriving-arriving.ensures))

pub returns-then-place-arriving-clause-some : goal.returns-then-place-arriving-clause-some
returns-then-place-arriving-clause-some g c = λ way.
    let w = world_of c.args.world.now in
    rw (c.arrival_at.ensures, c.arriving-arriving.ensures)
    (arrival_taken w c.args.stations c.args.kind way c.count_asked-asked.result c.args.number
    c.count_asked-asked.ensures (rw c.arriving-arriving.ensures at c.if-place-arriving.true))

pub returns-clause-some : goal.returns-clause-some
returns-clause-some g c =
    let w = world_of c.args.world.now in
    taken_of_asked w c.args.stations c.args.kind c.count_asked-asked.result c.args.number _
    c.find_asked.result c.count_asked-asked.ensures
    (grind (arith, nat_tests, c.if-busy-eq0.false, c.arriving-arriving.ensures))
    (grind (arith, nat_tests, c.if-place-arriving.false, c.arriving-arriving.ensures))
    c.find_asked.ensures.some

pub returns-clause-none : goal.returns-clause-none
returns-clause-none g c =
    let w = world_of c.args.world.now in
    none_of_asked w c.args.stations c.args.kind c.count_asked-asked.result c.args.number _
    c.find_asked.result c.count_asked-asked.ensures
    (grind (arith, nat_tests, c.if-busy-eq0.false, c.arriving-arriving.ensures))
    (grind (arith, nat_tests, c.if-place-arriving.false, c.arriving-arriving.ensures))
    c.find_asked.ensures.none
