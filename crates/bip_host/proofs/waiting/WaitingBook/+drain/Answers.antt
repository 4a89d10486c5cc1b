use Rattle.std.proofs.Common.{arith, rules}
use Rattle.bip_host.specs.Waiting.{IsEntered, IsStuck, ends, enters}
use Rattle.bip_host.proofs.WaitingLemmas.{fewer_entered}
use Rattle.bip_host.proofs.waiting.WaitingBook.+drain.Goals as goal

pub drain-requires : goal.drain-requires
drain-requires t c =
    let is : IsEntered c.args.self.now c.enter_next.new.self = search rules in
    let less = fewer_entered c.args.self.now c.enter_next.new.self is in
    (omega (arith, less, c.decreases), tt)

pub returns-then-enter_next : goal.returns-then-enter_next
returns-then-enter_next t c =
    let is : IsEntered c.args.self.now c.enter_next.new.self = search rules in
    enters is c.drain.ensures

pub returns-else-enter_next : goal.returns-else-enter_next
returns-else-enter_next t c =
    let is : IsStuck c.args.self.now c.enter_next.new.self = search rules in
    ends is
