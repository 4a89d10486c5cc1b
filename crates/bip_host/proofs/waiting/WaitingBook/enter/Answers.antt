use Rattle.std.proofs.Common.{subst}
use Rattle.bip_host.specs.Waiting.{IsLookedFor, Queued}
use Rattle.bip_host.proofs.DrainLemmas.{own_outcome}
use Rattle.bip_host.proofs.waiting.WaitingBook.enter.Goals as goal

pub returns-clause-own : goal.returns-clause-own
returns-clause-own c =
    let is = c.in_ok-lay.ensures.ok in
    own_outcome c.args.self.now c.look.new.self c.args.place c.args.drawn.serial c.args.drawn.grant
    c.look.result is.0
    (subst (λ (w : Queued). IsLookedFor c.args.place c.look.result w c.look.new.self) is.1
    c.look.ensures)
