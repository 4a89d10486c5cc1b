use Rattle.std.proofs.Common.{◌≡◌, [], ◌∷◌, ◌++◌, refl, rules, subst, sym}
use Rattle.bip_replay.specs.Runs.{StandsAfter, Standing}
use Rattle.bip_replay.proofs.RunLemmas.{run_on, leads_on, stays_out}
use Rattle.bip_replay.proofs.book.Book.append.Goals as goal

pub returns-then-is_err-clause-fault : goal.returns-then-is_err-clause-fault
returns-then-is_err-clause-fault c = rw (← c.self.view_is)
    (run_on _ _ _ _ c.args.grant c.self.invariant (rw c.of.ensures at c.in_ok-check.ensures.next))

pub invariant_of-self-2 : goal.invariant_of-self-2
invariant_of-self-2 c =
    let items : c.push-pushed.new.self.items ≡ c.self.inside.grants.items ++ c.args.grant ∷ [] =
    search rules in
    let next = rw c.of.ensures at c.in_ok-check.ensures.next in
    let on = rw c.of-2.ensures at c.go_on.ensures in
    rw items
    (subst (λ (q : Standing). StandsAfter q.model q.base
    (c.self.inside.grants.items ++ c.args.grant ∷ []) q) (sym on)
    (leads_on _ _ _ _ _ c.args.grant c.self.invariant next refl))

pub returns-clause-run : goal.returns-clause-run
returns-clause-run c = rw (← c.self.view_is) (run_on _ _ _ _ c.args.grant c.self.invariant
    (rw c.of.ensures at c.in_ok-check.ensures.next))

pub returns-in_err-check-clause-only : goal.returns-in_err-check-clause-only
returns-in_err-check-clause-only c = λ on. absurd (stays_out _ _ _ _ c.args.grant _ c.self.invariant
    (rw c.of.ensures at c.in_err-check.ensures.fault) (rw (← c.self.view_is) at on))
