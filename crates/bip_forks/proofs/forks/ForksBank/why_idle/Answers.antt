use Rattle.std.proofs.Common.{rules, subst}
use Rattle.std.specs.Prelude.{IfNone, IfSome}
use Rattle.bip_bank.specs.Banks.{CanWantMemory, content_of}
use Rattle.bip_bank.specs.Idleness.{IsIdleBecause}
use Rattle.bip_forks.proofs.IdlenessLemmas.{acts_as, idle_as}
use Rattle.bip_forks.specs.Kept.{KeptForks, kept_forks}
use Rattle.bip_forks.proofs.forks.ForksBank.why_idle.Goals as goal

pub returns-clause-some : goal.returns-clause-some
returns-clause-some c =
    let k : KeptForks = record {
      plan = c.self.inside.plan.now;
      base = c.self.inside.base;
      parts = record {
        stations = c.self.inside.stations.items;
        flight = c.self.inside.flight.items;
        grants = c.self.inside.grants.items;
      };
    } in
    subst (λ (j : KeptForks). IfSome c.why_idle.result
    (IsIdleBecause (content_of (kept_forks j)) c.args.step)) c.self.view_is
    (idle_as k c.args.step c.why_idle.result c.self.invariant
    (rw c.deref.ensures.value at (c.why_idle.ensures.some c.self.inside.flight.items
    c.self.inside.grants.items (search rules))))

pub returns-clause-none : goal.returns-clause-none
returns-clause-none c =
    let k : KeptForks = record {
      plan = c.self.inside.plan.now;
      base = c.self.inside.base;
      parts = record {
        stations = c.self.inside.stations.items;
        flight = c.self.inside.flight.items;
        grants = c.self.inside.grants.items;
      };
    } in
    subst (λ (j : KeptForks). IfNone c.why_idle.result
    (CanWantMemory (content_of (kept_forks j)) c.args.step)) c.self.view_is
    (acts_as k c.args.step c.why_idle.result c.self.invariant
    (rw c.deref.ensures.value at (c.why_idle.ensures.none c.self.inside.flight.items
    c.self.inside.grants.items (search rules))))
