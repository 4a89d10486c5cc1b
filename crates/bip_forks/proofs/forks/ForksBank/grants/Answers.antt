use Rattle.std.proofs.Common.{◌≡◌, sym, subst, ◌∙◌}
use Rattle.bip_bank.specs.Banks.{used_above}
use Rattle.bip_forks.proofs.ActLemmas.{unused}
use Rattle.bip_forks.specs.Kept.{KeptForks, kept_forks}
use Rattle.bip_forks.proofs.forks.ForksBank.grants.Goals as goal

pub returns-clause-unused : goal.returns-clause-unused
returns-clause-unused c = λ none.
    let k : KeptForks = record {
      plan = c.self.inside.plan.now;
      base = c.self.inside.base;
      parts = record {
        stations = c.self.inside.stations.items;
        flight = c.self.inside.flight.items;
        grants = c.self.inside.grants.items;
      };
    } in
    subst (λ (j : KeptForks). used_above j.base (kept_forks j).rows ≡ (λ a. j.base)) c.self.view_is
    (unused k c.self.invariant (sym c.as_slice.ensures.value ∙ none))
