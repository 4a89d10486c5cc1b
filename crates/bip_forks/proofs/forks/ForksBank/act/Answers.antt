use Rattle.std.proofs.Common.{◌≡◌, subst}
use Rattle.std.specs.Prelude.{IfErr, IfOk, OnErr}
use Rattle.bip_bank.specs.Banks.{CanWantMemory, DoesStep, IsActed, content_of}
use Rattle.bip_forks.proofs.ActLemmas.{acted_does, acted_is, acted_kept, acted_stays, acted_wants}
use Rattle.bip_forks.proofs.ActLemmas.{acted_machine, acted_same, can_answer, may_arrive}
use Rattle.bip_forks.specs.Kept.{KeptForks, kept_forks, machine_of}
use Rattle.bip_forks.specs.Machines.{IsForkStep}
use Rattle.bip_forks.proofs.forks.ForksBank.act.Goals as goal

pub do_step-requires-clause-arrive : goal.do_step-requires-clause-arrive
do_step-requires-clause-arrive c =
    let k : KeptForks = record {
      plan = c.self.inside.plan.now;
      base = c.self.inside.base;
      parts = record {
        stations = c.self.inside.stations.items;
        flight = c.self.inside.flight.items;
        grants = c.self.inside.grants.items;
      };
    } in
    may_arrive k c.self.invariant

pub do_step-requires-clause-answer : goal.do_step-requires-clause-answer
do_step-requires-clause-answer c =
    let k : KeptForks = record {
      plan = c.self.inside.plan.now;
      base = c.self.inside.base;
      parts = record {
        stations = c.self.inside.stations.items;
        flight = c.self.inside.flight.items;
        grants = c.self.inside.grants.items;
      };
    } in
    can_answer k c.self.invariant

pub invariant_of-self : goal.invariant_of-self
invariant_of-self c =
    let k : KeptForks = record {
      plan = c.self.inside.plan.now;
      base = c.self.inside.base;
      parts = record {
        stations = c.self.inside.stations.items;
        flight = c.self.inside.flight.items;
        grants = c.self.inside.grants.items;
      };
    } in
    acted_kept k (record {
      stations = c.do_step.new.stations.items;
      flight = c.do_step.new.flight.items;
      grants = c.do_step.new.grants.items;
    }) c.args.step
    c.do_step.result c.self.invariant c.do_step.ensures.does c.do_step.ensures.stations
    c.do_step.ensures.flight c.do_step.ensures.grants

pub returns-clause-does : goal.returns-clause-does
returns-clause-does c =
    let k : KeptForks = record {
      plan = c.self.inside.plan.now;
      base = c.self.inside.base;
      parts = record {
        stations = c.self.inside.stations.items;
        flight = c.self.inside.flight.items;
        grants = c.self.inside.grants.items;
      };
    } in
    subst (λ (j : KeptForks). IfOk c.do_step.result
    (λ did. DoesStep (content_of (kept_forks j)) c.args.step did
    (content_of (kept_forks (record k {
      parts = (record {
        stations = c.do_step.new.stations.items;
        flight = c.do_step.new.flight.items;
        grants =
            c.do_step.new.grants.items;
      });
    }))))) c.self.view_is
    (acted_does k (record {
      stations = c.do_step.new.stations.items;
      flight = c.do_step.new.flight.items;
      grants = c.do_step.new.grants.items;
    }) c.args.step
    c.do_step.result c.self.invariant c.do_step.ensures.does)

pub returns-clause-acted : goal.returns-clause-acted
returns-clause-acted c =
    let k : KeptForks = record {
      plan = c.self.inside.plan.now;
      base = c.self.inside.base;
      parts = record {
        stations = c.self.inside.stations.items;
        flight = c.self.inside.flight.items;
        grants = c.self.inside.grants.items;
      };
    } in
    subst (λ (j : KeptForks). IfOk c.do_step.result
    (λ did. IsActed did (content_of (kept_forks j))
    (content_of (kept_forks (record k {
      parts = (record {
        stations = c.do_step.new.stations.items;
        flight = c.do_step.new.flight.items;
        grants =
            c.do_step.new.grants.items;
      });
    }))))) c.self.view_is
    (acted_is k (record {
      stations = c.do_step.new.stations.items;
      flight = c.do_step.new.flight.items;
      grants = c.do_step.new.grants.items;
    }) c.args.step
    c.do_step.result c.self.invariant c.do_step.ensures.does)

pub returns-clause-machine : goal.returns-clause-machine
returns-clause-machine c =
    let k : KeptForks = record {
      plan = c.self.inside.plan.now;
      base = c.self.inside.base;
      parts = record {
        stations = c.self.inside.stations.items;
        flight = c.self.inside.flight.items;
        grants = c.self.inside.grants.items;
      };
    } in
    subst (λ (j : KeptForks). IfOk c.do_step.result
    (λ did. IsForkStep (machine_of j) c.args.step did
    (machine_of (record k {
      parts = (record {
        stations = c.do_step.new.stations.items;
        flight = c.do_step.new.flight.items;
        grants = c.do_step.new.grants.items;
      });
    }))))
    c.self.view_is
    (acted_machine k (record {
      stations = c.do_step.new.stations.items;
      flight = c.do_step.new.flight.items;
      grants = c.do_step.new.grants.items;
    }) c.args.step
    c.do_step.result c.self.invariant c.do_step.ensures.does)

pub returns-clause-memory : goal.returns-clause-memory
returns-clause-memory c =
    let k : KeptForks = record {
      plan = c.self.inside.plan.now;
      base = c.self.inside.base;
      parts = record {
        stations = c.self.inside.stations.items;
        flight = c.self.inside.flight.items;
        grants = c.self.inside.grants.items;
      };
    } in
    subst (λ (j : KeptForks). IfErr c.do_step.result
    (λ e. CanWantMemory (content_of (kept_forks j)) c.args.step)) c.self.view_is
    (acted_wants k c.args.step c.do_step.result c.self.invariant c.do_step.ensures.memory)

pub returns-clause-err : goal.returns-clause-err
returns-clause-err c =
    let k : KeptForks = record {
      plan = c.self.inside.plan.now;
      base = c.self.inside.base;
      parts = record {
        stations = c.self.inside.stations.items;
        flight = c.self.inside.flight.items;
        grants = c.self.inside.grants.items;
      };
    } in
    subst (λ (j : KeptForks). OnErr c.do_step.result
    (content_of (kept_forks (record k {
      parts = (record {
        stations = c.do_step.new.stations.items;
        flight = c.do_step.new.flight.items;
        grants =
            c.do_step.new.grants.items;
      });
    })) ≡ content_of (kept_forks j))) c.self.view_is
    (acted_stays k (record {
      stations = c.do_step.new.stations.items;
      flight = c.do_step.new.flight.items;
      grants = c.do_step.new.grants.items;
    }) c.do_step.result
    c.do_step.ensures.stations c.do_step.ensures.flight c.do_step.ensures.grants)

pub returns-clause-same : goal.returns-clause-same
returns-clause-same c =
    let k : KeptForks = record {
      plan = c.self.inside.plan.now;
      base = c.self.inside.base;
      parts = record {
        stations = c.self.inside.stations.items;
        flight = c.self.inside.flight.items;
        grants = c.self.inside.grants.items;
      };
    } in
    subst (λ (j : KeptForks). OnErr c.do_step.result
    ((record k {
      parts = (record {
        stations = c.do_step.new.stations.items;
        flight = c.do_step.new.flight.items;
        grants = c.do_step.new.grants.items;
      });
    }) ≡ j))
    c.self.view_is
    (acted_same k (record {
      stations = c.do_step.new.stations.items;
      flight = c.do_step.new.flight.items;
      grants = c.do_step.new.grants.items;
    }) c.do_step.result
    c.do_step.ensures.stations c.do_step.ensures.flight c.do_step.ensures.grants)
