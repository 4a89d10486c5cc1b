use Rattle.std.proofs.Common.{refl, rules, sym}
use Rattle.std.specs.Prelude.{slice_index_or}
use Rattle.std.proofs.lemmas.Bool.{false≢true}
use Rattle.bip_replay.proofs.FaultLemmas.{lowest_wrong, none_wrong, next_from_tests}
use Rattle.bip_replay.specs.Faults.{IsFaultAt}
use Rattle.bip_replay.specs.Runs.{standing_of}
use Rattle.bip_replay.proofs.runs.Position.check.Goals as goal

pub returns-in-Some-clause-fault : goal.returns-in-Some-clause-fault
returns-in-Some-clause-fault c =
    let found = sym (rw (← c.self.view_is) at
    (rw c.wants-wants.ensures.wants at c.in-Some.ensures)) in
    let may = rw c.inter-inter.ensures at (rw (← c.self.view_is) at c.in_ok-may_run.ensures.may) in
    rw (← c.self.view_is) (
      may,
      lowest_wrong c.self.inside.model.now (λ k. slice_index_or c.self.inside.used k
          c.self.inside.base) c.args.grant.now.wants c.in-Some.want
          c.wants-wants.ensures.valid.rising (rw (← c.components.ensures.components) found),
      rw (← c.self.view_is) at c.expected.ensures,
    )

pub returns-then-not-are_enough-clause-fault : goal.returns-then-not-are_enough-clause-fault
returns-then-not-are_enough-clause-fault c =
    let none = sym (rw (← c.self.view_is) at (rw c.wants-wants.ensures.wants at
    c.in_default.ensures)) in
    let may = rw c.inter-inter.ensures at (rw (← c.self.view_is) at c.in_ok-may_run.ensures.may) in
    rw (← c.self.view_is) (
      may,
      none_wrong c.self.inside.model.now (λ k. slice_index_or c.self.inside.used k
          c.self.inside.base) c.args.grant.now.wants (rw (← c.components.ensures.components) none),
      λ has. false≢true ((rw c.wants-wants.ensures.wants at
          (rw c.inter-inter.ensures at (rw (← c.self.view_is) at c.if-not-are_enough.ensures))).1
          has),
    )

pub returns-clause-next : goal.returns-clause-next
returns-clause-next c =
    let none = sym (rw (← c.self.view_is) at (rw c.wants-wants.ensures.wants at
    c.in_default.ensures)) in
    let may = rw c.inter-inter.ensures at (rw (← c.self.view_is) at c.in_ok-may_run.ensures.may) in
    rw (← c.self.view_is)
    (next_from_tests _ _ (λ k. slice_index_or c.self.inside.used k c.self.inside.base)
    c.args.grant.now c.components.ensures.valid may
    (rw (← c.components.ensures.components) none)
    ((rw c.wants-wants.ensures.wants at (rw c.inter-inter.ensures at
    (rw (← c.self.view_is) at c.if-not-are_enough.ensures))).0 refl))

pub returns-in_err-may_run-clause-fault : goal.returns-in_err-may_run-clause-fault
returns-in_err-may_run-clause-fault c =
    let inter = c.inter-inter.ensures in
    let why : IsFaultAt (standing_of c.args.self.now) c.args.grant.now c.in_err-may_run.field-0.0 =
    c.in_err-may_run.ensures.fault c.args.grant.now cc in
    search rules
