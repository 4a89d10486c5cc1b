use Rattle.std.proofs.Common.{◌≡◌, ◌∙◌, ◌∷◌, Some, ap, sym}
use Rattle.bip_model.specs.Scopes.{variable_in}
use Rattle.bip_model.specs.declared.expressions.Assignment.{Assignment}
use Rattle.bip_model.specs.declared.scopes.VariableName.{VariableName}
use Rattle.bip_model.proofs.TransferLemmas.{IsPlaced, all_checked, none_checked, one_more_checked}
use Rattle.bip_model.proofs.TransferLemmas.{sum_unknown, target_twice, target_unknown}
use Rattle.bip_model.proofs.scopes.Scope.check_transfer.Goals as goal

pub loop-assignment-init : goal.loop-assignment-init
loop-assignment-init c = rw c.into_iter-assignment-iterator.ensures.into_iter_gives
    (none_checked (variable_in c.args.self.now) c.args.transfer)

pub loop-assignment-preserved : goal.loop-assignment-preserved
loop-assignment-preserved c =
    let a : Assignment VariableName = record {
      target = c.assignment.inside.target;
      sum = c.assignment.inside.sum;
    } in
    let is : c.loop-assignment.assignment-iterator ≡ a ∷ c.next.new.self = c.in-Some.ensures.steps
    ∙ ap (λ x. x ∷ c.next.new.self) (sym c.assignment.view_is) in
    let find = variable_in c.args.self.now in
    let target = c.in-Some-variable.target in
    let known : find a.target ≡ Some target = sym c.variable.ensures.named
    ∙ c.in-Some-variable.is in
    let at : IsPlaced target = record {
      owner = c.in-Some-variable.ensures.there.0;
      number = c.in-Some-variable.ensures.there.1;
    } in
    rw c.place_of-place.ensures.place
    (one_more_checked find c.args.transfer a c.next.new.self c.loop-assignment.assignment-iterator
    c.loop-assignment.targets c.loop-assignment.invariant is target known at
    (rw c.place_of-place.ensures.place at c.if-targets-place.false)
    (sym c.knows_sum.ensures ∙ c.if-not-knows_sum.false))

pub returns-in_default : goal.returns-in_default
returns-in_default c =
    let a : Assignment VariableName = record {
      target = c.assignment.inside.target;
      sum = c.assignment.inside.sum;
    } in
    let is : c.loop-assignment.assignment-iterator ≡ a ∷ c.next.new.self = c.in-Some.ensures.steps
    ∙ ap (λ x. x ∷ c.next.new.self) (sym c.assignment.view_is) in
    let find = variable_in c.args.self.now in
    sym (target_unknown find c.args.transfer a c.next.new.self c.loop-assignment.assignment-iterator
    c.loop-assignment.targets c.loop-assignment.invariant is
    (sym c.variable.ensures.named ∙ c.in_default.is))

pub returns-then-targets-place : goal.returns-then-targets-place
returns-then-targets-place c =
    let a : Assignment VariableName = record {
      target = c.assignment.inside.target;
      sum = c.assignment.inside.sum;
    } in
    let is : c.loop-assignment.assignment-iterator ≡ a ∷ c.next.new.self = c.in-Some.ensures.steps
    ∙ ap (λ x. x ∷ c.next.new.self) (sym c.assignment.view_is) in
    let find = variable_in c.args.self.now in
    let target = c.in-Some-variable.target in
    let known : find a.target ≡ Some target = sym c.variable.ensures.named
    ∙ c.in-Some-variable.is in
    let at : IsPlaced target = record {
      owner = c.in-Some-variable.ensures.there.0;
      number = c.in-Some-variable.ensures.there.1;
    } in
    sym (target_twice find c.args.transfer a c.next.new.self c.loop-assignment.assignment-iterator
    c.loop-assignment.targets c.loop-assignment.invariant is target known at
    (rw c.place_of-place.ensures.place at c.if-targets-place.true))

pub returns-then-not-knows_sum : goal.returns-then-not-knows_sum
returns-then-not-knows_sum c =
    let a : Assignment VariableName = record {
      target = c.assignment.inside.target;
      sum = c.assignment.inside.sum;
    } in
    let is : c.loop-assignment.assignment-iterator ≡ a ∷ c.next.new.self = c.in-Some.ensures.steps
    ∙ ap (λ x. x ∷ c.next.new.self) (sym c.assignment.view_is) in
    let find = variable_in c.args.self.now in
    let target = c.in-Some-variable.target in
    let known : find a.target ≡ Some target = sym c.variable.ensures.named
    ∙ c.in-Some-variable.is in
    let at : IsPlaced target = record {
      owner = c.in-Some-variable.ensures.there.0;
      number = c.in-Some-variable.ensures.there.1;
    } in
    sym (sum_unknown find c.args.transfer a c.next.new.self c.loop-assignment.assignment-iterator
    c.loop-assignment.targets c.loop-assignment.invariant is target known at
    (rw c.place_of-place.ensures.place at c.if-targets-place.false)
    (sym c.knows_sum.ensures ∙ c.if-not-knows_sum.true))

pub returns : goal.returns
returns c = sym (all_checked (variable_in c.args.self.now) c.args.transfer c.loop-assignment.targets
    c.loop-assignment.assignment-iterator c.loop-assignment.invariant c.in-None.ensures.steps.0)
