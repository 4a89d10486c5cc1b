use Rattle.std.proofs.Common.{◌∙◌, ap, refl, sym, subst}
use Rattle.std.proofs.lemmas.Bool.{false≢true}
use Rattle.bip_forks.proofs.SideLemmas.{nothing_at, side_at_place, side_passed, side_unpassed}
use Rattle.bip_forks.specs.declared.shares.Side.{Side}
use Rattle.bip_forks.specs.Sides.{AreByNumber}
use Rattle.bip_forks.proofs.sides.Sides.pass.Goals as goal

pub place_with-requires : goal.place_with-requires
place_with-requires c = (
  c.self.inside.count,
  subst (AreByNumber 0 c.self.inside.count) (sym c.deref.ensures.value) c.self.invariant,
)

pub invariant_of-self : goal.invariant_of-self
invariant_of-self c =
    let at = side_at_place c.self.inside.count c.self.inside.shared.items c.deref.result.now
    c.args.self.now c.args.other.0 c.in-Some.place c.index_mut.result.now c.self.invariant
    c.self.view_is c.deref.ensures.value c.in-Some.ensures.some c.index_mut.ensures.value in
    at.order c.pass.new.self

pub returns-in-Some-clause-some : goal.returns-in-Some-clause-some
returns-in-Some-clause-some c =
    let at = side_at_place c.self.inside.count c.self.inside.shared.items c.deref.result.now
    c.args.self.now c.args.other.0 c.in-Some.place c.index_mut.result.now c.self.invariant
    c.self.view_is c.deref.ensures.value c.in-Some.ensures.some c.index_mut.ensures.value in
    side_passed c.self.inside.count c.self.inside.shared.items c.args.self.now c.args.other.0
    c.in-Some.place c.index_mut.result.now c.pass.new.self c.pass.result at c.pass.ensures.some

pub returns-in-Some-clause-none : goal.returns-in-Some-clause-none
returns-in-Some-clause-none c =
    let at = side_at_place c.self.inside.count c.self.inside.shared.items c.deref.result.now
    c.args.self.now c.args.other.0 c.in-Some.place c.index_mut.result.now c.self.invariant
    c.self.view_is c.deref.ensures.value c.in-Some.ensures.some c.index_mut.ensures.value in
    side_unpassed c.self.inside.count c.self.inside.shared.items c.args.self.now c.args.other.0
    c.in-Some.place c.index_mut.result.now c.pass.new.self c.pass.result at c.pass.ensures.none

pub returns-in-None-clause-none : goal.returns-in-None-clause-none
returns-in-None-clause-none c =
    let none = nothing_at c.self.inside.count c.self.inside.shared.items c.deref.result.now
    c.args.self.now c.args.other.0 c.self.view_is c.deref.ensures.value c.in-None.ensures.none in
    (refl, λ has. false≢true (ap (λ (s : Side). s.asked) (sym none) ∙ has.0))
