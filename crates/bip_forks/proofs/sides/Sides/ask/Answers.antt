use Rattle.std.proofs.Common.{◌∙◌, ap, false, refl, sym, subst}
use Rattle.std.proofs.lemmas.Bool.{false≢true}
use Rattle.bip_forks.proofs.SideLemmas.{nothing_at, side_at_place, side_changed, side_kept}
use Rattle.bip_forks.specs.Stations.{MayAsk}
use Rattle.bip_forks.specs.declared.shares.Side.{Side}
use Rattle.bip_forks.specs.Sides.{AreByNumber}
use Rattle.bip_forks.proofs.sides.Sides.ask.Goals as goal

pub place_with-requires : goal.place_with-requires
place_with-requires c = (
  c.self.inside.count,
  subst (AreByNumber 0 c.self.inside.count) (sym c.deref.ensures.value) c.self.invariant,
)

pub invariant_of-self : goal.invariant_of-self
invariant_of-self c =
    let at = side_at_place c.self.inside.count c.self.inside.shared.items c.deref.result.now
    c.args.self.now c.args.other.0 c.in-Some.place c.index_mut.result.now c.self.invariant
    c.self.view_is c.deref.ensures.value c.in-Some.ensures.some c.index_mut.ensures.value in
    at.order c.ask.new.self

pub returns-in-Some-clause-went : goal.returns-in-Some-clause-went
returns-in-Some-clause-went c =
    let at = side_at_place c.self.inside.count c.self.inside.shared.items c.deref.result.now
    c.args.self.now c.args.other.0 c.in-Some.place c.index_mut.result.now c.self.invariant
    c.self.view_is c.deref.ensures.value c.in-Some.ensures.some c.index_mut.ensures.value in
    λ yes. side_changed MayAsk (λ (s : Side). record s { asked = false }) c.self.inside.count
    c.self.inside.shared.items c.args.self.now c.args.other.0 c.in-Some.place c.index_mut.result.now
    c.ask.new.self at (c.ask.ensures.went yes)

pub returns-in-Some-clause-stays : goal.returns-in-Some-clause-stays
returns-in-Some-clause-stays c =
    let at = side_at_place c.self.inside.count c.self.inside.shared.items c.deref.result.now
    c.args.self.now c.args.other.0 c.in-Some.place c.index_mut.result.now c.self.invariant
    c.self.view_is c.deref.ensures.value c.in-Some.ensures.some c.index_mut.ensures.value in
    λ no. side_kept (λ (s : Side). MayAsk s → ⊥) c.self.inside.count c.self.inside.shared.items
    c.args.self.now c.args.other.0 c.in-Some.place c.index_mut.result.now c.ask.new.self at
    (c.ask.ensures.stays no)

pub returns-in-None-clause-stays : goal.returns-in-None-clause-stays
returns-in-None-clause-stays c =
    let none = nothing_at c.self.inside.count c.self.inside.shared.items c.deref.result.now
    c.args.self.now c.args.other.0 c.self.view_is c.deref.ensures.value c.in-None.ensures.none in
    λ no. (refl, λ has. false≢true (ap (λ (s : Side). s.asked) (sym none) ∙ has.0))
