use Rattle.std.proofs.Common.{arith, inl, inr}
use Rattle.std.proofs.lemmas.Bool.{false≢true}
use Rattle.bip_partition.proofs.FootprintLemmas.{conflict_shared, shared_conflict}
use Rattle.bip_partition.proofs.TableLemmas.{conflict_known}
use Rattle.bip_partition.proofs.TouchLemmas.{touches_known}
use Rattle.bip_partition.proofs.plans.Plan.conflict.Goals as goal

pub returns-in_default : goal.returns-in_default
returns-in_default c = (
  λ none. absurd (false≢true none),
  λ is. absurd (omega (
    arith,
    conflict_known c.args.self.now.model c.args.inter.0 c.args.other.0 c.in_default.ensures.valid
        is,
    c.in_default.ensures.none,
  )),
)

pub returns-in_default-footprint : goal.returns-in_default-footprint
returns-in_default-footprint c = (
  λ none. absurd (false≢true none),
  λ is. absurd (omega (
    arith,
    touches_known c.args.self.now.model c.args.other.0 is.0 c.in_default-footprint.ensures.valid
        is.1.1,
    c.in_default-footprint.ensures.none,
  )),
)

pub returns-else-overlap : goal.returns-else-overlap
returns-else-overlap c =
    let p = c.args.self.now in
    let a = c.args.inter.0 in
    let b = c.args.other.0 in
    let f = c.in-Some.one.now in
    let g = c.in-Some-footprint.two.now in
    let one = c.in-Some.ensures.some in
    let other = c.in-Some-footprint.ensures.some in (
      λ on. shared_conflict p a b f g one other (inr (c.overlap-else-overlap.ensures.0 on)),
      λ is. elim (conflict_shared p a b f g one other is) [
        | inl first ↦ absurd (false≢true (c.if-overlap.ensures.1 first))
        | inr second ↦ c.overlap-else-overlap.ensures.1 second
      ],
    )
