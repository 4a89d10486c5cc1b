use Rattle.std.proofs.Common.{get_or, List, below_more, subst}
use Rattle.bip_model.specs.Parties.{Cover}
use Rattle.bip_model.specs.States.{state_of}
use Rattle.bip_model.specs.declared.numbering.InterId.{InterId}
use Rattle.bip_model.proofs.PartyLemmas.{above_declared}
use Rattle.std.proofs.lemmas.List.{get_or_default}
use Rattle.bip_explain.proofs.PartyLemmas.{holds_all, holds_lower}
use Rattle.bip_explain.proofs.parties.find_uncovered.Goals as goal

pub find_lack-requires-clause-declared : goal.find_lack-requires-clause-declared
find_lack-requires-clause-declared c =
    above_declared c.args.model.now c.args.inter.0 c.above-above-items.result.now
    c.above-above-items.ensures.valid c.above-above-items.ensures.above c.loop-above.above-index
    (record { 0 = 0 }) c.loop-above-test.true

pub returns-in-Some-clause-some : goal.returns-in-Some-clause-some
returns-in-Some-clause-some c =
    let m = c.args.model.now in
    let row : List InterId = c.above-above-items.result.now in
    let i = c.loop-above.above-index in
    let d : InterId = record { 0 = 0 } in
    let is = c.above-above-items.ensures.above in
    let b = get_or row i d in (
      record {
        above = (is.exact b.0).0 (
          i,
          c.loop-above-test.true,
          get_or_default row i b d c.loop-above-test.true,
        );
        uncovered = c.in-Some.ensures.some.0;
        lower = holds_lower m c.args.inter.0 row i is
            (Cover m (state_of c.args.state.now) c.args.wants.now) c.loop-above.invariant d
            c.loop-above-test.true;
      },
      c.in-Some.ensures.some.1,
    )

pub loop-above-preserved : goal.loop-above-preserved
loop-above-preserved c = λ k d below.
    let m = c.args.model.now in
    let row : List InterId = c.above-above-items.result.now in
    let i = c.loop-above.above-index in
    below_more (λ j. Cover m (state_of c.args.state.now) c.args.wants.now (get_or row j d).0) i
    (λ j less. c.loop-above.invariant j d less)
    (subst (λ (b : InterId). Cover m (state_of c.args.state.now) c.args.wants.now b.0)
    (get_or_default row i (record { 0 = 0 }) d c.loop-above-test.true)
    c.in_default.ensures.none) k below

pub returns-clause-none : goal.returns-clause-none
returns-clause-none c =
    let m = c.args.model.now in
    holds_all m c.args.inter.0 c.above-above-items.result.now c.loop-above.above-index
    c.above-above-items.ensures.above (Cover m (state_of c.args.state.now) c.args.wants.now)
    c.loop-above.invariant c.loop-above-test.false
