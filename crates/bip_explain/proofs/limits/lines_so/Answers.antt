use Rattle.std.proofs.Common.{◌+◌, refl, ◌∙◌, arith, rules}
use Rattle.bip_explain.specs.Placed.{said_words}
use Rattle.bip_explain.proofs.LimitLemmas.{counted_few}
use Rattle.bip_explain.proofs.LineLemmas.{at_first, at_next}
use Rattle.bip_explain.proofs.limits.lines_so.Goals as goal

pub loop-number-init : goal.loop-number-init
loop-number-init c =
    let items = c.into_iter-number-iterator.ensures.into_iter_gives ∙ c.of-number-items.ensures in
    record { counted = rw items refl; few = (1, at_first _ _ items, omega arith) }

pub counted_behind-count-requires : goal.counted_behind-count-requires
counted_behind-count-requires c =
    let few = c.loop-number.invariant.few in
    let next = at_next _ _ _ _ _ _ few.1 c.in-Some.ensures.steps in
    omega (arith, next.number, few.2, c.if-line-number.false)

pub loop-number-preserved : goal.loop-number-preserved
loop-number-preserved c =
    let l = c.loop-number in
    let few = l.invariant.few in
    let next = at_next _ _ _ _ _ _ few.1 c.in-Some.ensures.steps in
    let least = counted_few c.args.keyword.now (said_words c.in-Some.bytes.now) l.count in
    record {
      counted = search rules;
      few = (few.0 + 1, next.later, omega (arith, few.2, least, c.counted_behind-count.ensures));
    }
