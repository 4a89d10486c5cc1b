use Rattle.std.proofs.Common.{arith, ap, length, below_more, sym, ◌∙◌}
use Rattle.bip_explain.proofs.PartyLemmas.{right_from_test, wrong_from_test}
use Rattle.bip_explain.proofs.parties.find_misnamed.Goals as goal

pub returns-then-not-is_right-clause-some : goal.returns-then-not-is_right-clause-some
returns-then-not-is_right-clause-some c =
    let m = c.args.model.now in
    let named = c.named_by-named in (
      record {
        known = omega (arith, c.loop-number-test.true, ap length c.components.ensures.components);
        wrong = wrong_from_test m c.args.inter.0 c.loop-number.number c.args.wants.now named.result
            named.ensures (rw (← c.is_moving.ensures, ← c.is_seeing.ensures)
            (sym c.is_right.ensures ∙ c.if-not-is_right.true));
        lower = c.loop-number.invariant;
      },
      named.ensures,
    )

pub loop-number-preserved : goal.loop-number-preserved
loop-number-preserved c =
    let m = c.args.model.now in
    let named = c.named_by-named in
    below_more _ _ c.loop-number.invariant
    (right_from_test m c.args.inter.0 c.loop-number.number c.args.wants.now named.result
    named.ensures (rw (← c.is_moving.ensures, ← c.is_seeing.ensures)
    (sym c.is_right.ensures ∙ c.if-not-is_right.false)))
