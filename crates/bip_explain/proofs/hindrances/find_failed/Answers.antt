use Rattle.std.proofs.Common.{◌∷◌, ◌++◌, take, drop, suc, refl, sym, ap, ◌∙◌, arith}
use Rattle.std.proofs.lemmas.List.{length-take-le}
use Rattle.bip_model.specs.declared.expressions.Comparison.{Comparison}
use Rattle.bip_model.specs.declared.expressions.Variable.{Variable}
use Rattle.bip_model.proofs.ListLemmas.{parted}
use Rattle.bip_explain.proofs.hindrances.find_failed.Goals as goal

pub returns-then-not-relates-clause-some : goal.returns-then-not-relates-clause-some
returns-then-not-relates-clause-some c =
    let xs = c.args.guard.now in
    let i = c.loop-place.place in
    let x = c.index-guard-place.result in
    record {
      front = take i xs;
      comparison = x;
      behind = drop (suc i) xs;
      split = sym (parted xs i x c.loop-place-test.true)
          ∙ ap (λ (y : Comparison Variable). take i xs ++ y ∷ drop (suc i) xs)
          (sym c.index-guard-place.is);
      numbered = omega (arith, length-take-le i xs (omega arith));
      before = c.loop-place.invariant;
      here = record {
        left = c.eval-left.ensures;
        relation = refl;
        right = c.eval-right.ensures;
        fails = rw (← c.eval-left.ensures, ← c.eval-right.ensures)
            (sym c.relates.ensures ∙ c.if-not-relates.true);
      };
    }
