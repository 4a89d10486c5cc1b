use Rattle.std.proofs.Common.{◌≡◌}
use Rattle.std.specs.Prelude.{All}
use Rattle.bip_model.specs.Texts.{words}
use Rattle.bip_explain.specs.Grants.{IsWantOf}
use Rattle.bip_explain.proofs.grants.want_on.Given as goal

abbrev pub invariant-loop-placed : goal.invariant-loop-placed
invariant-loop-placed l = record {
  line : l.placed-iterator.line.now ≡ l.line;
  known : All (λ word. ¬ IsWantOf l.model l.comp.0 word) (words l.placed-iterator.rest.now)
      → All (λ word. ¬ IsWantOf l.model l.comp.0 word) (words l.line);
}
