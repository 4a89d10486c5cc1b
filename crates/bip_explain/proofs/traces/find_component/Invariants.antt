use Rattle.std.proofs.Common.{◌≡◌}
use Rattle.bip_model.specs.Texts.{words}
use Rattle.bip_explain.specs.Traces.{are_known}
use Rattle.bip_explain.proofs.traces.find_component.Given as goal

abbrev pub invariant-loop-placed : goal.invariant-loop-placed
invariant-loop-placed l = record {
  line : l.placed-iterator.line.now ≡ l.fn.left.line.now;
  known : are_known l.model.component_names (words l.fn.left.rest.now)
      ≡ are_known l.model.component_names (words l.placed-iterator.rest.now);
}
