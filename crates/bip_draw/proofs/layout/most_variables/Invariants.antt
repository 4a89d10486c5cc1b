use Rattle.std.proofs.Common.{◌≡◌, ◌≤◌, length, take}
use Rattle.bip_model.specs.declared.parts.Component.{Component}
use Rattle.bip_draw.specs.Layout.{most_by}
use Rattle.bip_draw.proofs.layout.most_variables.Given as goal

abbrev pub invariant-loop-component : goal.invariant-loop-component
invariant-loop-component l =
    record {
      most : l.most ≡ most_by (λ (k : Component). length k.variables)
          (take l.component-index l.components);
      few : l.most ≤ 8;
    }
