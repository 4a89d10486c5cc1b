use Rattle.std.proofs.Common.{◌≡◌, ◌<◌, [], length, arith, sym, ◌∙◌}
use Rattle.std.proofs.lemmas.List.{get_or_read}
use Rattle.bip_model.specs.Components.{no_component}
use Rattle.bip_model.specs.Naming.{name_in}
use Rattle.bip_reader.specs.Writing.{component_in}
use Rattle.bip_reader.proofs.WritingLemmas.{more_written}
use Rattle.bip_draw.specs.Drawing.{cluster_text}
use Rattle.bip_draw.proofs.drawing.write_components.Goals as goal

pub loop-number-preserved : goal.loop-number-preserved
loop-number-preserved c =
    let m = c.args.model.now in
    let n = c.loop-number.number in
    let same = c.component_names-names.ensures.names in
    let shown = c.components.ensures.components in
    let within : n < length m.components = rw c.components-number-end.ensures.components at
    c.loop-number-test.true in
    let named : n < length m.component_names =
    omega (arith, within, c.component_names-names.ensures.valid.components_named) in
    let name : name_in m.component_names n ≡ c.index-names-number.result =
    rw (← same) (sym (get_or_read c.component_names-names.result.now n
    c.index-names-number.result (rw same named) c.index-names-number.is [])) in
    let at : component_in m n ≡ c.index-components-number.result =
    rw (← shown) (sym (get_or_read c.components.result.now n c.index-components-number.result
    (rw shown within) c.index-components-number.is no_component)) in
    c.in_ok-write_component.ensures
    ∙ more_written (λ k. cluster_text k (name_in m.component_names k) (component_in m k)) n
    c.args.text.now.items c.loop-number.text.items _ c.loop-number.invariant
    (λ i. cluster_text n (sym name i) (sym at i))
