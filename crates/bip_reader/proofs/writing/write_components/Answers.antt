use Rattle.std.proofs.Common.{◌≡◌, ◌<◌, ◌≤◌, [], length, arith, sym, ◌∙◌}
use Rattle.bip_model.specs.Naming.{IsName}
use Rattle.std.proofs.lemmas.List.{get_or_read}
use Rattle.bip_model.specs.Components.{no_component}
use Rattle.bip_model.specs.Naming.{name_in}
use Rattle.bip_reader.specs.Writing.{IsSpelledComponent, component_in, lines_of_component}
use Rattle.bip_reader.proofs.WritingLemmas.{all_taken, more_written, one_more}
use Rattle.bip_reader.proofs.writing.write_components.Goals as goal

pub loop-number-preserved : goal.loop-number-preserved
loop-number-preserved c =
    let m = c.args.model.now in
    let n = c.loop-number.number in
    let same = c.component_names-names.ensures.names in
    let shown = c.components.ensures.components in
    let within : n < length m.components = rw c.components-number-end.ensures.components at
    c.loop-number-test.true in
    let named : n < length m.component_names =
    omega (arith, within, c.component_names-names.ensures.valid.components_named) in
    let name : name_in m.component_names n ≡ c.index-names-number.result =
    rw (← same) (sym (get_or_read c.component_names-names.result.now n
    c.index-names-number.result (rw same named) c.index-names-number.is [])) in
    let at : component_in m n ≡ c.index-components-number.result =
    rw (← shown) (sym (get_or_read c.components.result.now n c.index-components-number.result
    (rw shown within) c.index-components-number.is no_component)) in (
      c.in_ok-write_component.ensures.text
          ∙ more_written (λ k. lines_of_component (name_in m.component_names k) (component_in m k))
          n c.args.text.now.items c.loop-number.text.items _ c.loop-number.invariant.0
          (λ i. lines_of_component (sym name i) (sym at i)),
      one_more IsName m.component_names n [] named c.loop-number.invariant.1
          (rw name c.in_ok-write_component.ensures.spelled.0),
      one_more IsSpelledComponent m.components n no_component within c.loop-number.invariant.2
          (rw at c.in_ok-write_component.ensures.spelled.1),
    )

pub returns-clause-spelled : goal.returns-clause-spelled
returns-clause-spelled c =
    let m = c.args.model.now in
    let past : length m.components ≤ c.loop-number.number =
    rw c.components-number-end.ensures.components at c.loop-number-test.false in (
      all_taken IsName m.component_names c.loop-number.number (omega (
        arith,
        past,
        c.component_names-names.ensures.valid.components_named,
      )) c.loop-number.invariant.1,
      all_taken IsSpelledComponent m.components c.loop-number.number past
          c.loop-number.invariant.2,
    )
