use Rattle.std.proofs.Common.{◌≡◌, ◌<◌, ◌≤◌, [], length, arith, sym, ◌∙◌}
use Rattle.bip_model.specs.Naming.{IsName}
use Rattle.std.proofs.lemmas.List.{get_or_read}
use Rattle.bip_model.specs.Naming.{name_in}
use Rattle.bip_reader.specs.Writing.{IsSpelledInteraction, interaction_in, line_of_interaction}
use Rattle.bip_reader.proofs.WritingLemmas.{all_taken, more_written, one_more}
use Rattle.bip_reader.proofs.writing.write_interactions.Goals as goal

pub loop-number-preserved : goal.loop-number-preserved
loop-number-preserved c =
    let m = c.args.model.now in
    let n = c.loop-number.number in
    let same = c.interaction_names-names.ensures.names in
    let shown = c.interactions.ensures.interactions in
    let within : n < length m.interactions = rw c.interactions-number-end.ensures.interactions at
    c.loop-number-test.true in
    let named : n < length m.interaction_names =
    omega (arith, within, c.interaction_names-names.ensures.valid.so_far.interactions_named) in
    let name : name_in m.interaction_names n ≡ c.index-names-number.result =
    rw (← same) (sym (get_or_read c.interaction_names-names.result.now n
    c.index-names-number.result (rw same named) c.index-names-number.is [])) in
    let at : interaction_in m n ≡ c.index-interactions-number.result =
    rw (← shown) (sym (get_or_read c.interactions.result.now n
    c.index-interactions-number.result (rw shown within) c.index-interactions-number.is
    (record { participants = []; guard = []; transfer = [] }))) in (
      c.in_ok-write_interaction.ensures.text
          ∙ more_written (λ k. line_of_interaction m (name_in m.interaction_names k)
          (interaction_in m k)) n c.args.text.now.items c.loop-number.text.items _
          c.loop-number.invariant.0 (λ i. line_of_interaction m (sym name i) (sym at i)),
      one_more IsName m.interaction_names n [] named c.loop-number.invariant.1
          (rw name c.in_ok-write_interaction.ensures.spelled.0),
      one_more IsSpelledInteraction m.interactions n
          (record { participants = []; guard = []; transfer = [] }) within c.loop-number.invariant.2
          (rw at c.in_ok-write_interaction.ensures.spelled.1),
    )

pub returns-clause-spelled : goal.returns-clause-spelled
returns-clause-spelled c =
    let m = c.args.model.now in
    let past : length m.interactions ≤ c.loop-number.number =
    rw c.interactions-number-end.ensures.interactions at c.loop-number-test.false in (
      all_taken IsName m.interaction_names c.loop-number.number (omega (
        arith,
        past,
        c.interaction_names-names.ensures.valid.so_far.interactions_named,
      ))
          c.loop-number.invariant.1,
      all_taken IsSpelledInteraction m.interactions
          c.loop-number.number past c.loop-number.invariant.2,
    )
