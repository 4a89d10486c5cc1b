use Rattle.std.proofs.Common.{◌≡◌, ◌<◌, [], length, arith, sym, ◌∙◌}
use Rattle.std.proofs.lemmas.List.{get_or_read}
use Rattle.bip_model.specs.Naming.{name_in}
use Rattle.bip_reader.specs.Writing.{interaction_in}
use Rattle.bip_reader.proofs.WritingLemmas.{more_written}
use Rattle.bip_draw.specs.Drawing.{node_text}
use Rattle.bip_draw.proofs.drawing.write_interactions.Goals as goal

pub loop-number-preserved : goal.loop-number-preserved
loop-number-preserved c =
    let m = c.args.model.now in
    let n = c.loop-number.number in
    let same = c.interaction_names-names.ensures.names in
    let shown = c.interactions.ensures.interactions in
    let within : n < length m.interactions = rw c.interactions-number-end.ensures.interactions at
    c.loop-number-test.true in
    let named : n < length m.interaction_names =
    omega (arith, within, c.interaction_names-names.ensures.valid.so_far.interactions_named) in
    let name : name_in m.interaction_names n ≡ c.index-names-number.result =
    rw (← same) (sym (get_or_read c.interaction_names-names.result.now n
    c.index-names-number.result (rw same named) c.index-names-number.is [])) in
    let at : interaction_in m n ≡ c.index-interactions-number.result =
    rw (← shown) (sym (get_or_read c.interactions.result.now n
    c.index-interactions-number.result (rw shown within) c.index-interactions-number.is
    (record { participants = []; guard = []; transfer = [] }))) in
    c.in_ok-write_interaction.ensures
    ∙ more_written (λ k. node_text m c.args.classes.now k (name_in m.interaction_names k)
    (interaction_in m k)) n c.args.text.now.items c.loop-number.text.items _
    c.loop-number.invariant (λ i. node_text m c.args.classes.now n (sym name i) (sym at i))
