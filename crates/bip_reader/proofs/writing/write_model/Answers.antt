use Rattle.std.proofs.Common.{◌≡◌, refl}
use Rattle.bip_reader.specs.Writing.{CanBeSpelled, text_of_model}
use Rattle.bip_reader.proofs.CanonicalLemmas.{canonical}
use Rattle.bip_reader.proofs.writing.write_model.Goals as goal

pub returns-clause-means : goal.returns-clause-means
returns-clause-means c =
    let m = c.args.model.now in
    let classes = c.args.classes.now in
    let spelled : CanBeSpelled m classes = record {
      components = c.in_ok-write_components.ensures.spelled;
      interactions =
          c.in_ok-write_interactions.ensures.spelled;
      class_names =
          c.in_ok-write_classes.ensures.spelled;
    } in
    let written : c.write_classes.new.text.items ≡ text_of_model m classes =
    rw (
      c.in_ok-write_classes.ensures.text,
      c.in_ok-write_priorities.ensures,
      c.in_ok-write_interactions.ensures.text,
      c.in_ok-write_components.ensures.text,
      c.in_ok-extend_from_slice.ensures.items,
      c.new-text.ensures.items,
    ) refl
    in
    rw written (canonical m classes c.write_components.ensures.valid c.write_classes.ensures.valid
    c.requires spelled)
