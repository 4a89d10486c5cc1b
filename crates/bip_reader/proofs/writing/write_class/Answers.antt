use Rattle.std.proofs.Common.{◌≡◌, ◌∙◌, [], map, sym}
use Rattle.std.specs.Prelude.{codes, slice_index_or}
use Rattle.std.proofs.lemmas.List.{get_or_read}
use Rattle.std.proofs.lemmas.Option.{get_or_from_slice_get}
use Rattle.bip_model.specs.Naming.{name_in}
use Rattle.bip_model.specs.declared.numbering.InterId.{InterId}
use Rattle.bip_reader.proofs.WritingLemmas.{named_line}
use Rattle.bip_reader.proofs.writing.write_class.Goals as goal

pub returns-clause-text : goal.returns-clause-text
returns-clause-text c =
    let m = c.args.model.now in
    let classes = c.args.classes.now in
    let k = c.args.class.0 in
    let name : name_in classes.names k ≡ c.index-names-class.result =
    rw (← c.names.ensures) (sym (get_or_read c.names.result.now k c.index-names-class.result
    (rw c.names.ensures c.requires.name) c.index-names-class.is [])) in
    let members : slice_index_or classes.members k [] ≡ c.members.result.now =
    get_or_from_slice_get classes.members k c.members.result.now [] c.members.ensures.members in
    c.in_ok-push.ensures.items
    ∙ rw (
      c.in_ok-write_members.ensures,
      c.in_ok-write_word.ensures,
      c.in_ok-extend_from_slice.ensures.items,
      c.as_bytes.ensures.bytes,
      ← name,
      ← members,
    )
    (named_line c.args.text.now.items (codes "class") (name_in classes.names k)
    (map (λ (a : InterId). name_in m.interaction_names a.0)
    (slice_index_or classes.members k [])))

pub returns-clause-spelled : goal.returns-clause-spelled
returns-clause-spelled c =
    let classes = c.args.classes.now in
    let k = c.args.class.0 in
    let name : name_in classes.names k ≡ c.index-names-class.result =
    rw (← c.names.ensures) (sym (get_or_read c.names.result.now k c.index-names-class.result
    (rw c.names.ensures c.requires.name) c.index-names-class.is [])) in
    rw name c.as_bytes.ensures.name
