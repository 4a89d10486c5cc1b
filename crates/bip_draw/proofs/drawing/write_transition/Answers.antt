use Rattle.std.proofs.Common.{◌≡◌, ◌<◌, [], append_assoc, length, sym}
use Rattle.std.proofs.lemmas.List.{get_or_read}
use Rattle.bip_model.specs.Naming.{name_in}
use Rattle.bip_reader.specs.Writing.{own_word}
use Rattle.bip_draw.specs.Clauses.{clauses_text}
use Rattle.bip_draw.proofs.drawing.write_transition.Goals as goal

pub returns : goal.returns
returns c =
    let k = c.args.component.now in
    let t = c.args.transition.now in
    let same = c.as_slice.ensures.names in
    let within : t.port.0 < length c.as_slice.result.now = rw same c.requires.port in
    let name : name_in k.ports t.port.0 ≡ c.index-as_slice-transition.result =
    rw (← same) (sym (get_or_read c.as_slice.result.now t.port.0
    c.index-as_slice-transition.result within c.index-as_slice-transition.is [])) in
    rw (
      c.in_ok-write_clauses.ensures,
      c.in_ok-extend_from_slice.ensures.items,
      c.as_bytes.ensures.bytes,
      ← name,
      c.as_slice-2.ensures,
      c.as_slice-3.ensures,
    )
    (append_assoc c.args.text.now.items (name_in k.ports t.port.0)
    (clauses_text (own_word k) t.guard t.update))
