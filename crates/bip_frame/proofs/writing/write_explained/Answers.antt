use Rattle.std.proofs.Common.{◌≡◌, ◌∷◌, ◌++◌, ◌∙◌, List, ap, subst, arith}
use Rattle.std.proofs.lemmas.Grind.{common_steps}
use Rattle.std.specs.List.{AllByRecursion}
use Rattle.bip_model.specs.declared.wants.Want.{Want}
use Rattle.bip_frame.specs.Frames.{IsEntry, IsFrame, counted_entries, head_fields, of_request}
use Rattle.bip_frame.proofs.WritingLemmas.{explained_frame, written_is}
use Rattle.bip_frame.proofs.writing.write_explained.Goals as goal

pub returns : goal.returns
returns c =
    let r = c.args.request.now in
    let head : c.put_head.new.out.items ≡ 6 ∷ head_fields r.class.0 r.request r.inter.0 =
    grind (
      arith,
      common_steps,
      c.put_head.ensures.items,
      c.push.ensures.items,
      c.new-out.ensures,
    ) in
    let lists : c.put_entries.new.out.items ≡ c.put_head.new.out.items ++ counted_entries r.wants =
    c.put_entries.ensures.items ∙ ap (λ (ws : List Want). c.put_head.new.out.items
    ++ counted_entries ws) c.as_slice-wants.ensures.wants in
    let frame : IsFrame (of_request r) c.put_reasons.new.out.items =
    explained_frame r c.put_head.new.out.items c.put_entries.new.out.items
    c.put_reasons.new.out.items c.requires.explained c.put_head.ensures.fits
    c.as_slice-wants.ensures.valid (subst (AllByRecursion IsEntry)
    c.as_slice-wants.ensures.wants c.put_entries.ensures.fits) c.requires.reasons
    c.put_reasons.ensures.fits head lists c.put_reasons.ensures.items in
    written_is (of_request r) c.put_reasons.new.out.items c.as_slice.result.now
    c.copy_from_slice.result c.copy_from_slice.ensures c.as_slice.ensures.value frame
