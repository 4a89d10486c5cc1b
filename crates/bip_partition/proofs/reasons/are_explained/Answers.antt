use Rattle.std.proofs.Common.{◌∙◌, sym}
use Rattle.std.proofs.lemmas.Bool.{false≢true}
use Rattle.bip_partition.proofs.ReasonLemmas.{explained_by, for_from_turn, turn_from_for}
use Rattle.bip_partition.proofs.reasons.are_explained.Goals as goal

pub returns : goal.returns
returns c =
    let m = c.args.model.now in
    let a = c.args.inter.0 in
    let wants = c.args.wants.now in
    let reasons = c.args.reasons.now in
    let above = c.above.result.now in
    let is = explained_by m a wants reasons (λ none. false≢true
    (sym c.if-is_empty.false ∙ c.is_empty.ensures.1 none)) in (
      λ test. is.1 (for_from_turn m a wants reasons above c.above.ensures.above
          (c.are_in_turn.ensures.exact.0 test)),
      λ are. c.are_in_turn.ensures.exact.1 (turn_from_for m a wants reasons above
          c.above.ensures.above c.are_in_turn.ensures.valid.rising (is.0 are)),
    )
