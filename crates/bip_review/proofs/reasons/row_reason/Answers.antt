use Rattle.std.proofs.Common.{refl}
use Rattle.std.proofs.lemmas.Bool.{false≢true}
use Rattle.bip_partition.proofs.TableLemmas.{tabled_known}
use Rattle.bip_review.proofs.ReasonLemmas.{if_none, no_row}
use Rattle.bip_review.proofs.reasons.row_reason.Goals as goal

pub is_shared-requires : goal.is_shared-requires
is_shared-requires c = tabled_known c.args.plan.now c.args.comp.0 c.recall.ensures.valid
    (c.if-not-tabled.ensures.0 refl)

pub returns-in_err-inter-clause-none : goal.returns-in_err-inter-clause-none
returns-in_err-inter-clause-none c =
    if_none c.from_residual.result _ (no_row c.args.plan.now c.args.comp.0 c.in_default.ensures.none
    (λ shared. false≢true (c.if-is_shared.ensures.1 shared)) c.in_err-inter.ensures.none
    c.args.comp.0 refl)
