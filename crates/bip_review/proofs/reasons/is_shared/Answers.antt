use Rattle.std.proofs.Common.{length, lt-ltb, ltb-true}
use Rattle.bip_review.proofs.ReasonLemmas.{shared_where}
use Rattle.bip_review.proofs.reasons.is_shared.Goals as goal

pub returns : goal.returns
returns c =
    let list = c.classes_of.result.now in
    let many = shared_where c.args.plan.now c.args.comp.0 list c.classes_of.ensures in
    (λ test. many.0 (ltb-true 1 (length list) test), λ is. lt-ltb 1 (length list) (many.1 is))
