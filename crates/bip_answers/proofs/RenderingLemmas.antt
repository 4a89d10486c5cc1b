-- A text has one answer to its rendering.
use Rattle.std.proofs.Common.{◌≡◌, ℕ, List, refl}
use Rattle.bip_answers.specs.Renderings.{IsRenderingAnswer, rendered, unrendered}
use Rattle.bip_answers.specs.declared.answers.Answer.{Answer}
use Rattle.bip_answers.specs.declared.renderings.Rendering.{Rendering}
use Rattle.bip_answers.proofs.OneAnswerLemmas.{AreExact}

pub has_one_rendering : AreExact → (rendering : Rendering) (text : List ℕ) (a b : Answer)
    → IsRenderingAnswer rendering text a → IsRenderingAnswer rendering text b → a ≡ b
has_one_rendering exact rendering text a b (rendered m c means) (rendered m' c' means') =
    let same = exact.meaning text m' m c' c means' means in
    rw (same.0, same.1) refl
has_one_rendering exact rendering text a b (rendered m c means) (unrendered f other has) =
    absurd (exact.either text m c f means has)
has_one_rendering exact rendering text a b (unrendered f other has) (rendered m c means) =
    absurd (exact.either text m c f means has)
has_one_rendering exact rendering text a b (unrendered f other has) (unrendered g other' has') =
    let same : f ≡ g = exact.fault text f g has has' in
    rw same refl
