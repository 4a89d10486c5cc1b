use Rattle.std.proofs.Common.{◌≡◌, [], ◌∷◌, ◌++◌, List, ◌∙◌, ap, rules}
use Rattle.std.proofs.lemmas.List.{replicate_more}
use Rattle.bip_model.specs.declared.messages.Request.{Request}
use Rattle.bip_bank.proofs.opening.no_requests.Goals as goal

abbrev none : List Request
none = []

pub loop-preserved : goal.loop-preserved
loop-preserved c =
    let more : c.push.new.self.items ≡ c.loop.queues.items ++ none ∷ [] = search rules in
    more ∙ (ap (λ (qs : List (List Request)). qs ++ none ∷ []) c.loop.invariant
    ∙ replicate_more c.loop.counter none)
