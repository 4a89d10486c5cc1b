use Rattle.std.proofs.Common.{List, ℕ, ap, drop, ◌∙◌}
use Rattle.bip_model.specs.Texts.{words}
use Rattle.bip_explain.specs.Unknown.{has_participant}
use Rattle.bip_explain.proofs.UnknownLemmas.{drop_two}
use Rattle.bip_explain.proofs.unknown.has_participant.Goals as goal

pub returns : goal.returns
returns c =
    let ws = words c.args.line.now in
    let head = ap (λ (us : List (List ℕ)). has_participant c.args.component.now us) in
    c.is_in_head.ensures ∙ head (c.behind_first-2.ensures.rest
    ∙ (ap (λ (us : List (List ℕ)). drop 1 us)
    (c.behind_first.ensures.rest ∙ ap (λ (l : List ℕ). drop 1 (words l)) c.of.ensures.rest)
    ∙ drop_two ws))
