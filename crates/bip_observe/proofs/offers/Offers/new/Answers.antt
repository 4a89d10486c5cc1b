use Rattle.std.proofs.Common.{◌≡◌, ◌∙◌, List, ap, length, replicate}
use Rattle.bip_model.specs.declared.messages.Offer.{Offer}
use Rattle.bip_model.specs.declared.parts.Component.{Component}
use Rattle.bip_model.specs.declared.parts.System.{System}
use Rattle.bip_observe.proofs.KeptLemmas.{first_are_kept, nothing_kept, nothings}
use Rattle.bip_observe.proofs.offers.Offers.new.Goals as goal

pub invariant_of-result : goal.invariant_of-result
invariant_of-result c =
    let n = length c.components-count.result.now in
    let known : c.of.result ≡ replicate n c.args.base = c.of.ensures
    ∙ c.in_ok-known.ensures.items_if_clones_equal (λ y e. e) in
    let held : c.of-2.result ≡ nothings Offer n = c.of-2.ensures ∙ c.in_ok-held.ensures in
    rw (known, held) (first_are_kept c.args.plan.now c.args.class.0 c.args.base n
    (ap (λ (l : List Component). length l)
    (c.components-count.ensures.components
    ∙ ap (λ (m : System). m.components) c.model.ensures)))

pub returns : goal.returns
returns c =
    let n = length c.components-count.result.now in
    let known : c.of.result ≡ replicate n c.args.base = c.of.ensures
    ∙ c.in_ok-known.ensures.items_if_clones_equal (λ y e. e) in
    let held : c.of-2.result ≡ nothings Offer n = c.of-2.ensures ∙ c.in_ok-held.ensures in
    rw (known, held) (nothing_kept c.args.plan.now c.args.class.0 c.args.base n)
