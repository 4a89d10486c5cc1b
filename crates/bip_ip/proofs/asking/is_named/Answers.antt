use Rattle.std.proofs.Common.{◌≡◌, ◌∙◌, Bool, Some, ap, arith, get_or, slice_get, sym}
use Rattle.std.proofs.lemmas.List.Folds.{list_any_at, list_any_none}
use Rattle.std.proofs.lemmas.Option.{get_or_from_slice_get, slice_get-get_or, slice_get_within}
use Rattle.bip_model.specs.declared.reasons.Why.{Why}
use Rattle.bip_ip.specs.Asking.{names}
use Rattle.bip_ip.proofs.asking.is_named.Goals as goal

pub returns-then-names : goal.returns-then-names
returns-then-names c =
    let test : Why → Bool = λ y. names c.args.model.now y.inter.0 y.cause c.args.comp.0 in
    let reasons = c.args.reasons.now in
    let why = c.in-Some.why in
    let here : slice_get reasons c.loop-place.place ≡ Some why = sym c.get.ensures ∙ c.in-Some.is in
    let at = get_or_from_slice_get reasons c.loop-place.place why why here in
    sym (list_any_at test reasons c.loop-place.place why
    (slice_get_within reasons c.loop-place.place why here)
    (ap test at ∙ (sym c.names.ensures ∙ c.if-names.true)))

pub returns : goal.returns
returns c =
    let test : Why → Bool = λ y. names c.args.model.now y.inter.0 y.cause c.args.comp.0 in
    let reasons = c.args.reasons.now in
    sym (list_any_none test reasons (λ k d within. c.loop-place.invariant k (get_or reasons k d)
    (omega (arith, within, c.len-place-end.ensures.count, c.loop-place-test.false))
    (slice_get-get_or reasons k d within)))
