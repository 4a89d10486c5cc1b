use Rattle.std.proofs.Common.{◌∙◌, refl, sym}
use Rattle.bipr.specs.Loading.{apart, joined}
use Rattle.bipr.proofs.loading.parts.Goals as goal

pub returns-then-are_joined : goal.returns-then-are_joined
returns-then-are_joined c =
    joined c.divide.result.1 (sym c.are_joined.ensures ∙ c.if-are_joined.true)
    c.divide.ensures.before c.divide.ensures.after

pub returns-else-are_joined : goal.returns-else-are_joined
returns-else-are_joined c =
    apart c.args.second refl (sym c.are_joined.ensures ∙ c.if-are_joined.false) refl
