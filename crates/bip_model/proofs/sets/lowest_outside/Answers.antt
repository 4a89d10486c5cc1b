use Rattle.std.proofs.Common.{Option, None, Some}
use Rattle.std.specs.Prelude.{IfNone}
use Rattle.std.proofs.lemmas.Option.{IfSome_then}
use mir.Syntax.{w128}
use Rattle.bip_model.proofs.SetLemmas.{has_outside, none_outside}
use Rattle.bip_model.proofs.sets.lowest_outside.Goals as goal

pub returns-clause-some : goal.returns-clause-some
returns-clause-some c = IfSome_then c.lowest_inter.result c.lowest_inter.ensures.some
    (λ a is. has_outside w128 c.args.set c.args.other a.0 c.ranges.set.fits c.ranges.other.fits
    is.here)

none_then : {X : Type 0} (r : Option X) {P Q : Type 0} → IfNone r P → (P → Q) → IfNone r Q
none_then None is then' = then' is
none_then (Some x) is then' = tt

pub returns-clause-none : goal.returns-clause-none
returns-clause-none c = none_then c.lowest_inter.result c.lowest_inter.ensures.none
    (λ none b. none_outside w128 c.args.set c.args.other b c.ranges.set.fits c.ranges.other.fits
    none)
