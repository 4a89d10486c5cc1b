use Rattle.std.proofs.Common.{◌≡◌, false, true, sym, ap, ◌∙◌}
use Rattle.std.specs.Prelude.{slice_index_or}
use Rattle.bip_bank.specs.Banks.{content_of}
use Rattle.bip_bank.specs.Central.{kept_central}
use Rattle.bip_tests.proofs.SecondLemmas.{acts_as_central, idles_as_central, lacking_idle}
use Rattle.bip_tests.proofs.second.Second.why_unserved.Goals as goal

pub returns-then-lacks-clause-some : goal.returns-then-lacks-clause-some
returns-then-lacks-clause-some c =
    let lacks : slice_index_or c.self.inside.lacks.items c.args.station.0 false ≡ true =
    ap (λ x. slice_index_or x c.args.station.0 false) (sym c.deref.ensures.value)
    ∙ (sym c.lacks.ensures ∙ c.if-lacks.true) in
    rw (← c.self.view_is) (lacking_idle (content_of (kept_central c.self.inside.central))
    c.self.inside.lacks.items c.args.station lacks)

pub returns-clause-some : goal.returns-clause-some
returns-clause-some c =
    rw (← c.self.view_is) (idles_as_central c.self.inside.central c.self.inside.lacks.items
    c.args.station c.why_idle.result c.why_idle.ensures.some)

pub returns-clause-none : goal.returns-clause-none
returns-clause-none c =
    let has : slice_index_or c.self.inside.lacks.items c.args.station.0 false ≡ false =
    ap (λ x. slice_index_or x c.args.station.0 false) (sym c.deref.ensures.value)
    ∙ (sym c.lacks.ensures ∙ c.if-lacks.false) in
    rw (← c.self.view_is) (acts_as_central (content_of (kept_central c.self.inside.central))
    c.self.inside.lacks.items c.args.station c.why_idle.result has c.why_idle.ensures.none)
