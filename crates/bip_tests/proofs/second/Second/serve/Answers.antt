use Rattle.std.proofs.Common.{◌≡◌, false, true, refl, sym, ap, ◌∙◌}
use Rattle.std.specs.Prelude.{slice_index_or}
use Rattle.bip_bank.specs.Banks.{content_of}
use Rattle.bip_bank.specs.Central.{kept_central}
use Rattle.bip_core.proofs.WorldLemmas.{if_err}
use Rattle.bip_tests.specs.Second.{KeptSecond, kept_second}
use Rattle.bip_tests.proofs.SecondLemmas.{acted_so, cannot_yet, does_so, lacking_as, wants_so}
use Rattle.bip_tests.proofs.second.Second.serve.Goals as goal

pub returns-then-lacks-clause-does : goal.returns-then-lacks-clause-does
returns-then-lacks-clause-does c =
    let lacks : slice_index_or c.self.inside.lacks.items c.args.station.0 false ≡ true =
    ap (λ x. slice_index_or x c.args.station.0 false) (sym c.deref.ensures.value)
    ∙ (sym c.lacks.ensures ∙ c.if-lacks.true) in
    let central = content_of (kept_central c.self.inside.central) in
    rw (← c.self.view_is) (cannot_yet central central c.self.inside.lacks.items c.args.station
    lacks)

pub returns-in_err-did-clause-memory : goal.returns-in_err-did-clause-memory
returns-in_err-did-clause-memory c =
    let has : slice_index_or c.self.inside.lacks.items c.args.station.0 false ≡ false =
    ap (λ x. slice_index_or x c.args.station.0 false) (sym c.deref.ensures.value)
    ∙ (sym c.lacks.ensures ∙ c.if-lacks.false) in
    if_err _ c.from_residual.result (rw (← c.self.view_is)
    (wants_so (content_of (kept_central c.self.inside.central)) c.self.inside.lacks.items
    c.args.station has c.in_err-did.ensures.memory))

pub returns-in_err-did-clause-err : goal.returns-in_err-did-clause-err
returns-in_err-did-clause-err c =
    if_err _ c.from_residual.result (ap (lacking_as c.self.inside.lacks.items)
    c.in_err-did.ensures.err ∙ ap (λ (k : KeptSecond). content_of (kept_second k))
    c.self.view_is)

pub returns-clause-does : goal.returns-clause-does
returns-clause-does c =
    let has : slice_index_or c.self.inside.lacks.items c.args.station.0 false ≡ false =
    ap (λ x. slice_index_or x c.args.station.0 false) (sym c.deref.ensures.value)
    ∙ (sym c.lacks.ensures ∙ c.if-lacks.false) in
    let central = content_of (kept_central c.self.inside.central) in
    let later = content_of (kept_central c.act.new.self) in
    rw (← c.self.view_is) (does_so central later
    (lacking_as c.lack_again.new.lacks.items later) c.self.inside.lacks.items c.args.station
    c.in_ok-did.did refl has c.in_ok-did.ensures.does)

pub returns-clause-acted : goal.returns-clause-acted
returns-clause-acted c =
    rw (← c.self.view_is) (acted_so (content_of (kept_central c.self.inside.central))
    (content_of (kept_central c.act.new.self)) c.self.inside.lacks.items
    c.lack_again.new.lacks.items c.in_ok-did.did c.lack_again.ensures c.in_ok-did.ensures.acted)
