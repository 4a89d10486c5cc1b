use Rattle.std.proofs.Common.{◌≡◌, None, Some}
use Rattle.bip_model.specs.States.{state_of}
use Rattle.bip_explain.proofs.HindranceLemmas.{first_fault, not_free}
use Rattle.bip_explain.proofs.hindrances.find_hindered.Goals as goal

pub returns-in_default-clause-none : goal.returns-in_default-clause-none
returns-in_default-clause-none c = λ base first.
    let f = first_fault c.args.model.now base c.args.text.now c.args.number c.args.fault.now
    first in
    let e : None ≡ Some f.grant.inter.0 = c.in_default.ensures.named f.grant
    (rw c.line_at.ensures f.says) in
    cc

pub returns-in-None-clause-none : goal.returns-in-None-clause-none
returns-in-None-clause-none c = λ base first.
    let f = first_fault c.args.model.now base c.args.text.now c.args.number c.args.fault.now
    first in
    let e : Some c.in-Some.inter.0 ≡ Some f.grant.inter.0 =
    c.in-Some.ensures.named f.grant (rw c.line_at.ensures f.says) in
    not_free c.args.model.now base c.args.text.now c.args.number c.args.fault.now
    (state_of c.in_ok-state.state) c.in-Some.inter.0 f
    (c.in_ok-state.ensures.before base f.grants f.reads f.run) (cc) c.in-None.ensures.none
