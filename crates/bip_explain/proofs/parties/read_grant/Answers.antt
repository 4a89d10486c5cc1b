use Rattle.std.proofs.Common.{sym, ◌∙◌}
use Rattle.bip_explain.proofs.PartyLemmas.{none_read, taken}
use Rattle.bip_replay.specs.declared.faults.LineFault.TheVariants.{Syntax, Unknown}
use Rattle.bip_explain.proofs.parties.read_grant.Goals as goal

pub returns-in-Ok-clause-some : goal.returns-in-Ok-clause-some
returns-in-Ok-clause-some c =
    let gs = c.in-Ok.grants in
    (taken c.args.model.now c.args.line.now gs.items c.pop.result gs.len
    (sym c.is_plain.ensures ∙ c.if-not-is_plain.false) c.in-Ok.ensures.grants gs.ok.0
    c.pop.ensures.value c.pop.ensures.variant).some

pub returns-in-Ok-clause-none : goal.returns-in-Ok-clause-none
returns-in-Ok-clause-none c =
    let gs = c.in-Ok.grants in
    (taken c.args.model.now c.args.line.now gs.items c.pop.result gs.len
    (sym c.is_plain.ensures ∙ c.if-not-is_plain.false) c.in-Ok.ensures.grants gs.ok.0
    c.pop.ensures.value c.pop.ensures.variant).none

pub returns-in-Syntax-clause-none : goal.returns-in-Syntax-clause-none
returns-in-Syntax-clause-none c = none_read c.args.model.now c.args.line.now c.in-Err._number Syntax
    (sym c.is_plain.ensures ∙ c.if-not-is_plain.false) (rw c.in-Syntax.is at c.in-Err.ensures.fault)

pub returns-in-Unknown-clause-none : goal.returns-in-Unknown-clause-none
returns-in-Unknown-clause-none c = none_read c.args.model.now c.args.line.now c.in-Err._number
    Unknown (sym c.is_plain.ensures ∙ c.if-not-is_plain.false)
    (rw c.in-Unknown.is at c.in-Err.ensures.fault)
