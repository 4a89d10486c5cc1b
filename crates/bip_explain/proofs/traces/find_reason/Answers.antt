use Rattle.bip_explain.proofs.traces.find_reason.Goals as goal

pub returns-in-Syntax-clause-some : goal.returns-in-Syntax-clause-some
returns-in-Syntax-clause-some c = rw c.in-Syntax.is (c.find_form.ensures.some c.args.model.now)

pub returns-in-Syntax-clause-none : goal.returns-in-Syntax-clause-none
returns-in-Syntax-clause-none c = rw c.in-Syntax.is (c.find_form.ensures.none c.args.model.now)
