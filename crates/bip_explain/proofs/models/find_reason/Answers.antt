use Rattle.bip_explain.proofs.models.find_reason.Goals as goal

pub returns-in-Syntax-clause-some : goal.returns-in-Syntax-clause-some
returns-in-Syntax-clause-some c = c.find_form.ensures.is c.args.fault.now.why
