use Rattle.std.proofs.Common.{◌∙◌, subst, sym}
use Rattle.std.proofs.lemmas.Bool.{false≢true}
use Rattle.bip_forks.proofs.SideLemmas.{fork_stays, token_stays}
use Rattle.bip_forks.specs.Exchanges.{StaysSomehow}
use Rattle.bip_forks.specs.declared.exchanges.Exchange.{Exchange}
use Rattle.bip_forks.proofs.sides.Shared.goes.Goals as goal

pub returns-in-Pass-clause-stays : goal.returns-in-Pass-clause-stays
returns-in-Pass-clause-stays c = λ is.
    subst (λ (e : Exchange). StaysSomehow e c.args.self.now.side) (sym c.in-Pass.is)
    (fork_stays c.args.self.now.side (λ can. false≢true (sym is ∙ c.may_pass.ensures.1 can)))

pub returns-in-Ask-clause-stays : goal.returns-in-Ask-clause-stays
returns-in-Ask-clause-stays c = λ is.
    subst (λ (e : Exchange). StaysSomehow e c.args.self.now.side) (sym c.in-Ask.is)
    (token_stays c.args.self.now.side (λ can. false≢true (sym is ∙ c.may_ask.ensures.1 can)))
