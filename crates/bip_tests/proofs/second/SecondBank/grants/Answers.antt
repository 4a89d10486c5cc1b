use Rattle.bip_tests.proofs.second.SecondBank.grants.Goals as goal

pub returns-clause-unused : goal.returns-clause-unused
returns-clause-unused c = λ none. rw (← c.self.view_is) (c.grants.ensures.unused none)
