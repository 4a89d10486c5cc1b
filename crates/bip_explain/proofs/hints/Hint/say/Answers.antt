use Rattle.bip_explain.proofs.hints.Hint.say.Goals as goal

pub returns-in-Text : goal.returns-in-Text
returns-in-Text c = rw c.in-Text.is (cc)
