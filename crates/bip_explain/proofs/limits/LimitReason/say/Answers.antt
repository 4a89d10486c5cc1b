use Rattle.bip_explain.proofs.limits.LimitReason.say.Goals as goal

pub returns-in-Word : goal.returns-in-Word
returns-in-Word c = rw c.in-Word.is (cc)

pub returns-in-Line : goal.returns-in-Line
returns-in-Line c = rw c.in-Line.is (cc)
