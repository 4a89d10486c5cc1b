use Rattle.bip_explain.proofs.models.say_standing.Goals as goal

pub returns-in-Inside : goal.returns-in-Inside
returns-in-Inside c = rw c.in-Inside.is (cc)
