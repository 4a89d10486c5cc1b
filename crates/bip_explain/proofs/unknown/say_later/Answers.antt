use Rattle.bip_explain.proofs.unknown.say_later.Goals as goal

pub returns-in-Some : goal.returns-in-Some
returns-in-Some c = rw c.in-Some.is (cc)
