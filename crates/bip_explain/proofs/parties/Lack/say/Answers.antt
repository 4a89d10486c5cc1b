use Rattle.bip_explain.proofs.SayLemmas.{said_behind}
use Rattle.bip_explain.proofs.parties.Lack.say.Goals as goal

pub returns-in-Off : goal.returns-in-Off
returns-in-Off c = rw c.in-Off.is (simp said_behind (cc))
