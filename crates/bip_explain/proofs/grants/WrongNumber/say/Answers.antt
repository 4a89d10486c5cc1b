use Rattle.bip_explain.proofs.SayLemmas.{said_behind}
use Rattle.bip_explain.proofs.grants.WrongNumber.say.Goals as goal

pub returns : goal.returns
returns c = simp said_behind (cc)
