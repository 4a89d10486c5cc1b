use Rattle.bip_explain.proofs.SayLemmas.{said_behind}
use Rattle.bip_explain.proofs.steps.say_fault.Goals as goal

pub returns-in-NotEnabled : goal.returns-in-NotEnabled
returns-in-NotEnabled c = rw c.in-NotEnabled.is (cc)

pub returns-in-Below : goal.returns-in-Below
returns-in-Below c = rw c.in-Below.is (simp said_behind (cc))

pub returns-in-Number : goal.returns-in-Number
returns-in-Number c = rw c.in-Number.is (simp said_behind (cc))

pub returns-in-Parties : goal.returns-in-Parties
returns-in-Parties c = rw c.in-Parties.is (cc)
