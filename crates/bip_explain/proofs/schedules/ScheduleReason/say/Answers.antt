use Rattle.bip_explain.proofs.schedules.ScheduleReason.say.Goals as goal

pub returns-in-Form : goal.returns-in-Form
returns-in-Form c = rw c.in-Form.is (cc)

pub returns-in-Keyword : goal.returns-in-Keyword
returns-in-Keyword c = rw c.in-Keyword.is (cc)

pub returns-in-NoClass : goal.returns-in-NoClass
returns-in-NoClass c = rw c.in-NoClass.is (cc)

pub returns-in-NoInteraction : goal.returns-in-NoInteraction
returns-in-NoInteraction c = rw c.in-NoInteraction.is (cc)

pub returns-in-NoStation : goal.returns-in-NoStation
returns-in-NoStation c = rw c.in-NoStation.is (cc)

pub returns-in-NoMemory : goal.returns-in-NoMemory
returns-in-NoMemory c = rw c.in-NoMemory.is (cc)

pub returns-in-Unexplained : goal.returns-in-Unexplained
returns-in-Unexplained c = rw c.in-Unexplained.is (cc)
