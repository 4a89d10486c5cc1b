use Rattle.bip_explain.proofs.traces.TraceReason.say.Goals as goal

pub returns-in-Form : goal.returns-in-Form
returns-in-Form c = rw c.in-Form.is (cc)

pub returns-in-Twice : goal.returns-in-Twice
returns-in-Twice c = rw c.in-Twice.is (cc)

pub returns-in-TooMany : goal.returns-in-TooMany
returns-in-TooMany c = rw c.in-TooMany.is (cc)

pub returns-in-NoInteraction : goal.returns-in-NoInteraction
returns-in-NoInteraction c = rw c.in-NoInteraction.is (cc)

pub returns-in-NoComponent : goal.returns-in-NoComponent
returns-in-NoComponent c = rw c.in-NoComponent.is (cc)

pub returns-in-NoMemory : goal.returns-in-NoMemory
returns-in-NoMemory c = rw c.in-NoMemory.is (cc)
