use Rattle.bip_explain.proofs.models.ModelReason.say.Goals as goal

pub returns-in-Form : goal.returns-in-Form
returns-in-Form c = rw c.in-Form.is (cc)

pub returns-in-Keyword : goal.returns-in-Keyword
returns-in-Keyword c = rw c.in-Keyword.is (cc)

pub returns-in-Unknown : goal.returns-in-Unknown
returns-in-Unknown c = rw c.in-Unknown.is (cc)

pub returns-in-Twice : goal.returns-in-Twice
returns-in-Twice c = rw c.in-Twice.is (cc)

pub returns-in-Limit : goal.returns-in-Limit
returns-in-Limit c = rw c.in-Limit.is (cc)

pub returns-in-End : goal.returns-in-End
returns-in-End c = rw c.in-End.is (cc)

pub returns-in-NoMemory : goal.returns-in-NoMemory
returns-in-NoMemory c = rw c.in-NoMemory.is (cc)

pub returns-in-NoMemoryToTell : goal.returns-in-NoMemoryToTell
returns-in-NoMemoryToTell c = rw c.in-NoMemoryToTell.is (cc)

pub returns-in-Unexplained : goal.returns-in-Unexplained
returns-in-Unexplained c = rw c.in-Unexplained.is (cc)
