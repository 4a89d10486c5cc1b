use Rattle.bip_explain.proofs.ends.EndReason.say.Goals as goal

pub returns-in-NoLocation : goal.returns-in-NoLocation
returns-in-NoLocation c = rw c.in-NoLocation.is (cc)

pub returns-in-NoEnd : goal.returns-in-NoEnd
returns-in-NoEnd c = rw c.in-NoEnd.is (cc)

pub returns-in-NoComponent : goal.returns-in-NoComponent
returns-in-NoComponent c = rw c.in-NoComponent.is (cc)

pub returns-in-NoFirst : goal.returns-in-NoFirst
returns-in-NoFirst c = rw c.in-NoFirst.is (cc)

pub returns-in-Above : goal.returns-in-Above
returns-in-Above c = rw c.in-Above.is (cc)

pub returns-in-InNoClass : goal.returns-in-InNoClass
returns-in-InNoClass c = rw c.in-InNoClass.is (cc)

pub returns-in-InClasses : goal.returns-in-InClasses
returns-in-InClasses c = rw c.in-InClasses.is (cc)
