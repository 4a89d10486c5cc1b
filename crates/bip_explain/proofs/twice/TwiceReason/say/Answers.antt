use Rattle.bip_explain.proofs.twice.TwiceReason.say.Goals as goal

pub returns-in-Declared : goal.returns-in-Declared
returns-in-Declared c = rw c.in-Declared.is (cc)

pub returns-in-Said : goal.returns-in-Said
returns-in-Said c = rw c.in-Said.is (cc)

pub returns-in-Leaves : goal.returns-in-Leaves
returns-in-Leaves c = rw c.in-Leaves.is (cc)

pub returns-in-Party : goal.returns-in-Party
returns-in-Party c = rw c.in-Party.is (cc)

pub returns-in-Target : goal.returns-in-Target
returns-in-Target c = rw c.in-Target.is (cc)
