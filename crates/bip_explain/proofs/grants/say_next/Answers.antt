use Rattle.std.proofs.Common.{arith, ◌≢◌}
use Rattle.bip_explain.proofs.LineLemmas.{neq-eqb}
use Rattle.bip_explain.proofs.grants.say_next.Goals as goal

pub returns-else-expected-eq0 : goal.returns-else-expected-eq0
returns-else-expected-eq0 c =
    let some : c.args.expected ≢ 0 = omega arith in
    rw (neq-eqb c.args.expected 0 some) (cc)
