use Rattle.std.proofs.Common.{arith}
use Rattle.std.proofs.lemmas.Grind.{common_steps}
use Rattle.bip_replay.proofs.TextLemmas.{see_or_none}
use Rattle.bip_tell.proofs.words.write_wants.Goals as goal

pub returns-in_ok-write_role-2 : goal.returns-in_ok-write_role-2
returns-in_ok-write_role-2 c = let all = see_or_none c.args.model.now c.args.wants.now in
    grind (arith, common_steps)

pub returns-else-looks_at_any : goal.returns-else-looks_at_any
returns-else-looks_at_any c = grind (arith, common_steps, see_or_none)
