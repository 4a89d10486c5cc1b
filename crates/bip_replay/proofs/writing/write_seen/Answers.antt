use Rattle.std.proofs.Common.{arith}
use Rattle.std.proofs.lemmas.Grind.{common_steps}
use Rattle.bip_replay.proofs.TextLemmas.{see_or_none}
use Rattle.bip_replay.proofs.writing.write_seen.Goals as goal

pub returns-in_ok-write_wants : goal.returns-in_ok-write_wants
returns-in_ok-write_wants c = let all = see_or_none c.args.model.now c.args.wants.now in
    grind (arith, common_steps)

pub returns-else-look : goal.returns-else-look
returns-else-look c = grind (arith, common_steps, see_or_none)
