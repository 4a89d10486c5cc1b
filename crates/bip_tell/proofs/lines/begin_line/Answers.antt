use Rattle.std.proofs.Common.{rules}
use Rattle.bip_tell.proofs.lines.begin_line.Goals as goal

pub write_head-requires-clause-spelled : goal.write_head-requires-clause-spelled
write_head-requires-clause-spelled g c = c.requires.spelled c.stations.result.now c.stations.ensures
    0 c.args.event (search rules)
