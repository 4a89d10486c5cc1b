use Rattle.std.proofs.Common.{rules}
use Rattle.bip_tests.proofs.tests.scheduling.reads_back.Goals as goal

pub write_schedule-requires : goal.write_schedule-requires
write_schedule-requires g c = c.have_spelling.ensures.0 (search rules)
