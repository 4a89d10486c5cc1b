use Rattle.std.proofs.Common.{IsTrue, rules, ◌≡◌, ◌≢◌}
use Rattle.bip_core.specs.Runs.{IsLossless}
use Rattle.bip_core.specs.Worlds.{world_of}
use Rattle.bip_record.specs.Records.{elsewhere}
use Rattle.bip_replay.specs.Writing.{text_of}
use Rattle.bip_record.proofs.records.record_of.Goals as goal

pub write_schedule-requires : goal.write_schedule-requires
write_schedule-requires g c =
    let spelled : IsTrue c.have_spelling.result = search rules in
    c.have_spelling.ensures.0 spelled

pub returns-then-ne-clause-none : goal.returns-then-ne-clause-none
returns-then-ne-clause-none g c =
    let first = world_of c.in_ok-world.world in
    let last = world_of c.run_steps-report.new.world in
    let shared : first.bank.sharing ≡ (g.B.Bank.kept c.args.bank).sharing = search rules in
    let whole : IsLossless c.run_steps-report.result = search rules in
    let other : text_of c.args.plan.now.model last.trace ≢ c.args.trace.now = search rules in
    elsewhere first last c.run_steps-report.result c.in_ok-world.ensures.new shared
    c.run_steps-report.ensures.run whole other
