use Rattle.std.proofs.Common.{rules}
use Rattle.bip_core.specs.Runs.{IsLossless}
use Rattle.bip_core.specs.Worlds.{world_of}
use Rattle.bipr.proofs.SeedLemmas.{is_seed_schedule}
use Rattle.bipr.proofs.seeds.schedule_of.Goals as goal

pub write_schedule-requires : goal.write_schedule-requires
write_schedule-requires g c =
    rw (c.deref.ensures.value, ← c.in_ok-world.ensures.new.plan) c.in_ok-events.ensures.spelled

pub returns : goal.returns
returns g c =
    let whole : IsLossless c.in_ok-events.report =
    record { done = search rules; sent = search rules } in
    is_seed_schedule c.args.plan.now c.args.asked.now _ c.in_ok-events.events.items
    (world_of c.in_ok-world.world) (world_of c.seeded.new.world) c.in_ok-events.report _
    c.in_ok-world.ensures.new c.in_ok-world.ensures.sharing c.requires.shared
    (rw (← c.from.ensures) c.in_ok-events.ensures.drawn) whole
    (rw (← c.deref.ensures.value) c.in_ok-schedule.ensures.text)
    (rw (← c.deref.ensures.value) c.in_ok-schedule.ensures.reads_back)
