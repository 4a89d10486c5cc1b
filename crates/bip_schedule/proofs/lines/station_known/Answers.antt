use Rattle.std.proofs.Common.{rules, arith}
use Rattle.bip_bank.proofs.StationLemmas.{place-le}
use Rattle.bip_schedule.proofs.lines.station_known.Goals as goal

pub overflow_cast-result : goal.overflow_cast-result
overflow_cast-result c =
    let low = place-le c.args.stations.now c.in_ok-inter.inter.0 c.in_ok-place.place
    c.requires.rising (search rules) in
    omega (arith, low)
