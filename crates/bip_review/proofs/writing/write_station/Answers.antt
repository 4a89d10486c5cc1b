use Rattle.bip_partition.proofs.TableLemmas.{reserved_known}
use Rattle.bip_review.proofs.StationLemmas.{station_line}
use Rattle.bip_review.proofs.writing.write_station.Goals as goal

pub write_inter_name-requires : goal.write_inter_name-requires
write_inter_name-requires c = reserved_known c.args.plan.now c.args.inter.0
    c.recall.ensures.valid c.requires

pub returns : goal.returns
returns c =
    station_line c.args.plan.now c.args.inter.0 _ _ _ _ _ _ c.recall.ensures.planned c.requires
    c.in_ok-extend_from_slice.ensures.items c.in_ok-write_inter_name.ensures
    c.in_ok-extend_from_slice-2.ensures.items c.in_ok-write_conflicts.ensures
    c.in_ok-push.ensures.items
