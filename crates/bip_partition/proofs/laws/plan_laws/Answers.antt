use Rattle.bip_partition.proofs.ClassLemmas.{stands_in_its_class}
use Rattle.bip_partition.proofs.LawLemmas.{both_ways, class_touches, each_moves, local_alone}
use Rattle.bip_partition.proofs.LawLemmas.{local_in_class, local_none, one_class_without_row}
use Rattle.bip_partition.proofs.LawLemmas.{reserved_all, reserved_listed, rows_closed, rows_least}
use Rattle.bip_partition.proofs.LawLemmas.{run_apart}
use Rattle.bip_partition.proofs.laws.plan_laws.Goals as goal

pub returns : goal.returns
returns c = record {
  moves = each_moves;
  stands = stands_in_its_class;
  closed = rows_closed;
  least = rows_least;
  reserved = reserved_all;
  local = local_none;
  alone = local_alone;
  one =
      one_class_without_row;
  in_class = local_in_class;
  with_class = class_touches;
  listed =
      reserved_listed;
  both_ways = both_ways;
  apart = run_apart;
}
