use Rattle.std.proofs.Common.{arith}
use Rattle.bip_partition.specs.Plans.{Planned}
use Rattle.bip_partition.proofs.FootprintLemmas.{are_class_sets}
use Rattle.bip_partition.proofs.TableLemmas.{are_stations, are_tabled, have_bits}
use Rattle.bip_partition.proofs.tables.Tables.of.Goals as goal

pub linked-tabled-requires : goal.linked-tabled-requires
linked-tabled-requires c =
    let p : Planned = record { model = c.args.model.now; classes = c.args.classes.now } in
    rw c.as_slice.ensures (have_bits p c.lists_touched.ensures.valid c.in_ok-touches.touches
    c.in_ok-touches.ensures.lists)

pub list_reserved-requires-clause-bits : goal.list_reserved-requires-clause-bits
list_reserved-requires-clause-bits c =
    let p : Planned = record { model = c.args.model.now; classes = c.args.classes.now } in
    rw c.as_slice-3.ensures (have_bits p c.lists_touched.ensures.valid c.in_ok-touches.touches
    c.in_ok-touches.ensures.lists)

pub list_reserved-requires-clause-few : goal.list_reserved-requires-clause-few
list_reserved-requires-clause-few c =
    rw c.as_slice-3.ensures (omega (
      arith,
      c.in_ok-touches.ensures.lists.each,
      c.lists_touched.ensures.valid.so_far.few_interactions,
    ))

pub returns : goal.returns
returns c =
    let p : Planned = record { model = c.args.model.now; classes = c.args.classes.now } in
    let valid = c.lists_touched.ensures.valid in
    let touches = c.in_ok-touches.touches in
    let touching = c.in_ok-touching.touching in
    let lists = c.in_ok-touches.ensures.lists in
    let first = rw c.as_slice-2.ensures at c.seeds.ensures in
    let linked = rw c.as_slice.ensures at c.linked-tabled.ensures in
    let reserved = rw c.as_slice-3.ensures at c.in_ok-stations.ensures in
    let sets = rw c.as_slice-5.ensures at c.in_ok-class_sets.ensures.sets in
    record {
      lists_touched = lists;
      lists_touching = c.in_ok-touching.ensures;
      rows = are_tabled p valid touches lists touching c.in_ok-touching.ensures c.seeds.result first
          c.linked-tabled.result linked;
      stations = are_stations p valid touches lists touching c.in_ok-touching.ensures c.seeds.result
          first c.linked-tabled.result linked c.in_ok-stations.stations reserved;
      footprints = c.in_ok-footprints.ensures;
      class_sets = are_class_sets p c.list_class_sets.ensures.valid c.requires
          c.in_ok-footprints.footprints c.in_ok-footprints.ensures c.in_ok-class_sets.class_sets
          sets;
    }
