use Rattle.std.proofs.Common.{◌≡◌, ◌∙◌, [], get_or, refl, sym}
use Rattle.std.proofs.lemmas.Option.{get_or_from_slice_get}
use Rattle.bip_model.specs.Partitions.{class_in}
use Rattle.bip_partition.specs.Laws.{IsPlanned}
use Rattle.bip_partition.specs.Plans.{Planned}
use Rattle.bip_partition.proofs.ClassLemmas.{class_known, stands_at}
use Rattle.bip_partition.proofs.FootprintLemmas.{listed_touches, participant_bits}
use Rattle.bip_partition.proofs.TableLemmas.{touched_bits}
use Rattle.bip_partition.proofs.footprints.Footprint.of.Goals as goal

pub set_moved-requires : goal.set_moved-requires
set_moved-requires c = rw c.participants.ensures.participants
    (participant_bits c.args.model.now c.args.inter.0 c.participants.ensures.valid)

pub set_of-requires : goal.set_of-requires
set_of-requires c = touched_bits c.args.model.now c.args.inter.0 c.args.touched.now
    c.participants.ensures.valid c.requires.touched

pub members-requires : goal.members-requires
members-requires c =
    let p : Planned = record { model = c.args.model.now; classes = c.args.classes.now } in
    let planned : IsPlanned p = record {
      valid = c.participants.ensures.valid;
      parted = c.class_of-class.ensures.valid;
      of_model = c.requires.parted;
    } in
    rw c.class_of-class.ensures.class (class_known p c.args.inter.0 planned c.requires.declared)

pub returns : goal.returns
returns c =
    let p : Planned = record { model = c.args.model.now; classes = c.args.classes.now } in
    let a = c.args.inter.0 in
    let planned : IsPlanned p = record {
      valid = c.participants.ensures.valid;
      parted = c.members.ensures.valid;
      of_model = c.requires.parted;
    } in
    let read : get_or p.classes.members c.class_of-class.result.0 [] ≡ c.members.result.now =
    get_or_from_slice_get p.classes.members c.class_of-class.result.0 c.members.result.now
    [] c.members.ensures.members in
    let list : c.members.result.now ≡ get_or p.classes.members (class_in p.classes a) [] =
    rw c.class_of-class.ensures.class at (sym read) in
    record {
      touched = λ d. rw (c.set_of.ensures d) (listed_touches p.model a d c.args.touched.now
          c.requires.touched);
      moved = λ d. c.set_moved.ensures d ∙ rw c.participants.ensures.participants refl;
      class = c.class_of-class.ensures.class;
      place = rw (c.unwrap_or.ensures, c.place_among.ensures, list)
          (stands_at p a planned c.requires.declared);
    }
