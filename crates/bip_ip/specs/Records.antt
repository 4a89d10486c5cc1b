-- The records of a class: what is kept of its own interactions, as a list by all numbers.
use Rattle.std.specs.Prelude.{ℕ, ◌==◌, List, [], Option, None, map, position, slice_index_or}
use Rattle.std.specs.List.{range_with_len}
use Rattle.std.specs.Option.{option_and_then}
use Rattle.bip_model.specs.declared.numbering.InterId.{InterId}
use Rattle.bip_partition.specs.Plans.{Planned}
use Rattle.bip_ip.specs.declared.nodes.OpenRecord.{OpenRecord}

-- the records of a class of a plan, each in the place of its interaction's number
pub record KeptRecords : Type 0 where
  pub plan : Planned
  pub class : ℕ
  pub pending : List (Option OpenRecord)

-- the interactions of a class, in order of number; none of what is no class
abbrev pub members_of : Planned → ℕ → List InterId
members_of p class = slice_index_or p.classes.members class []

-- the place of an interaction among these
abbrev pub place_among : List InterId → ℕ → Option ℕ
place_among members a = position (λ (b : InterId). b.0 == a) members

-- the record of an interaction, where each of these has a place
abbrev pub record_at : List InterId → List (Option OpenRecord) → ℕ → Option OpenRecord
record_at members places a =
    option_and_then (λ k. slice_index_or places k None) (place_among members a)

-- the records by the numbers of so many interactions
abbrev pub spread : List InterId → List (Option OpenRecord) → ℕ → List (Option OpenRecord)
spread members places count = map (record_at members places) (range_with_len 0 count)
