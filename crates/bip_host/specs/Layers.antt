-- Of whom a class asks.
use Rattle.std.specs.Prelude.{◌≡◌, ◌≢◌, ℕ, ◌<◌, Err, List, Ok, Some, length, slice_get, ⊤}
use Rattle.bip_host.specs.Addressed.{IsKeptPut, IsPutFor}
use Rattle.bip_host.specs.Keepers.{IsEntryOf}
use Rattle.bip_host.specs.Seats.{IsDrawnFrom}
use Rattle.bip_host.specs.declared.addressed.Numbered.{Numbered}
use Rattle.bip_host.specs.declared.classes.ClassAnswer.{ClassAnswer}
use Rattle.bip_host.specs.declared.classes.ClassAnswer.TheVariants as answers
use Rattle.bip_host.specs.declared.classes.Reserved.TheVariants.{Granted, Refused}
use Rattle.bip_host.specs.declared.counts.Posted.{Posted}
use Rattle.bip_host.specs.declared.counts.Posted.TheVariants.{Lost, Sent}
use Rattle.bip_host.specs.declared.layers.Layers.{Layers}
use Rattle.bip_host.specs.declared.layers.Layers.TheVariants as layers
use Rattle.bip_host.specs.declared.layers.ThirdLayer.{ThirdLayer}
use Rattle.bip_host.specs.declared.layers.ThirdLayer.TheVariants as layer
use Rattle.bip_host.specs.declared.layers.WordDesk.{WordDesk}
use Rattle.bip_host.specs.declared.messages.ToStation.{ToStation}
use Rattle.bip_host.specs.declared.messages.ToStation.TheVariants.{Asked}
use Rattle.bip_host.specs.declared.seats.Draw.TheVariants as draw
use Rattle.bip_host.specs.declared.seats.Draw.{Draw}
use Rattle.bip_host.specs.declared.waiting.Outcome.TheVariants as outcome
use Rattle.bip_host.specs.declared.waiting.Outcome.{Outcome}
use Rattle.bip_model.specs.declared.grants.Grant.{Grant}
use Rattle.bip_model.specs.declared.messages.Request.{Request}
use Rattle.bip_model.specs.declared.numbering.InterId.{InterId}
use Rattle.bip_table.specs.declared.faults.TableFault.TheVariants as fault
use Rattle.bip_words.specs.Knowledge.{nobody}

-- a request is put for the station that decides for its interaction, or lost
abbrev pub IsSentToStation : Request → List InterId → List (Numbered ToStation) → Posted
    → List (Numbered ToStation) → Type 0
IsSentToStation q stations old Sent new =
    (s k : ℕ) × (slice_get stations s ≡ Some q.inter) × IsPutFor k s (Asked q) old new
IsSentToStation q stations old Lost new = IsKeptPut old new

-- none of so many stations decides for an interaction
abbrev pub NoneDecides : InterId → List InterId → ℕ → Type 0
NoneDecides inter stations count =
    (k : ℕ) (a : InterId) → k < count → slice_get stations k ≡ Some a → a ≢ inter

-- the answer where a grant is laid beside the book: it stands there with this serial, by its own
-- entry; it waits, with this serial; or the book doesn't take it
abbrev pub IsLaidAnswer : ℕ → Grant → ClassAnswer → Type 0
IsLaidAnswer serial g (answers.Decided (Ok (Granted entry n))) = IsEntryOf g entry × (n ≡ serial)
IsLaidAnswer serial g (answers.Waits n) = n ≡ serial
IsLaidAnswer serial g (answers.Decided (Err why)) = why ≡ fault.NotKept
IsLaidAnswer serial g answer = ⊥

-- the answer to what is drawn: a grant is laid beside the book; else it is told as it is
abbrev pub IsDrawAnswer : Draw → ClassAnswer → Type 0
IsDrawAnswer (draw.Granted drawn) answer = IsLaidAnswer drawn.serial drawn.grant answer
IsDrawAnswer (draw.Used c used) answer = answer ≡ answers.Decided (Ok (Refused c used))
IsDrawAnswer (draw.Busy back) answer = answer ≡ answers.Busy back
IsDrawAnswer (draw.Unknown c) answer = answer ≡ answers.Decided (Err (fault.UnknownRow c))
IsDrawAnswer draw.TooGreat answer = answer ≡ answers.Decided (Err fault.Ended)

-- asking the word table: one attempt draws with the class's seat, and its answer is told
abbrev pub IsAskedByWords : Request → WordDesk → ClassAnswer → WordDesk → Type 0
IsAskedByWords q old answer new =
    (new.place ≡ old.place) × (new.seat.table.now ≡ old.seat.table.now)
    × ((drawn : Draw) × IsDrawnFrom old.seat.table.now q drawn old.seat.seat new.seat.seat
    × IsDrawAnswer drawn answer)

module _ {L : Type 0} where
  -- the third layer of a class is of this table, with the class's place; or of these stations
  abbrev pub IsLayerOf : Layers L → ℕ → ThirdLayer L → Type 0
  IsLayerOf (layers.Table lock passes) c (layer.Table desk) = desk.lock.now ≡ lock.now
  IsLayerOf (layers.Words seat) c (layer.Words desk) =
      (desk.place ≡ c) × (desk.seat.table.now ≡ seat.table.now) × (desk.seat.seat.knows ≡ nobody)
  IsLayerOf (layers.Stations stations) c (layer.Stations desk) =
      desk.stations.now ≡ stations.stations.now
  IsLayerOf made c layer = ⊥

  -- how many grants were drawn with it: as many as stand in the seat's own list
  abbrev pub drawn_with : ThirdLayer L → ℕ
  drawn_with (layer.Table desk) = 0
  drawn_with (layer.Words desk) = length desk.seat.seat.knows.grants
  drawn_with (layer.Stations desk) = 0

  -- what asking for a request does: one table decides at once; words are tried once; else the
  -- request is put for its station, or lost
  abbrev pub IsAskedFor : Request → ThirdLayer L → ClassAnswer → ThirdLayer L → Type 0
  IsAskedFor q (layer.Table old) (answers.Decided answer) (layer.Table new) = ⊤
  IsAskedFor q (layer.Words old) answer (layer.Words new) = IsAskedByWords q old answer new
  IsAskedFor q (layer.Stations old) (answers.Handed posted) (layer.Stations new) =
      IsSentToStation q old.stations.now old.outlets.outlets.items posted
      new.outlets.outlets.items
      × (new.stations.now ≡ old.stations.now)
  IsAskedFor q old answer new = ⊥

  -- what is found of a grant beside the book: with words alone there can be one
  abbrev pub IsSought : ThirdLayer L → Outcome → Type 0
  IsSought (layer.Table desk) found = found ≡ outcome.Refused
  IsSought (layer.Words desk) found = ⊤
  IsSought (layer.Stations desk) found = found ≡ outcome.Refused
