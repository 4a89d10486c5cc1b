-- What is put by outlets.
use Rattle.std.specs.Prelude.{◌≡◌, ◌≢◌, ℕ, ◌<◌, ◌++◌, [], ◌∷◌, List, None, Option, Some, map}
use Rattle.std.specs.Prelude.{slice_get, slice_set}
use Rattle.bip_host.specs.Posting.{put_by}
use Rattle.bip_host.specs.declared.counts.Posted.{Posted}
use Rattle.bip_host.specs.declared.counts.Posted.TheVariants.{Lost, Sent}
use Rattle.bip_host.specs.declared.addressed.Numbered.{Numbered}

module _ {M : Type 0} where
  -- what each of several outlets has put, with its number
  abbrev pub puts_of : Numbered M → ℕ × List M
  puts_of o = (o.number, put_by o.outlet.writer)

  -- the outlet at a place has put a message, the last one so far; it is one with this number, and
  -- all others are as they were
  abbrev pub IsPutFor : ℕ → ℕ → M → List (Numbered M) → List (Numbered M) → Type 0
  IsPutFor k number message old new =
      (before after : Numbered M) × (slice_get old k ≡ Some before) × (before.number ≡ number)
      × (puts_of after ≡ (number, put_by before.outlet.writer ++ message ∷ []))
      × (new ≡ slice_set old k after)

  -- each outlet has put what it had
  abbrev pub IsKeptPut : List (Numbered M) → List (Numbered M) → Type 0
  IsKeptPut old new = map puts_of new ≡ map puts_of old

  -- a message was put for whom has this number, or lost
  abbrev pub IsPostedTo : ℕ → M → List (Numbered M) → Posted → List (Numbered M) → Type 0
  IsPostedTo number message old Sent new = (k : ℕ) × IsPutFor k number message old new
  IsPostedTo number message old Lost new = IsKeptPut old new

  -- a message was put for whom has this number, or came back
  abbrev pub IsPutOrBack : ℕ → M → List (Numbered M) → Option M → List (Numbered M) → Type 0
  IsPutOrBack number message old None new = (k : ℕ) × IsPutFor k number message old new
  IsPutOrBack number message old (Some back) new = (back ≡ message) × IsKeptPut old new

  -- none of so many outlets has this number
  abbrev pub LacksNumber : ℕ → List (Numbered M) → ℕ → Type 0
  LacksNumber number outlets count =
      (k : ℕ) (o : Numbered M) → k < count → slice_get outlets k ≡ Some o → o.number ≢ number
