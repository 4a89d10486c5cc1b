-- Grants that wait beside the book for those with lower serials.
use Rattle.std.specs.Prelude.{◌≡◌, ℕ, ◌+◌, ◌≤◌, ◌^◌, List, [], ◌∷◌, ◌++◌, Some, ⊤}
use Rattle.std.specs.Prelude.{slice_get, slice_set}
use Rattle.bip_host.specs.Books.{IsKeptOf, SharedContent}
use Rattle.bip_host.specs.Keepers.{IsEntryOf}
use Rattle.bip_host.specs.declared.books.Entry.{Entry}
use Rattle.bip_host.specs.declared.places.Place.TheVariants.{Entered, Free, Waiting}
use Rattle.bip_host.specs.declared.places.Place.{Place}
use Rattle.bip_host.specs.declared.waiting.Outcome.TheVariants as outcome
use Rattle.bip_host.specs.declared.waiting.Outcome.{Outcome}
use Rattle.bip_model.specs.declared.grants.Grant.{Grant}

-- a book, the serial of the grant that it takes next, and the places beside it, by class
pub record Queued : Type 0 where
  pub book : SharedContent
  pub next : ℕ
  pub places : List Place

-- at a place a grant waits with this serial
abbrev pub WaitsAt : List Place → ℕ → ℕ → Grant → Type 0
WaitsAt places k n g = slice_get places k ≡ Some (Waiting n g)

-- no grant waits with this serial
abbrev pub NobodyHas : List Place → ℕ → Type 0
NobodyHas places n = (k : ℕ) (g : Grant) → ¬ WaitsAt places k n g

-- no grant that waits is before the next one, none is past 2^63, and no two have one serial
pub record WaitInOrder (next : ℕ) (places : List Place) : Type 0 where
  pub ahead : (k n : ℕ) (g : Grant) → WaitsAt places k n g → next ≤ n
  pub small : (k n : ℕ) (g : Grant) → WaitsAt places k n g → n ≤ 2 ^ 63
  pub apart : (j k n : ℕ) (g h : Grant) → WaitsAt places j n g → WaitsAt places k n h → j ≡ k

-- a grant with this serial can be laid at a place: this is free, the book isn't past the serial,
-- and no other grant waits with it
pub record CanBeLaid (w : Queued) (k n : ℕ) : Type 0 where
  pub free : slice_get w.places k ≡ Some Free
  pub ahead : w.next ≤ n
  pub other : NobodyHas w.places n

-- with a grant laid at a place
abbrev pub laid : ℕ → ℕ → Grant → Queued → Queued
laid k n g w = record w { places = slice_set w.places k (Waiting n g) }

-- the grant with the next serial waited at some place, and is the book's last one now
pub record IsEntered (w v : Queued) : Type 0 where
  pub place : ℕ
  pub grant : Grant
  pub entry : Entry
  pub waits : WaitsAt w.places place w.next grant
  pub of_grant : IsEntryOf grant entry
  pub is : v ≡ record {
    book = record w.book {
      book = record w.book.book { grants = w.book.book.grants ++ grant ∷ [] };
    };
    next = w.next + 1;
    places = slice_set w.places place (Entered entry);
  }

-- nothing is appended: the grant with the next serial isn't there, or the book doesn't take it, and
-- keeps why; it stays at its place then
pub data IsStuck (w : Queued) : Queued → Type 0 where
  nobody : NobodyHas w.places w.next → IsStuck w w
  refused : (k : ℕ) (g : Grant) (b : SharedContent) → WaitsAt w.places k w.next g
      → IsKeptOf w.book g b → IsStuck w (record w { book = b })

-- grants are appended one after another, until nothing is
pub data IsDrained : Queued → Queued → Type 0 where
  enters : {w v x : Queued} → IsEntered w v → IsDrained v x → IsDrained w x
  ends : {w x : Queued} → IsStuck w x → IsDrained w x

-- a place's entry was taken, and it is free
pub record IsTaken (k : ℕ) (entry : Entry) (w v : Queued) : Type 0 where
  pub was : slice_get w.places k ≡ Some (Entered entry)
  pub is : v ≡ record w { places = slice_set w.places k Free }

-- there is no entry at a place
abbrev pub HasNoEntry : List Place → ℕ → Type 0
HasNoEntry places k = (entry : Entry) → ¬ (slice_get places k ≡ Some (Entered entry))

-- the grant that waits at a place is the next one
abbrev pub ComesNext : Queued → ℕ → Type 0
ComesNext w k = (g : Grant) × WaitsAt w.places k w.next g

-- what is found at a place behind a drain: an entry, which is taken; or none, and what waits there
-- isn't the next one; or is the next one, which the book didn't take
abbrev pub IsFound : ℕ → Outcome → Queued → Queued → Type 0
IsFound k (outcome.Entered entry) w v = IsTaken k entry w v
IsFound k outcome.Waits w v = HasNoEntry w.places k × (¬ ComesNext w k) × (v ≡ w)
IsFound k outcome.Refused w v = HasNoEntry w.places k × ComesNext w k × (v ≡ w)

-- all is appended that can be, and then this is found at a place
abbrev pub IsLookedFor : ℕ → Outcome → Queued → Queued → Type 0
IsLookedFor k found w v = (x : Queued) × IsDrained w x × IsFound k found x v

-- an entry is of this grant, where that is what has become of it
abbrev pub IsOutcomeOf : Grant → Outcome → Type 0
IsOutcomeOf g (outcome.Entered entry) = IsEntryOf g entry
IsOutcomeOf g outcome.Waits = ⊤
IsOutcomeOf g outcome.Refused = ⊤
