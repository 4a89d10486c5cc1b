-- What it means that a list is a merge of several, and that waiting grants are drained into the
-- book: laws that a reviewer reads.
use Rattle.std.specs.Prelude.{◌≡◌, ◌⊎◌, ℕ, suc, ◌+◌, Bool, List, [], ◌∷◌, ◌++◌, Some, ⊤, All}
use Rattle.std.specs.Prelude.{length, slice_get}
use Rattle.std.specs.List.{count_by, sum_by}
use Rattle.bip_host.specs.Books.{IsKeptOf, SharedContent}
use Rattle.bip_host.specs.Keepers.{IsEntryOf}
use Rattle.bip_host.specs.Merges.{IsMerge}
use Rattle.bip_host.specs.Waiting.{IsDrained, NobodyHas, Queued, WaitsAt}
use Rattle.bip_host.specs.declared.books.Entry.{Entry}
use Rattle.bip_host.specs.declared.places.Place.TheVariants.{Entered}
use Rattle.bip_host.specs.declared.places.Place.{Place}
use Rattle.bip_model.specs.declared.grants.Grant.{Grant}

module _ {M : Type 0} where
  -- a list stands in another one, in its order
  abbrev pub StandsIn : List M → List M → Type 0
  StandsIn [] ys = ⊤
  StandsIn (x ∷ xs) [] = ⊥
  StandsIn (x ∷ xs) (y ∷ ys) = ((x ≡ y) × StandsIn xs ys) ⊎ StandsIn (x ∷ xs) ys

-- each of the lists stands in their merge, in its order
abbrev pub MergesKeepOrder : (M : Type 0) → Type 0
MergesKeepOrder M =
    (whole : List M) (lists : List (List M)) → IsMerge whole lists
    → All (λ l. StandsIn l whole) lists

-- and the merge has each item just as often as all of them together: nothing else, nothing twice
abbrev pub MergesAddNothing : (M : Type 0) → Type 0
MergesAddNothing M =
    (whole : List M) (lists : List (List M)) → IsMerge whole lists → (test : M → Bool)
    → count_by test whole ≡ sum_by (λ l. count_by test l) lists

-- grants waited with these serials: the first with n, each other with the next one
abbrev pub WaitedFrom : List Place → ℕ → List Grant → Type 0
WaitedFrom places n [] = ⊤
WaitedFrom places n (g ∷ gs) = ((k : ℕ) × WaitsAt places k n g) × WaitedFrom places (suc n) gs

-- the book has more grants at its end, which waited with the serials from the next one on, none
-- skipped; and the next one isn't there now, or the book didn't take it
pub record Drains (w x : Queued) : Type 0 where
  pub more : List Grant
  pub waited : WaitedFrom w.places w.next more
  pub next : x.next ≡ w.next + length more
  pub book : SharedContent
  pub grants : book ≡ record w.book {
    book = record w.book.book { grants = w.book.book.grants ++ more };
  }
  pub end : (NobodyHas x.places x.next × (x.book ≡ book))
      ⊎ ((k : ℕ) × (g : Grant) × WaitsAt x.places k x.next g × IsKeptOf book g x.book)

abbrev pub DrainsInOrder : Type 0
DrainsInOrder = (w x : Queued) → IsDrained w x → Drains w x

-- an entry that is found where a grant waited is of that grant
abbrev pub EntryIsOwn : Type 0
EntryIsOwn =
    (w x : Queued) (k n : ℕ) (g : Grant) (entry : Entry) → IsDrained w x → WaitsAt w.places k n g
    → slice_get x.places k ≡ Some (Entered entry) → IsEntryOf g entry
