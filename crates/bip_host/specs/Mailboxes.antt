-- Inboxes and their ends.
use Rattle.std.specs.Prelude.{◌≡◌, ℕ, All, List, Some, [], ◌∷◌, slice_get, ⊤}
use Rattle.bip_host.specs.Posting.{IsReaderOf, IsWriterOf}
use Rattle.bip_host.specs.declared.inboxes.Inbox.{Inbox}
use Rattle.bip_host.specs.declared.inboxes.Writer.{Writer}
use Rattle.bip_host.specs.declared.mailboxes.LooseEnds.{LooseEnds}

module _ {M : Type 0} where
  -- ends of this inbox
  abbrev pub AreEndsOf : Inbox M → LooseEnds M → Type 0
  AreEndsOf inbox ends = All (IsWriterOf inbox) ends.writers.items × IsReaderOf inbox ends.reader

  -- ends of these inboxes, each of the one at its place
  abbrev pub AreEndsOfEach : List (Inbox M) → List (LooseEnds M) → Type 0
  AreEndsOfEach [] [] = ⊤
  AreEndsOfEach [] (e ∷ es) = ⊥
  AreEndsOfEach (i ∷ is) [] = ⊥
  AreEndsOfEach (i ∷ is) (e ∷ es) = AreEndsOf i e × AreEndsOfEach is es

  -- writers of these inboxes, those at a place of the inbox there
  abbrev pub AreWritersAt : {V : Type 0} → (V → List (Writer M)) → List (Inbox M) → List V → Type 0
  AreWritersAt {V} those inboxes writers =
      (k : ℕ) (ws : V) → slice_get writers k ≡ Some ws
      → (i : Inbox M) → slice_get inboxes k ≡ Some i → All (IsWriterOf i) (those ws)
