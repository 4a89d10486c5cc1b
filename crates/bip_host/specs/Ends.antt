-- The ends of inboxes, each with its inbox.
use Rattle.std.specs.Prelude.{◌≡◌, ℕ, List, Some, slice_get}
use Rattle.bip_host.specs.declared.ends.Intake.{Intake}
use Rattle.bip_host.specs.declared.inboxes.Inbox.{Inbox}

module _ {M : Type 0} where
  -- the readers of these inboxes, each at the place of its own
  abbrev pub AreIntakesOf : List (Inbox M) → List (Intake M) → Type 0
  AreIntakesOf inboxes intakes =
      (k : ℕ) (t : Intake M) → slice_get intakes k ≡ Some t
      → slice_get inboxes k ≡ Some t.inbox.now
