-- Ends that stand at the places of their inboxes.
use Rattle.std.proofs.Common.{ℕ, zero, suc, ◌<◌, List, [], ◌∷◌, ◌++◌, length, drop, arith}
use Rattle.std.specs.Prelude.{slice_index_or}
use Rattle.bip_host.specs.Mailboxes.{AreEndsOf, AreEndsOfEach}
use Rattle.bip_host.specs.declared.inboxes.Inbox.{Inbox}
use Rattle.bip_host.specs.declared.mailboxes.LooseEnds.{LooseEnds}

module _ {M : Type 0} where
  -- one more inbox, with its ends
  pub ends_push : (is : List (Inbox M)) (es : List (LooseEnds M)) (i : Inbox M) (e : LooseEnds M)
      → AreEndsOfEach is es → AreEndsOf i e → AreEndsOfEach (is ++ i ∷ []) (es ++ e ∷ [])
  ends_push [] [] i e each one = (one, tt)
  ends_push [] (f ∷ es) i e each one = absurd each
  ends_push (j ∷ is) [] i e each one = absurd each
  ends_push (j ∷ is) (f ∷ es) i e each one = (each.0, ends_push is es i e each.1 one)

  -- the first of the ends that are left are those of the inbox at this place
  pub ends_next : (is : List (Inbox M)) (k : ℕ) (e : LooseEnds M) (es : List (LooseEnds M))
      → AreEndsOfEach (drop k is) (e ∷ es)
      → (k < length is) × ((i : Inbox M) → AreEndsOf (slice_index_or is k i) e)
      × AreEndsOfEach (drop (suc k) is) es
  ends_next [] zero e es each = absurd each
  ends_next [] (suc k) e es each = absurd each
  ends_next (j ∷ is) zero e es each = (omega arith, (λ i. each.0), each.1)
  ends_next (j ∷ is) (suc k) e es each =
      let rest = ends_next is k e es each in
      (omega arith, rest.1, rest.2)
