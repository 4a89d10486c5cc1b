-- What draining means.
use Rattle.std.proofs.Common.{rules, ◌≡◌, ℕ, zero, suc, List, [], ◌∷◌, append_assoc, Option, Some}
use Rattle.std.proofs.Common.{refl, sym, ap, ◌∙◌, subst, arith, inl, inr, slice_get, ⊎_elim}
use Rattle.std.proofs.lemmas.Grind.{common_steps}
use Rattle.std.specs.Prelude.{slice_set, ◌⊎◌}
use Rattle.bip_host.specs.Keepers.{IsEntryOf}
use Rattle.bip_host.specs.Laws.{Drains, DrainsInOrder, EntryIsOwn, WaitedFrom}
use Rattle.bip_host.specs.Waiting.{CanBeLaid, IsDrained, IsEntered, IsLookedFor, IsOutcomeOf}
use Rattle.bip_host.specs.Waiting.{Queued, WaitsAt, ends, enters, laid, nobody, refused}
use Rattle.bip_host.specs.declared.waiting.Outcome.TheVariants as outcome
use Rattle.bip_host.specs.declared.waiting.Outcome.{Outcome}
use Rattle.bip_host.specs.declared.books.Entry.{Entry}
use Rattle.bip_model.specs.declared.grants.Grant.{Grant}
use Rattle.bip_host.specs.declared.places.Place.TheVariants.{Entered, Free, Waiting}
use Rattle.bip_host.specs.declared.places.Place.{Place}
use Rattle.bip_host.proofs.WaitingLemmas.{entered_waits_not, got_written, waited}
use Rattle.std.proofs.lemmas.Option.{slice_get_within}

-- what waited with these serials once one entry was written waited so before
before : (xs : List Place) (k n : ℕ) (e : Entry) (gs : List Grant)
    → WaitedFrom (slice_set xs k (Entered e)) n gs → WaitedFrom xs n gs
before xs k n e [] all = tt
before xs k n e (g ∷ gs) all = (
  (
    all.0.0,
    waited xs k all.0.0 n g (Entered e) (entered_waits_not
        e) all.0.1,
  ),
  before xs k (suc n) e gs all.1,
)

pub drains_in_order : DrainsInOrder
drains_in_order w x (ends (nobody none)) = record {
  more = [];
  waited = tt;
  next = omega arith;
  book = w.book;
  grants = grind (arith, common_steps);
  end = inl (none, refl);
}
drains_in_order w x (ends (refused k g b stands kept)) = record {
  more = [];
  waited = tt;
  next = omega arith;
  book = w.book;
  grants = grind (arith, common_steps);
  end = inr (k, g, stands, kept);
}
drains_in_order w x (enters {v = v} is rest) = step w x v is (drains_in_order v x rest)
  where
    step : (w x v : Queued) → IsEntered w v → Drains v x → Drains w x
    step w x v is d = record {
      more = is.grant ∷ d.more;
      waited = (
        (is.place, is.waits),
        before w.places is.place (suc w.next) is.entry d.more
            (subst (λ (y : ℕ). WaitedFrom (slice_set w.places is.place (Entered is.entry)) y d.more)
            (omega arith)
            (subst (λ (y : Queued). WaitedFrom y.places y.next d.more) is.is d.waited)),
      );
      next = let n = ap (λ (y : Queued). y.next) is.is in let l = d.next in omega (arith, n, l);
      book = d.book;
      grants = d.grants ∙ rw is.is (ap (λ gs.
          record w.book { book = record w.book.book { grants = gs } })
          (append_assoc w.book.book.grants (is.grant ∷ []) d.more));
      end = d.end;
    }

-- where an entry is written, the others stay
others_stay : (xs : List Place) (k j : ℕ) (x : Place) → (j ≡ k → ⊥)
    → slice_get (slice_set xs k x) j ≡ slice_get xs j
others_stay [] k j x differs = refl
others_stay (y ∷ ys) zero zero x differs = absurd (differs refl)
others_stay (y ∷ ys) zero (suc j) x differs = refl
others_stay (y ∷ ys) (suc k) zero x differs = refl
others_stay (y ∷ ys) (suc k) (suc j) x differs = others_stay ys k j x (λ e. differs (ap suc e))

same_or_not : (j k : ℕ) → (j ≡ k) ⊎ (j ≡ k → ⊥)
same_or_not zero zero = inl refl
same_or_not zero (suc k) = inr (λ e. omega (arith, e))
same_or_not (suc j) zero = inr (λ e. omega (arith, e))
same_or_not (suc j) (suc k) = ⊎_elim (λ (e : j ≡ k). inl (ap suc e))
    (λ (ne : j ≡ k → ⊥). inr (λ e. ne (omega (arith, e)))) (same_or_not j k)

-- a place isn't both
not_both : {o : Option Place} {n : ℕ} {g : Grant} {e : Entry} → o ≡ Some (Waiting n g)
    → o ≡ Some (Entered e) → ⊥
not_both one two = cc

-- an entry that stands somewhere stays
entry_stays : (w x : Queued) (k : ℕ) (e : Entry) → IsDrained w x
    → slice_get w.places k ≡ Some (Entered e) → slice_get x.places k ≡ Some (Entered e)
entry_stays w x k e (ends (nobody none)) at = at
entry_stays w x k e (ends (refused j g b stands kept)) at = at
entry_stays w x k e (enters {v = v} is rest) at =
    entry_stays v x k e rest
    (subst (λ (y : Queued). slice_get y.places k ≡ Some (Entered e)) (sym is.is)
    (others_stay w.places is.place k (Entered is.entry)
    (λ (same : k ≡ is.place). not_both is.waits
    (subst (λ i. slice_get w.places i ≡ Some (Entered e)) same at)) ∙ at))

-- where the grant that waits is the one that is entered, its entry is what is found
entered_here : (w x v : Queued) (k n : ℕ) (g : Grant) (e : Entry) (is : IsEntered w v)
    → IsDrained v x → WaitsAt w.places k n g → slice_get x.places k ≡ Some (Entered e)
    → k ≡ is.place → IsEntryOf g e
entered_here w x v k n g e is rest stands at same =
    let placed : slice_get v.places is.place ≡ Some (Entered is.entry) =
    subst (λ (y : Queued). slice_get y.places is.place ≡ Some (Entered is.entry)) (sym is.is)
    (got_written w.places is.place (Entered is.entry)
    (slice_get_within w.places is.place (Waiting w.next is.grant) is.waits)) in
    let stays = entry_stays v x is.place is.entry rest placed in
    let now : slice_get x.places is.place ≡ Some (Entered e) =
    subst (λ i. slice_get x.places i ≡ Some (Entered e)) same at in
    let entry : is.entry ≡ e = search (rules, stays, now) in
    let here : WaitsAt w.places is.place n g = subst (λ i. WaitsAt w.places i n g) same stands in
    let waits : WaitsAt w.places is.place w.next is.grant = is.waits in
    let grant : is.grant ≡ g = search (rules, here, waits) in
    subst (λ (f : Entry). IsEntryOf g f) entry
    (subst (λ (h : Grant). IsEntryOf h is.entry) grant is.of_grant)

-- and else it still waits
waits_still : (w v : Queued) (k n : ℕ) (g : Grant) (is : IsEntered w v) → WaitsAt w.places k n g
    → (k ≡ is.place → ⊥) → WaitsAt v.places k n g
waits_still w v k n g is stands differs =
    subst (λ (y : Queued). WaitsAt y.places k n g) (sym is.is)
    (others_stay w.places is.place k (Entered is.entry) differs ∙ stands)

pub entry_is_own : EntryIsOwn
entry_is_own w x k n g e (ends (nobody none)) stands at = absurd (not_both stands at)
entry_is_own w x k n g e (ends (refused j h b there kept)) stands at = absurd (not_both stands at)
entry_is_own w x k n g e (enters {v = v} is rest) stands at =
    ⊎_elim (λ (same : k ≡ is.place). entered_here w x v k n g e is rest stands at same)
    (λ (differs : k ≡ is.place → ⊥). entry_is_own v x k n g e rest
    (waits_still w v k n g is stands differs) at)
    (same_or_not k is.place)

-- the entry that is found where a grant was laid is of that grant
pub own_outcome : (w v : Queued) (k n : ℕ) (g : Grant) (o : Outcome) → CanBeLaid w k n
    → IsLookedFor k o (laid k n g w) v → IsOutcomeOf g o
own_outcome w v k n g (outcome.Entered entry) can is =
    entry_is_own (laid k n g w) is.0 k n g entry is.1
    (got_written w.places k (Waiting n g) (slice_get_within w.places k Free can.free)) is.2.was
own_outcome w v k n g outcome.Waits can is = tt
own_outcome w v k n g outcome.Refused can is = tt
