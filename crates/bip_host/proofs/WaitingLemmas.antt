-- Places beside the locked book, of which one is written.
use Rattle.std.proofs.Common.{rules, ◌≡◌, ℕ, zero, suc, ◌+◌, ◌<◌, ◌≤◌, ◌^◌, List, [], ◌∷◌, length}
use Rattle.std.proofs.Common.{replicate, Some, refl, sym, ap, subst, arith, inl, inr, slice_get}
use Rattle.std.proofs.Common.{⊎_elim}
use Rattle.std.specs.Prelude.{slice_set, ◌⊎◌}
use Rattle.std.proofs.lemmas.Option.{slice_get_within}
use Rattle.bip_host.specs.Books.{IsKeptOf, SharedContent}
use Rattle.bip_host.specs.Waiting.{WaitInOrder, IsEntered, IsStuck, NobodyHas, Queued, WaitsAt}
use Rattle.bip_host.specs.Waiting.{refused}
use Rattle.bip_host.specs.declared.books.Entry.{Entry}
use Rattle.bip_model.specs.declared.grants.Grant.{Grant}
use Rattle.bip_host.specs.declared.places.Place.TheVariants.{Entered, Free, Waiting}
use Rattle.bip_host.specs.declared.places.Place.{Place}

-- nothing waits there
abbrev pub IsNoGrant : Place → Type 0
IsNoGrant x = (n : ℕ) (g : Grant) → x ≡ Waiting n g → ⊥

pub some_is : {x y : Place} → Some x ≡ Some y → x ≡ y
some_is is = search rules

pub free_waits_not : IsNoGrant Free
free_waits_not n g is = cc

pub entered_waits_not : (e : Entry) → IsNoGrant (Entered e)
entered_waits_not e n g is = cc

-- what is written stands there
pub got_written : (xs : List Place) (k : ℕ) (x : Place) → k < length xs
    → slice_get (slice_set xs k x) k ≡ Some x
got_written [] k x within = absurd (omega (arith, within))
got_written (y ∷ ys) zero x within = refl
got_written (y ∷ ys) (suc k) x within = got_written ys k x (omega (arith, within))

-- where something else than a grant is written, what waits then waited before
pub waited : (xs : List Place) (k j n : ℕ) (g : Grant) (x : Place) → IsNoGrant x
    → WaitsAt (slice_set xs k x) j n g → WaitsAt xs j n g
waited [] k j n g x bars at = at
waited (y ∷ ys) zero zero n g x bars at = absurd (bars n g (some_is at))
waited (y ∷ ys) zero (suc j) n g x bars at = at
waited (y ∷ ys) (suc k) zero n g x bars at = at
waited (y ∷ ys) (suc k) (suc j) n g x bars at = waited ys k j n g x bars at

-- and not there
pub elsewhere : (xs : List Place) (k j n : ℕ) (g : Grant) (x : Place) → IsNoGrant x → k < length xs
    → WaitsAt (slice_set xs k x) j n g → j ≡ k → ⊥
elsewhere xs k j n g x bars within at same =
    let here : WaitsAt (slice_set xs k x) k n g =
    subst (λ i. WaitsAt (slice_set xs k x) i n g) same at in
    let is : Some x ≡ Some (Waiting n g) = search (rules, here, got_written xs k x within) in
    bars n g (some_is is)

waiting_is : {m n : ℕ} {g h : Grant} → Some (Waiting m g) ≡ Some (Waiting n h) → m ≡ n
waiting_is is = search rules

-- where a grant is laid, what waits then waited before, or is that one
pub waited_or_laid : (xs : List Place) (k j m n : ℕ) (g h : Grant)
    → WaitsAt (slice_set xs k (Waiting m g)) j n h → WaitsAt xs j n h ⊎ ((j ≡ k) × (n ≡ m))
waited_or_laid [] k j m n g h at = inl at
waited_or_laid (y ∷ ys) zero zero m n g h at = inr (refl, sym (waiting_is at))
waited_or_laid (y ∷ ys) zero (suc j) m n g h at = inl at
waited_or_laid (y ∷ ys) (suc k) zero m n g h at = inl at
waited_or_laid (y ∷ ys) (suc k) (suc j) m n g h at =
    ⊎_elim (λ (old : WaitsAt ys j n h). inl old)
    (λ (new : (j ≡ k) × (n ≡ m)). inr (ap suc new.0, new.1)) (waited_or_laid ys k j m n g h at)

-- free places are in order
no_grant_first : (n k m : ℕ) (g : Grant) → WaitsAt (replicate n Free) k m g → ⊥
no_grant_first zero k m g at = cc
no_grant_first (suc n) zero m g at = cc
no_grant_first (suc n) (suc k) m g at = no_grant_first n k m g at

pub first_order : (n : ℕ) → WaitInOrder 0 (replicate n Free)
first_order n = record {
  ahead = λ k m g at. absurd (no_grant_first n k m g at);
  small = λ k m g at. absurd (no_grant_first n k m g at);
  apart = λ j k m g h at other. absurd (no_grant_first n j m g at);
}

-- a grant is laid
pub order_laid : (next : ℕ) (xs : List Place) (k n : ℕ) (g : Grant) → WaitInOrder next xs → next ≤ n
    → n ≤ 2 ^ 63 → NobodyHas xs n → WaitInOrder next (slice_set xs k (Waiting n g))
order_laid next xs k n g order ahead small alone = record {
  ahead = λ j m h at. ⊎_elim (λ (old : WaitsAt xs j m h). order.ahead j m h old)
      (λ (new : (j ≡ k) × (m ≡ n)). subst (λ i. next ≤ i) (sym new.1) ahead)
      (waited_or_laid xs k j n m g h at);
  small = λ j m h at. ⊎_elim (λ (old : WaitsAt xs j m h). order.small j m h old)
      (λ (new : (j ≡ k) × (m ≡ n)). subst (λ i. i ≤ 2 ^ 63) (sym new.1) small)
      (waited_or_laid xs k j n m g h at);
  apart = λ i j m f h at other. both i j m f h (waited_or_laid xs k i n m g f at)
      (waited_or_laid xs k j n m g h other);
}
  where
    both : (i j m : ℕ) (f h : Grant) → WaitsAt xs i m f ⊎ ((i ≡ k) × (m ≡ n)) → WaitsAt xs j m h
        ⊎ ((j ≡ k) × (m ≡ n)) → i ≡ j
    both i j m f h (inl one) (inl two) = order.apart i j m f h one two
    both i j m f h (inl one) (inr two) = absurd (alone i f
        (subst (λ s. WaitsAt xs i s f) two.1 one))
    both i j m f h (inr one) (inl two) = absurd (alone j h
        (subst (λ s. WaitsAt xs j s h) one.1 two))
    both i j m f h (inr one) (inr two) = omega (arith, one.0, two.0)

-- the next grant is entered
pub order_entered : (next : ℕ) (xs : List Place) (k : ℕ) (g : Grant) (x : Place) → IsNoGrant x
    → WaitInOrder next xs → WaitsAt xs k next g → WaitInOrder (next + 1) (slice_set xs k x)
order_entered next xs k g x bars order stands = record {
  ahead = λ j m h at. above j m h at (order.ahead j m h (waited xs k j m h x bars at));
  small = λ j m h at. order.small j m h (waited xs k j m h x bars at);
  apart = λ i j m f h at other. order.apart i j m f h (waited xs k i m f x bars at)
      (waited xs k j m h x bars other);
}
  where
    differs : (j m : ℕ) (h : Grant) → WaitsAt (slice_set xs k x) j m h → m ≡ next → ⊥
    differs j m h at same =
        elsewhere xs k j m h x bars (slice_get_within xs k (Waiting next g) stands) at
        (order.apart j k next h g (subst (λ s. WaitsAt xs j s h) same (waited xs k j m h x bars at))
        stands)

    above : (j m : ℕ) (h : Grant) → WaitsAt (slice_set xs k x) j m h → next ≤ m → next + 1 ≤ m
    above j m h at low = let ne = differs j m h at in omega (arith, low, ne)

-- a place is freed
pub order_freed : (next : ℕ) (xs : List Place) (k : ℕ) (x : Place) → IsNoGrant x
    → WaitInOrder next xs → WaitInOrder next (slice_set xs k x)
order_freed next xs k x bars order = record {
  ahead = λ j m h at. order.ahead j m h (waited xs k j m h x bars at);
  small = λ j m h at. order.small j m h (waited xs k j m h x bars at);
  apart = λ i j m f h at other. order.apart i j m f h (waited xs k i m f x bars at)
      (waited xs k j m h x bars other);
}

-- how many grants wait
abbrev pub waits_one : Place → ℕ
waits_one Free = 0
waits_one (Waiting n g) = 1
waits_one (Entered e) = 0

abbrev pub waiting_count : List Place → ℕ
waiting_count [] = 0
waiting_count (x ∷ xs) = waits_one x + waiting_count xs

-- one fewer once an entry stands in its place
pub fewer : (xs : List Place) (k n : ℕ) (g : Grant) (e : Entry) → WaitsAt xs k n g
    → waiting_count (slice_set xs k (Entered e)) < waiting_count xs
fewer [] k n g e at = cc
fewer (y ∷ ys) zero n g e at =
    let is : y ≡ Waiting n g = some_is at in
    let more : 0 + waiting_count ys < 1 + waiting_count ys = omega arith in
    subst (λ (z : Place). 0 + waiting_count ys < waits_one z + waiting_count ys) (sym is) more
fewer (y ∷ ys) (suc k) n g e at = let more = fewer ys k n g e at in omega (arith, more)

pub fewer_entered : (w v : Queued) → IsEntered w v → waiting_count v.places < waiting_count w.places
fewer_entered w v is = subst (λ x. waiting_count x.places < waiting_count w.places) (sym is.is)
    (fewer w.places is.place w.next is.grant is.entry is.waits)

-- the book doesn't take the next grant
pub stuck_at : (w : Queued) (b c : SharedContent) (n k : ℕ) (ps : List Place) (g : Grant)
    → record { book = b; next = n; places = ps } ≡ w → WaitsAt ps k n g → IsKeptOf b g c
    → IsStuck w (record { book = c; next = n; places = ps })
stuck_at w b c n k ps g is stands kept =
    subst (λ (x : Queued). IsStuck x (record { book = c; next = n; places = ps })) is
    (refused k g c stands kept)
