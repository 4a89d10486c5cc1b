-- What a station shares with each one, where only what it shares is listed.
use Rattle.std.proofs.Common.{◌≡◌, ◌≢◌, ℕ, zero, suc, ◌+◌, ◌<◌, ◌≤◌, List, [], ◌∷◌, ◌++◌, map}
use Rattle.std.proofs.Common.{get_or, set, length, refl, sym, ap, ◌∙◌, subst, inl, inr, arith}
use Rattle.std.specs.Prelude.{◌↔◌, ◌⊎◌, max, All, Bool, Err, IfErr, IfNone, IfSome, None, Ok, OnOk}
use Rattle.std.specs.Prelude.{Option, Result, Some, false, true}
use Rattle.std.proofs.lemmas.Bool.{cases_lt, false≢true}
use Rattle.std.proofs.lemmas.Bool.Decides.{eqb_tells}
use Rattle.std.proofs.lemmas.List.{get_or_default, set-get_or}
use Rattle.bip_table.specs.declared.rows.Row.{Row}
use Rattle.bip_bank.specs.declared.idleness.WhyIdle.TheVariants.{ForkClean, ForkElsewhere, ForkHere}
use Rattle.bip_bank.specs.declared.idleness.WhyIdle.TheVariants.{NoFork, NoRequestToken}
use Rattle.bip_bank.specs.declared.idleness.WhyIdle.TheVariants.{NotAskedFor}
use Rattle.bip_forks.specs.Sides.{AreByNumber, ArePassed, IsFirstListed, IsListedWith}
use Rattle.bip_forks.specs.Sides.{KeepsForkSomehow, KeepsTokenSomehow}
use Rattle.bip_forks.specs.Exchanges.{StaysSomehow}
use Rattle.bip_forks.specs.declared.exchanges.Exchange.{Exchange}
use Rattle.bip_forks.specs.declared.exchanges.Exchange.TheVariants as exchange
use Rattle.bip_forks.specs.Sides.{IsNextNeighbour, LacksFork, listed_at, listed_sides}
use Rattle.bip_forks.specs.Sides.{nobody_shared}
use Rattle.bip_forks.specs.Sides.{side_among, sides_from, with_other_side}
use Rattle.bip_forks.specs.Stations.{AllLie, LiesHere, MayAsk, MayPass, nothing_shared}
use Rattle.bip_forks.specs.Stations.{rows_here, rows_in}
use Rattle.bip_forks.specs.declared.shares.Fork.{Fork}
use Rattle.bip_forks.specs.declared.shares.Side.{Side}
use Rattle.bip_forks.specs.declared.sides.Shared.{Shared}

pub length-sides_from : (count at : ℕ) (xs : List Shared) → length (sides_from count at xs) ≡ count
length-sides_from zero at xs = refl
length-sides_from (suc count) at [] = ap suc (length-sides_from count (suc at) [])
length-sides_from (suc count) at (x ∷ xs) = elim (eqb_tells x.with.0 at) [
  | inl here ↦ rw here.0 (ap suc (length-sides_from count (suc at) xs))
  | inr gap ↦ rw gap.0 (ap suc (length-sides_from count (suc at) (x ∷ xs)))
]

-- what is listed is within its bounds, and in order from any lower number on
pub order_within : (from below : ℕ) (xs : List Shared) (k : ℕ) → AreByNumber from below xs
    → k < length xs → (from ≤ (listed_at xs k).with.0) × ((listed_at xs k).with.0 < below)
order_within from below [] k order within = absurd (omega arith)
order_within from below (x ∷ xs) zero order within = (order.0, order.1)
order_within from below (x ∷ xs) (suc k) order within =
    let rest = order_within (suc x.with.0) below xs k order.2 (omega arith) in
    (omega (arith, order.0, rest.0), rest.1)

order_later : (from at below : ℕ) (xs : List Shared) → AreByNumber from below xs → from ≡ at
    → AreByNumber at below xs
order_later from at below xs order same = subst (λ (n : ℕ). AreByNumber n below xs) same order

-- past a gap, and past what is listed
past_gap : (at below : ℕ) (x : Shared) (xs : List Shared) → AreByNumber at below (x ∷ xs)
    → x.with.0 ≢ at → AreByNumber (suc at) below (x ∷ xs)
past_gap at below x xs order gap = (omega (arith, order.0), order.1, order.2)

past_one : (at below : ℕ) (x : Shared) (xs : List Shared) → AreByNumber at below (x ∷ xs)
    → x.with.0 ≡ at → AreByNumber (suc at) below xs
past_one at below x xs order here = order_later (suc x.with.0) (suc at) below xs order.2
    (ap suc here)

-- the side at a listed number is what is listed there
pub side_listed : (count at below : ℕ) (xs : List Shared) (t k : ℕ) (d : Side)
    → below ≡ at + count → AreByNumber at below xs → k < length xs
    → at + t ≡ (listed_at xs k).with.0
    → get_or (sides_from count at xs) t d ≡ (listed_at xs k).side
side_listed zero at below xs t k d all order within is =
    let bounds = order_within at below xs k order within in
    absurd (omega (arith, all, bounds.0, bounds.1))
side_listed (suc count) at below [] t k d all order within is = absurd (omega (arith, within))
side_listed (suc count) at below (x ∷ xs) zero zero d all order within is =
    elim (eqb_tells x.with.0 at) [
      | inl here ↦ rw here.0 refl
      | inr gap ↦ absurd (gap.1 (omega (arith, is)))
    ]
side_listed (suc count) at below (x ∷ xs) zero (suc k) d all order within is =
    let bounds = order_within (suc x.with.0) below xs k order.2 (omega (arith, within)) in
    absurd (omega (arith, bounds.0, order.0, is))
side_listed (suc count) at below (x ∷ xs) (suc t) zero d all order within is =
    elim (eqb_tells x.with.0 at) [
      | inl here ↦ absurd (omega (arith, is, here.1))
      | inr gap ↦ rw gap.0 (side_listed count (suc at) below (x ∷ xs) t zero d (omega (arith, all))
          (past_gap at below x xs order gap.1) within (omega (arith, is)))
    ]
side_listed (suc count) at below (x ∷ xs) (suc t) (suc k) d all order within is =
    elim (eqb_tells x.with.0 at) [
      | inl here ↦ rw here.0 (side_listed count (suc at) below xs t k d (omega (arith, all))
          (past_one at below x xs order here.1) (omega (arith, within)) (omega (arith, is)))
      | inr gap ↦ rw gap.0 (side_listed count (suc at) below (x ∷ xs) t (suc k) d
          (omega (arith, all)) (past_gap at below x xs order gap.1) within (omega (arith, is)))
    ]

-- and else nothing
pub side_unlisted : (count at : ℕ) (xs : List Shared) (t : ℕ)
    → ((k : ℕ) → k < length xs → (listed_at xs k).with.0 ≡ at + t → ⊥)
    → get_or (sides_from count at xs) t nothing_shared ≡ nothing_shared
side_unlisted zero at xs t none = refl
side_unlisted (suc count) at [] zero none = refl
side_unlisted (suc count) at [] (suc t) none =
    side_unlisted count (suc at) [] t (λ k within is. omega (arith, within))
side_unlisted (suc count) at (x ∷ xs) zero none = elim (eqb_tells x.with.0 at) [
  | inl here ↦ absurd (none zero (omega arith) (omega (arith, here.1)))
  | inr gap ↦ rw gap.0 refl
]
side_unlisted (suc count) at (x ∷ xs) (suc t) none = elim (eqb_tells x.with.0 at) [
  | inl here ↦ rw here.0 (side_unlisted count (suc at) xs t
      (λ k within is. none (suc k) (omega (arith, within)) (omega (arith, is))))
  | inr gap ↦ rw gap.0 (side_unlisted count (suc at) (x ∷ xs) t
      (λ k within is. none k within (omega (arith, is))))
]

-- another side in place of a listed one
pub side_replaced : (count at below : ℕ) (xs : List Shared) (t k : ℕ) (y : Side)
    → below ≡ at + count → AreByNumber at below xs → k < length xs
    → at + t ≡ (listed_at xs k).with.0
    → sides_from count at (set xs k (with_other_side y (listed_at xs k)))
    ≡ set (sides_from count at xs) t y
side_replaced zero at below xs t k y all order within is =
    let bounds = order_within at below xs k order within in
    absurd (omega (arith, all, bounds.0, bounds.1))
side_replaced (suc count) at below [] t k y all order within is = absurd (omega (arith, within))
side_replaced (suc count) at below (x ∷ xs) zero zero y all order within is =
    elim (eqb_tells x.with.0 at) [
      | inl here ↦ rw here.0 refl
      | inr gap ↦ absurd (gap.1 (omega (arith, is)))
    ]
side_replaced (suc count) at below (x ∷ xs) zero (suc k) y all order within is =
    let bounds = order_within (suc x.with.0) below xs k order.2 (omega (arith, within)) in
    absurd (omega (arith, bounds.0, order.0, is))
side_replaced (suc count) at below (x ∷ xs) (suc t) zero y all order within is =
    elim (eqb_tells x.with.0 at) [
      | inl here ↦ absurd (omega (arith, is, here.1))
      | inr gap ↦ rw gap.0 (ap (λ (zs : List Side). nothing_shared ∷ zs)
          (side_replaced count (suc at) below (x ∷ xs) t zero y (omega (arith, all))
          (past_gap at below x xs order gap.1) within (omega (arith, is))))
    ]
side_replaced (suc count) at below (x ∷ xs) (suc t) (suc k) y all order within is =
    elim (eqb_tells x.with.0 at) [
      | inl here ↦ rw here.0 (ap (λ (zs : List Side). x.side ∷ zs)
          (side_replaced count (suc at) below xs t k y (omega (arith, all))
          (past_one at below x xs order here.1) (omega (arith, within)) (omega (arith, is))))
      | inr gap ↦ rw gap.0 (ap (λ (zs : List Side). nothing_shared ∷ zs)
          (side_replaced count (suc at) below (x ∷ xs) t (suc k) y (omega (arith, all))
          (past_gap at below x xs order gap.1) within (omega (arith, is))))
    ]

pub order_replaced : (from below : ℕ) (xs : List Shared) (k : ℕ) (y : Side)
    → AreByNumber from below xs
    → AreByNumber from below (set xs k (with_other_side y (listed_at xs k)))
order_replaced from below [] k y order = order
order_replaced from below (x ∷ xs) zero y order = order
order_replaced from below (x ∷ xs) (suc k) y order =
    (order.0, order.1, order_replaced (suc x.with.0) below xs k y order.2)

-- each side changed
pub sides_mapped : (f : Side → Side) (count at : ℕ) (xs : List Shared)
    → f nothing_shared ≡ nothing_shared
    → sides_from count at (map (λ (x : Shared). with_other_side (f x.side) x) xs)
    ≡ map f (sides_from count at xs)
sides_mapped f zero at xs none = refl
sides_mapped f (suc count) at [] none =
    rw none (ap (λ (zs : List Side). nothing_shared ∷ zs) (sides_mapped f count (suc at) [] none))
sides_mapped f (suc count) at (x ∷ xs) none = elim (eqb_tells x.with.0 at) [
  | inl here ↦ rw here.0
      (ap (λ (zs : List Side). f x.side ∷ zs) (sides_mapped f count (suc at) xs none))
  | inr gap ↦ rw (gap.0, none)
      (ap (λ (zs : List Side). nothing_shared ∷ zs) (sides_mapped f count (suc at) (x ∷ xs) none))
]

pub order_mapped : (f : Side → Side) (from below : ℕ) (xs : List Shared)
    → AreByNumber from below xs
    → AreByNumber from below (map (λ (x : Shared). with_other_side (f x.side) x) xs)
order_mapped f from below [] order = order
order_mapped f from below (x ∷ xs) order =
    (order.0, order.1, order_mapped f (suc x.with.0) below xs order.2)

-- one station more: with something shared, and with nothing
pub side_added : (count at below : ℕ) (xs : List Shared) (x : Shared) → below ≡ at + count
    → AreByNumber at below xs → x.with.0 ≡ below
    → sides_from (suc count) at (xs ++ x ∷ []) ≡ sides_from count at xs ++ x.side ∷ []
side_added zero at below [] x all order is = elim (eqb_tells x.with.0 at) [
  | inl here ↦ rw here.0 refl
  | inr gap ↦ absurd (gap.1 (omega (arith, is, all)))
]
side_added zero at below (y ∷ ys) x all order is = absurd (omega (arith, order.0, order.1))
side_added (suc count) at below [] x all order is = elim (eqb_tells x.with.0 at) [
  | inl here ↦ absurd (omega (arith, is, all, here.1))
  | inr gap ↦ rw gap.0 (ap (λ (zs : List Side). nothing_shared ∷ zs)
      (side_added count (suc at) below [] x (omega (arith, all)) (omega (arith, all)) is))
]
side_added (suc count) at below (y ∷ ys) x all order is = elim (eqb_tells y.with.0 at) [
  | inl here ↦ rw here.0 (ap (λ (zs : List Side). y.side ∷ zs)
      (side_added count (suc at) below ys x (omega (arith, all))
      (past_one at below y ys order here.1) is))
  | inr gap ↦ rw gap.0 (ap (λ (zs : List Side). nothing_shared ∷ zs)
      (side_added count (suc at) below (y ∷ ys) x (omega (arith, all))
      (past_gap at below y ys order gap.1) is))
]

pub none_added : (count at below : ℕ) (xs : List Shared) → below ≡ at + count
    → AreByNumber at below xs
    → sides_from (suc count) at xs ≡ sides_from count at xs ++ nothing_shared ∷ []
none_added zero at below [] all order = refl
none_added zero at below (y ∷ ys) all order = absurd (omega (arith, order.0, order.1))
none_added (suc count) at below [] all order = ap (λ (zs : List Side). nothing_shared ∷ zs)
    (none_added count (suc at) below [] (omega (arith, all)) (omega (arith, all)))
none_added (suc count) at below (y ∷ ys) all order = elim (eqb_tells y.with.0 at) [
  | inl here ↦ rw here.0 (ap (λ (zs : List Side). y.side ∷ zs)
      (none_added count (suc at) below ys (omega (arith, all))
      (past_one at below y ys order here.1)))
  | inr gap ↦ rw gap.0 (ap (λ (zs : List Side). nothing_shared ∷ zs)
      (none_added count (suc at) below (y ∷ ys) (omega (arith, all))
      (past_gap at below y ys order gap.1)))
]

pub order_more : (from below : ℕ) (xs : List Shared) → AreByNumber from below xs
    → AreByNumber from (suc below) xs
order_more from below [] order = omega (arith, order)
order_more from below (x ∷ xs) order =
    (order.0, omega (arith, order.1), order_more (suc x.with.0) below xs order.2)

pub order_added : (from below : ℕ) (xs : List Shared) (x : Shared) → AreByNumber from below xs
    → x.with.0 ≡ below → AreByNumber from (suc below) (xs ++ x ∷ [])
order_added from below [] x order is =
    (omega (arith, order, is), omega (arith, is), omega (arith, is))
order_added from below (y ∷ ys) x order is =
    (order.0, omega (arith, order.1), order_added (suc y.with.0) below ys x order.2 is)

-- the rows of what is listed are those of all
pub rows_listed : (count at below : ℕ) (xs : List Shared) → below ≡ at + count
    → AreByNumber at below xs → rows_here (sides_from count at xs) ≡ rows_here (listed_sides xs)
rows_listed zero at below [] all order = refl
rows_listed zero at below (x ∷ xs) all order = absurd (omega (arith, order.0, order.1))
rows_listed (suc count) at below [] all order =
    rows_listed count (suc at) below [] (omega (arith, all)) (omega (arith, all))
rows_listed (suc count) at below (x ∷ xs) all order = elim (eqb_tells x.with.0 at) [
  | inl here ↦ rw here.0 (ap (λ (rs : List Row). rows_in x.side.fork ++ rs)
      (rows_listed count (suc at) below xs (omega (arith, all))
      (past_one at below x xs order here.1)))
  | inr gap ↦ rw gap.0 (rows_listed count (suc at) below (x ∷ xs) (omega (arith, all))
      (past_gap at below x xs order gap.1))
]

-- a side that is listed
pub listed_side : (xs : List Shared) (k : ℕ) (x : Shared) → k < length xs → x ≡ get_or xs k x
    → (k < length (listed_sides xs)) × (x.side ≡ get_or (listed_sides xs) k x.side)
listed_side [] k x within at = absurd (omega (arith, within))
listed_side (y ∷ ys) zero x within at = (omega arith, ap (λ (z : Shared). z.side) at)
listed_side (y ∷ ys) (suc k) x within at =
    let rest = listed_side ys k x (omega (arith, within)) at in (omega (arith, rest.0), rest.1)

-- what holds of nothing shared holds of all sides just where it holds of those listed
pub all_from_listed : (P : Side → Type 0) (count at : ℕ) (xs : List Shared) → P nothing_shared
    → All (λ (x : Shared). P x.side) xs → (t : ℕ) (d : Side) → t < count
    → P (get_or (sides_from count at xs) t d)
all_from_listed P zero at xs none each t d within = absurd (omega arith)
all_from_listed P (suc count) at [] none each zero d within = none
all_from_listed P (suc count) at [] none each (suc t) d within =
    all_from_listed P count (suc at) [] none each t d (omega arith)
all_from_listed P (suc count) at (x ∷ xs) none each zero d within =
    elim (eqb_tells x.with.0 at) [
      | inl here ↦ rw here.0 (each zero x (omega arith))
      | inr gap ↦ rw gap.0 none
    ]
all_from_listed P (suc count) at (x ∷ xs) none each (suc t) d within =
    elim (eqb_tells x.with.0 at) [
      | inl here ↦ rw here.0 (all_from_listed P count (suc at) xs none
          (λ k e inside. each (suc k) e (omega (arith, inside))) t d (omega arith))
      | inr gap ↦ rw gap.0 (all_from_listed P count (suc at) (x ∷ xs) none each t d (omega arith))
    ]

-- what is shared with a station, by the place of its number in what is kept
pub record IsSideAt (count : ℕ) (xs : List Shared) (now : List Side) (t k : ℕ)
    (x : Shared) : Type 0 where
  pub read : x.side ≡ side_among now t
  pub order : (y : Side) → AreByNumber 0 count (set xs k (with_other_side y x))
  pub put : (y : Side) → sides_from count 0 (set xs k (with_other_side y x)) ≡ set now t y

pub side_at_place : (count : ℕ) (xs ys : List Shared) (now : List Side) (t k : ℕ) (x : Shared)
    → AreByNumber 0 count xs → sides_from count 0 xs ≡ now → ys ≡ xs → IsListedWith ys t k
    → x ≡ get_or xs k x → IsSideAt count xs now t k x
side_at_place count xs ys now t k x order view same here at = record {
  read = ap (λ (z : Shared). z.side) one ∙ (sym (side_listed count 0 count xs t k nothing_shared
      (omega arith) order within number) ∙ ap (λ (zs : List Side). side_among zs t) view);
  order = λ y. subst (λ (z : Shared). AreByNumber 0 count (set xs k (with_other_side y z)))
      (sym one)
      (order_replaced 0 count xs k y order);
  put = λ y. ap (λ (z : Shared). sides_from count 0 (set xs k (with_other_side y z))) one
      ∙ (side_replaced count 0 count xs t k y (omega arith) order within number
      ∙ ap (λ (zs : List Side). set zs t y) view);
}
  where
    within : k < length xs
    within = subst (λ (zs : List Shared). k < length zs) same here.0

    one : x ≡ listed_at xs k
    one = at ∙ get_or_default xs k x nobody_shared within

    number : 0 + t ≡ (listed_at xs k).with.0
    number = let e = subst (λ (zs : List Shared). (listed_at zs k).with.0 ≡ t) same here.1 in
        omega (arith, e)

pub nothing_at : (count : ℕ) (xs ys : List Shared) (now : List Side) (t : ℕ)
    → sides_from count 0 xs ≡ now → ys ≡ xs → ((k : ℕ) → IsListedWith ys t k → ⊥)
    → side_among now t ≡ nothing_shared
nothing_at count xs ys now t view same none = ap (λ (zs : List Side). side_among zs t) (sym view)
    ∙ side_unlisted count 0 xs t (λ k within is. none k
    (subst (λ (zs : List Shared). IsListedWith zs t k) (sym same) (within, omega (arith, is))))

-- another side where it changed, and all sides where it didn't
pub side_changed : (P : Side → Type 0) (f : Side → Side) (count : ℕ) (xs : List Shared)
    (now : List Side) (t k : ℕ) (x : Shared) (y : Side) → IsSideAt count xs now t k x
    → P x.side × (y ≡ f x.side) → P (side_among now t)
    × (sides_from count 0 (set xs k (with_other_side y x)) ≡ set now t (f (side_among now t)))
side_changed P f count xs now t k x y at did = (
  subst P at.read did.0,
  at.put y ∙ ap (λ (s : Side). set now t s) (did.1 ∙ ap f at.read),
)

pub side_kept : (P : Side → Type 0) (count : ℕ) (xs : List Shared) (now : List Side) (t k : ℕ)
    (x : Shared) (y : Side) → IsSideAt count xs now t k x → (y ≡ x.side) × P x.side
    → (sides_from count 0 (set xs k (with_other_side y x)) ≡ now) × P (side_among now t)
side_kept P count xs now t k x y at kept = (
  at.put y ∙ (ap (λ (s : Side). set now t s) (kept.0 ∙ at.read)
      ∙ set-get_or now t nothing_shared),
  subst P at.read kept.1,
)

-- all forks lie here just where those listed do
pub lie_as : (count : ℕ) (xs ys : List Shared) (now : List Side) → AreByNumber 0 count xs
    → sides_from count 0 xs ≡ now → ys ≡ xs → All (λ (x : Shared). LiesHere x.side) ys ↔ AllLie now
lie_as count xs ys now order view same = (
  λ each. subst AllLie view (λ t d within. all_from_listed LiesHere count 0 xs
      (λ shared. absurd (false≢true shared))
      (subst (All (λ (x : Shared). LiesHere x.side)) same each) t d
      (omega (arith, within, length-sides_from count 0 xs))),
  λ all. subst (All (λ (x : Shared). LiesHere x.side)) (sym same) (λ k d within.
      let one : get_or xs k d ≡ listed_at xs k = get_or_default xs k d nobody_shared within in
      let t = (listed_at xs k).with.0 in
      let bounds = order_within 0 count xs k order within in
      let side : get_or (sides_from count 0 xs) t nothing_shared ≡ (listed_at xs k).side =
      side_listed count 0 count xs t k nothing_shared (omega arith) order within (omega arith) in
      subst LiesHere (side ∙ ap (λ (z : Shared). z.side) (sym one))
      (subst AllLie (sym view) all t nothing_shared
      (omega (arith, bounds.1, length-sides_from count 0 xs)))),
)

-- a fork passed, and laid
pub side_passed : (count : ℕ) (xs : List Shared) (now : List Side) (t k : ℕ) (x : Shared) (y : Side)
    (r : Option Fork) → IsSideAt count xs now t k x
    → IfSome r (λ fork. MayPass x.side × (x.side.fork ≡ Some fork)
    × (y ≡ record x.side { fork = None }))
    → IfSome r (λ fork. MayPass (side_among now t) × ((side_among now t).fork ≡ Some fork)
    × (sides_from count 0 (set xs k (with_other_side y x))
    ≡ set now t (record (side_among now t) { fork = None })))
side_passed count xs now t k x y None at did = did
side_passed count xs now t k x y (Some fork) at did =
    let all = side_changed (λ (s : Side). MayPass s × (s.fork ≡ Some fork))
    (λ (s : Side). record s { fork = None }) count xs now t k x y at ((did.0, did.1), did.2) in
    (all.0.0, all.0.1, all.1)

pub side_unpassed : (count : ℕ) (xs : List Shared) (now : List Side) (t k : ℕ) (x : Shared)
    (y : Side) (r : Option Fork) → IsSideAt count xs now t k x
    → IfNone r ((y ≡ x.side) × (MayPass x.side → ⊥))
    → IfNone r ((sides_from count 0 (set xs k (with_other_side y x)) ≡ now)
    × (MayPass (side_among now t) → ⊥))
side_unpassed count xs now t k x y None at kept =
    side_kept (λ (s : Side). MayPass s → ⊥) count xs now t k x y at kept
side_unpassed count xs now t k x y (Some fork) at kept = kept

pub side_laid : (count : ℕ) (xs : List Shared) (now : List Side) (t k : ℕ) (x : Shared) (y : Side)
    (fork : Fork) (clean : Bool) (r : Result (Unit {0}) Fork) → IsSideAt count xs now t k x
    → OnOk r (LacksFork x.side × (y ≡ record x.side { fork = Some fork; clean = clean }))
    → OnOk r (LacksFork (side_among now t) × (sides_from count 0 (set xs k (with_other_side y x))
    ≡ set now t (record (side_among now t) { fork = Some fork; clean = clean })))
side_laid count xs now t k x y fork clean (Ok done) at did = side_changed LacksFork
    (λ (s : Side). record s { fork = Some fork; clean = clean }) count xs now t k x y at did
side_laid count xs now t k x y fork clean (Err back) at did = did

pub side_unlaid : (count : ℕ) (xs : List Shared) (now : List Side) (t k : ℕ) (x : Shared) (y : Side)
    (fork : Fork) (r : Result (Unit {0}) Fork) → IsSideAt count xs now t k x
    → IfErr r (λ refused. (refused ≡ fork) × (y ≡ x.side) × (LacksFork x.side → ⊥))
    → IfErr r (λ refused. (refused ≡ fork)
    × (sides_from count 0 (set xs k (with_other_side y x)) ≡ now)
    × (LacksFork (side_among now t) → ⊥))
side_unlaid count xs now t k x y fork (Ok done) at kept = kept
side_unlaid count xs now t k x y fork (Err back) at kept =
    let all = side_kept (λ (s : Side). LacksFork s → ⊥) count xs now t k x y at (kept.1, kept.2) in
    (kept.0, all.0, all.1)

-- the next station at which something holds
told_listed : (xs : List Shared) (t : ℕ)
    → ((k : ℕ) × IsListedWith xs t k) ⊎ ((k : ℕ) → IsListedWith xs t k → ⊥)
told_listed [] t = inr (λ k at. omega (arith, at.0))
told_listed (x ∷ xs) t = elim (eqb_tells x.with.0 t) [
  | inl here ↦ inl (zero, (omega arith, here.1))
  | inr other ↦ elim (told_listed xs t) [
    | inl later ↦ inl (suc later.0, (omega (arith, later.1.0), later.1.1))
    | inr none ↦ inr (nowhere other.1 none)
  ]
]
  where
    nowhere : x.with.0 ≢ t → ((k : ℕ) → IsListedWith xs t k → ⊥) → (k : ℕ)
        → IsListedWith (x ∷ xs) t k → ⊥
    nowhere other none zero at = other at.1
    nowhere other none (suc k) at = none k (omega (arith, at.0), at.1)

pub order_rises : (from below : ℕ) (xs : List Shared) (j k : ℕ) → AreByNumber from below xs → j ≤ k
    → k < length xs → (listed_at xs j).with.0 ≤ (listed_at xs k).with.0
order_rises from below [] j k order less within = absurd (omega (arith, within))
order_rises from below (x ∷ xs) zero zero order less within = omega arith
order_rises from below (x ∷ xs) zero (suc k) order less within =
    let rest = order_within (suc x.with.0) below xs k order.2 (omega (arith, within)) in
    omega (arith, rest.0)
order_rises from below (x ∷ xs) (suc j) zero order less within = absurd (omega (arith, less))
order_rises from below (x ∷ xs) (suc j) (suc k) order less within =
    order_rises (suc x.with.0) below xs j k order.2 (omega (arith, less)) (omega (arith, within))

-- what is known of what is listed below a number is known of all sides below it
passed_below : (Passed : Side → Type 0) (count : ℕ) (xs : List Shared) (from place next t : ℕ)
    → AreByNumber 0 count xs → Passed nothing_shared → ArePassed Passed xs from place
    → ((k : ℕ) → place ≤ k → k < length xs → next ≤ (listed_at xs k).with.0)
    → from ≤ t → t < next → Passed (side_among (sides_from count 0 xs) t)
passed_below Passed count xs from place next t order none passed later onward below =
    elim (told_listed xs t) [
      | inl listed ↦ subst Passed (sym (side_listed count 0 count xs t listed.0 nothing_shared
          (omega arith) order listed.1.0 (omega (arith, listed.1.1))))
          (passed listed.0 (before listed.0 listed.1) (omega (arith, onward, listed.1.1)))
      | inr nowhere ↦ subst Passed (sym (side_unlisted count 0 xs t
          (λ k within is. nowhere k (within, omega (arith, is))))) none
    ]
  where
    before : (k : ℕ) → IsListedWith xs t k → k < place
    before k at = elim (cases_lt k place) [
      | inl less ↦ less
      | inr past ↦
          let high = later k (omega (arith, past)) at.0 in
          absurd (omega (arith, high, below, at.1))
    ]

pub next_found : (Passed Holds : Side → Type 0) (count : ℕ) (xs ys : List Shared) (now : List Side)
    (from place : ℕ) (x : Shared) → AreByNumber 0 count xs → sides_from count 0 xs ≡ now → ys ≡ xs
    → Passed nothing_shared → IsFirstListed Passed Holds ys from place → x ≡ get_or xs place x
    → IsNextNeighbour (λ t. Passed (side_among now t)) (λ t. Holds (side_among now t)) (length now)
    from x.with.0
next_found Passed Holds count xs ys now from place x order view same none first' at =
    let first = subst (λ (zs : List Shared). IsFirstListed Passed Holds zs from place) same first'
    in
    let one : x ≡ listed_at xs place = at ∙ get_or_default xs place x nobody_shared first.within in
    let number : x.with.0 ≡ (listed_at xs place).with.0 = ap (λ (z : Shared). z.with.0) one in
    let bounds = order_within 0 count xs place order first.within in
    subst (λ (zs : List Side). IsNextNeighbour (λ t. Passed (side_among zs t))
    (λ t. Holds (side_among zs t)) (length zs) from x.with.0) view (record {
      onward = omega (arith, first.onward, number);
      passed = λ t onward below. passed_below Passed count xs from place x.with.0 t order none
          first.passed
          (λ k past within. let up = order_rises 0 count xs place k order past within in
          omega (arith, up, number)) onward below;
      found = inl (
        omega (arith, bounds.1, number, length-sides_from count 0 xs),
        subst Holds (sym (side_listed count 0 count xs x.with.0 place nothing_shared (omega arith)
            order first.within (omega (arith, number)))) first.found,
      );
    })

pub next_none : (Passed Holds : Side → Type 0) (count : ℕ) (xs ys : List Shared) (now : List Side)
    (from next : ℕ) → AreByNumber 0 count xs → sides_from count 0 xs ≡ now → ys ≡ xs
    → Passed nothing_shared → ArePassed Passed ys from (length ys) → next ≡ max from count
    → IsNextNeighbour (λ t. Passed (side_among now t)) (λ t. Holds (side_among now t)) (length now)
    from next
next_none Passed Holds count xs ys now from next order view same none passed' last =
    let passed = subst (λ (zs : List Shared). ArePassed Passed zs from (length zs)) same passed' in
    subst (λ (zs : List Side). IsNextNeighbour (λ t. Passed (side_among zs t))
    (λ t. Holds (side_among zs t)) (length zs) from next) view (record {
      onward = omega (arith, last);
      passed = λ t onward below. passed_below Passed count xs from (length xs) next t order none
          passed (λ k past within. absurd (omega (arith, past, within))) onward below;
      found = inr (last ∙ ap (max from) (sym (length-sides_from count 0 xs)));
    })

-- the number at a place, whatever else would be read there
pub number_at : (xs : List Shared) (k : ℕ) (d : Shared) → k < length xs
    → (get_or xs k d).with.0 ≡ (listed_at xs k).with.0
number_at xs k d within =
    ap (λ (z : Shared). z.with.0) (get_or_default xs k d nobody_shared within)

-- what is known of the number at a place is known of those before it, or from it on
pub lower_before : (below : ℕ) (xs : List Shared) (middle from : ℕ) (d : Shared)
    → AreByNumber 0 below xs → middle < length xs → (get_or xs middle d).with.0 < from
    → (k : ℕ) → k < middle + 1 → (listed_at xs k).with.0 < from
lower_before below xs middle from d order within lower k before =
    let up = order_rises 0 below xs k middle order (omega (arith, before)) within in
    omega (arith, up, lower, number_at xs middle d within)

pub higher_onward : (below : ℕ) (xs : List Shared) (middle from : ℕ) (d : Shared)
    → AreByNumber 0 below xs → middle < length xs → from ≤ (get_or xs middle d).with.0
    → (k : ℕ) → middle ≤ k → k < length xs → from ≤ (listed_at xs k).with.0
higher_onward below xs middle from d order within higher k onward inside =
    let up = order_rises 0 below xs middle k order onward inside in
    omega (arith, up, higher, number_at xs middle d within)

-- a number that doesn't stand at the first place that isn't lower stands nowhere
pub nowhere_listed : (below : ℕ) (xs : List Shared) (t place : ℕ) → AreByNumber 0 below xs
    → ((k : ℕ) → k < place → (listed_at xs k).with.0 < t)
    → ((k : ℕ) → place ≤ k → k < length xs → t ≤ (listed_at xs k).with.0)
    → (place < length xs → (listed_at xs place).with.0 ≡ t → ⊥) → (k : ℕ) → IsListedWith xs t k → ⊥
nowhere_listed below xs t place order before onward other k at = elim (cases_lt k place) [
  | inl less ↦ let low = before k less in omega (arith, low, at.1)
  | inr past ↦
      let inside : place < length xs = omega (arith, past, at.0) in
      let high = onward place (omega arith) inside in
      let up = order_rises 0 below xs place k order (omega (arith, past)) at.0 in
      other inside (omega (arith, high, up, at.1))
]

-- what can't go is kept for a reason
pub fork_stays : (side : Side) → (MayPass side → ⊥) → KeepsForkSomehow side
fork_stays side never = by_parts side.shared side.clean side.asked side.fork refl refl refl refl
  where
    by_parts : (shared clean asked : Bool) (fork : Option Fork) → side.shared ≡ shared
        → side.clean ≡ clean → side.asked ≡ asked → side.fork ≡ fork → KeepsForkSomehow side
    by_parts false clean asked fork s c a f = (NoFork, s)
    by_parts true clean asked None s c a f = (ForkElsewhere, (s, f))
    by_parts true true asked (Some fork) s c a f = (ForkClean, (s, c, (fork, f)))
    by_parts true false false (Some fork) s c a f = (NotAskedFor, (s, a))
    by_parts true false true (Some fork) s c a f = absurd (never (a, c, (fork, f)))

pub token_stays : (side : Side) → (MayAsk side → ⊥) → KeepsTokenSomehow side
token_stays side never = by_parts side.shared side.asked side.fork refl refl refl
  where
    by_parts : (shared asked : Bool) (fork : Option Fork) → side.shared ≡ shared
        → side.asked ≡ asked → side.fork ≡ fork → KeepsTokenSomehow side
    by_parts false asked fork s a f = (NoFork, s)
    by_parts true asked (Some fork) s a f = (ForkHere, (s, (fork, f)))
    by_parts true false None s a f = (NoRequestToken, (s, a))
    by_parts true true None s a f = absurd (never (a, f))

-- of what isn't shared nothing can go
pub nothing_stays : (e : Exchange) → StaysSomehow e nothing_shared
nothing_stays exchange.Pass = (NoFork, refl)
nothing_stays exchange.Ask = (NoFork, refl)

-- so many sides are few stations
pub count_few : (count : ℕ) (xs : List Shared) (now : List Side) → sides_from count 0 xs ≡ now
    → length now < 128 → count < 128
count_few count xs now view few =
    omega (arith, few, ap (λ (zs : List Side). length zs) view, length-sides_from count 0 xs)
