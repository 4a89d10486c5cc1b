-- What is kept, as what a class has.
use Rattle.std.proofs.Common.{◌≡◌, ℕ, ◌<◌, List, length, map, get_or, set, replicate, None, Some}
use Rattle.std.proofs.Common.{Option, inl, inr, refl, ap, ◌∙◌, sym, max, arith}
use Rattle.std.proofs.Math.Path.{fun_ext}
use Rattle.std.proofs.lemmas.Bool.{cases_lt}
use Rattle.std.proofs.lemmas.Bool.Decides.{eqb_tells}
use Rattle.std.proofs.lemmas.List.{get_or-replicate, get_or_past, length-map, length-replicate}
use Rattle.std.proofs.lemmas.List.{length-set}
use Rattle.std.proofs.lemmas.List.FromFn.{get_or-map-range_with_len, length-range_with_len}
use Rattle.std.specs.List.{range_with_len}
use Rattle.std.proofs.lemmas.Option.{slice_get_cases, slice_get_within}
use Rattle.bip_model.specs.Numbering.{put}
use Rattle.bip_model.specs.declared.messages.Offer.{Offer}
use Rattle.bip_model.proofs.PutLemmas.{read-set}
use Rattle.bip_partition.specs.Plans.{Planned}
use Rattle.bip_observe.specs.Offers.{AreKept, IsExpected, KeptOffers, Observed, nothing_held}
use Rattle.bip_observe.specs.Offers.{observed, with_held, with_known}

-- what is read of copies is what was copied
read_copies : {X : Type 0} (n : ℕ) (x : X) (k : ℕ) → get_or (replicate n x) k x ≡ x
read_copies n x k = elim (cases_lt k n) [
  | inl within ↦ get_or-replicate n k x x within
  | inr past ↦ get_or_past (replicate n x) k x (rw (length-replicate n x) past)
]

-- nothing, so many times
abbrev pub nothings : (X : Type 0) → ℕ → List (Option X)
nothings X n = map (λ (k : ℕ). None) (range_with_len 0 n)

pub length_nothings : (X : Type 0) (n : ℕ) → length (nothings X n) ≡ n
length_nothings X n = simp (length-map, length-range_with_len)

pub read_nothing : (X : Type 0) (n k : ℕ) → get_or (nothings X n) k None ≡ None
read_nothing X n k = elim (cases_lt k n) [
  | inl within ↦ get_or-map-range_with_len (λ (j : ℕ). None) 0 n k k None within (omega arith)
  | inr past ↦ get_or_past (nothings X n) k None (rw (length_nothings X n) past)
]

-- what is kept at first
abbrev pub first_kept : Planned → ℕ → ℕ → ℕ → KeptOffers
first_kept p class base n = record {
  plan = p;
  class = class;
  base = base;
  known = replicate n base;
  held = nothings Offer n;
}

-- what a class has, by its two functions
abbrev having : Planned → ℕ → (ℕ → ℕ) → (ℕ → Option Offer) → Observed
having p class known held = record { plan = p; class = class; known = known; held = held }

same_having : (p : Planned) (class : ℕ) (f g : ℕ → ℕ) (h k : ℕ → Option Offer) → f ≡ g → h ≡ k
    → having p class f h ≡ having p class g k
same_having p class f g h k known held = ap (λ (u : ℕ → ℕ). having p class u h) known
    ∙ ap (λ (u : ℕ → Option Offer). having p class g u) held

pub nothing_kept : (p : Planned) (class base n : ℕ)
    → observed (first_kept p class base n) ≡ nothing_held p class base
nothing_kept p class base n =
    same_having p class (λ c. get_or (replicate n base) c base) (λ c. base)
    (λ c. get_or (nothings Offer n) c None) (λ c. None)
    (fun_ext (read_copies n base)) (fun_ext (read_nothing Offer n))

pub first_are_kept : (p : Planned) (class base n : ℕ) → n ≡ length p.model.components
    → AreKept (first_kept p class base n)
first_are_kept p class base n each = record {
  each_known = length-replicate n base ∙ each;
  each_held = length_nothings Offer n ∙ each;
  own = λ c offer is.
      let none = sym (read_nothing Offer n c) ∙ is in
      absurd (cc);
}

-- one more used number is known
pub known_more : (o : KeptOffers) (c n : ℕ) → c < length o.known → get_or o.known c o.base < n
    → observed (record o { known = set o.known c n }) ≡ with_known c n (observed o)
known_more o c n within more =
    let greatest : n ≡ max (get_or o.known c o.base) n = omega arith in
    same_having o.plan o.class _ _ _ _ (read-set o.known c n o.base within
    ∙ ap (λ (k : ℕ). put (λ (d : ℕ). get_or o.known d o.base) c k) greatest) refl

pub known_kept : (o : KeptOffers) (c n : ℕ) → AreKept o
    → AreKept (record o { known = set o.known c n })
known_kept o c n kept = record {
  each_known = length-set o.known c n ∙ kept.each_known;
  each_held = kept.each_held;
  own = kept.own;
}

-- one more offer is held
pub held_more : (o : KeptOffers) (offer : Offer) → offer.comp.0 < length o.held
    → observed (record o { held = set o.held offer.comp.0 (Some offer) }) ≡ with_held offer
    (observed o)
held_more o offer within = same_having o.plan o.class _ _ _ _ refl
    (read-set o.held offer.comp.0 (Some offer) None within)

pub held_kept : (o : KeptOffers) (offer : Offer) → AreKept o → IsExpected o.plan o.class offer
    → offer.comp.0 < length o.held → AreKept (record o {
      held = set o.held offer.comp.0 (Some offer);
    })
held_kept o offer kept expected within = record {
  each_known = kept.each_known;
  each_held = length-set o.held offer.comp.0 (Some offer) ∙ kept.each_held;
  own = λ c other is.
      let read = ap (λ (f : ℕ → Option Offer). f c)
      (read-set o.held offer.comp.0 (Some offer) None within) in
      elim (eqb_tells c offer.comp.0) [
        | inl same ↦
            let new : Some offer ≡ Some other = rw same.0 at (sym read ∙ is) in
            let equal : offer ≡ other = cc in
            rw (← equal) (sym same.1, expected)
        | inr apart ↦
            let before : get_or o.held c None ≡ Some other = rw apart.0 at (sym read ∙ is) in
            kept.own c other before
      ];
}

-- what a class can get is of a component of the model
pub expected_known : (p : Planned) (class : ℕ) (offer : Offer) → IsExpected p class offer
    → offer.comp.0 < length p.model.components
expected_known p class offer expected = elim (slice_get_cases p.model.components offer.comp.0).1 [
  | inl here ↦ slice_get_within p.model.components offer.comp.0 here.0 here.2
  | inr past ↦ absurd (rw past.1 at expected.made)
]
