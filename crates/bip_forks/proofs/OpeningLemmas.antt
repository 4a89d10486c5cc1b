-- How forks begin: one more station, or side, and the machine that new stations are.
use Rattle.std.proofs.Common.{◌≡◌, ℕ, ◌+◌, ◌<◌, ◌≤◌, true, get_or, length, map, List, [], ◌∷◌, ◌++◌}
use Rattle.std.proofs.Common.{refl, sym, ap, ◌∙◌, subst, inl, inr, arith}
use Rattle.std.specs.Prelude.{◌↔◌, All, Contains, IsTrue}
use Rattle.std.specs.List.Sorted.{IsStrictlyIncreasing}
use Rattle.std.proofs.lemmas.Bool.{cases_lt, cases_order, false≢true}
use Rattle.std.proofs.lemmas.List.{get_or_append_left, get_or_default, get_or_push, length_push}
use Rattle.std.proofs.lemmas.List.Elements.{Contains-get_or}
use Rattle.std.proofs.lemmas.Option.{get_or_from_slice_get}
use Rattle.bip_model.specs.Parts.{IsSystem}
use Rattle.bip_model.specs.declared.numbering.CompId.{CompId}
use Rattle.bip_model.specs.declared.numbering.InterId.{InterId}
use Rattle.bip_model.proofs.ListLemmas.{below_later}
use Rattle.bip_partition.proofs.ListedLemmas.{exact_in_all, none_below, one_has, one_lacks}
use Rattle.bip_partition.proofs.TableLemmas.{reserved_known}
use Rattle.bip_partition.specs.Tables.{IsListBelow, comp}
use Rattle.bip_partition.specs.Plans.{AreStations, IsListTouched, Planned}
use Rattle.bip_table.specs.Rows.{has_row, row_components, rows_of, used_at}
use Rattle.bip_table.specs.declared.rows.Row.{Row}
use Rattle.bip_bank.proofs.CentralLemmas.{listed_row}
use Rattle.bip_bank.proofs.UsedLemmas.{used_first}
use Rattle.bip_forks.proofs.SharingLemmas.{map_twice}
use Rattle.bip_forks.specs.Kept.{no_station}
use Rattle.bip_forks.specs.Opening.{AreFirstSides, AreFirstStations, BothTouch, IsCommon}
use Rattle.bip_forks.specs.Opening.{IsFirstSide}
use Rattle.bip_forks.specs.Opening.{IsFirstStation, IsListCommon, SharedByPlan, rows_with}
use Rattle.bip_forks.specs.Stations.{KeptStation, nothing_shared}
use Rattle.bip_forks.specs.declared.shares.Side.{Side}

-- stations are of interactions that a plan knows
pub stations_known : (p : Planned) (inters : List InterId) → IsSystem p.model → AreStations p inters
    → All (λ (a : InterId). a.0 < length p.model.interactions) inters
stations_known p inters valid listed = λ k d within. reserved_known p (get_or inters k d).0 valid
    ((listed.exact (get_or inters k d).0).0 (Contains-get_or inters k d within))

-- none yet, and one more
pub no_sides : (p : Planned) (base : ℕ) (inters : List InterId) (s : ℕ) (a : InterId)
    → AreFirstSides p base inters s a 0 []
no_sides p base inters s a = record {
  each = refl;
  first = λ t b below at. absurd (omega (arith, below));
}

pub one_side : (p : Planned) (base : ℕ) (inters : List InterId) (s : ℕ) (a d : InterId) (count : ℕ)
    (sides : List Side) (side : Side) → AreFirstSides p base inters s a count sides
    → count < length inters → IsFirstSide p base s a.0 count (get_or inters count d).0 side
    → AreFirstSides p base inters s a (count + 1) (sides ++ side ∷ [])
one_side p base inters s a d count sides side are within is = record {
  each = omega (arith, length_push sides side, are.each);
  first = λ t c below here. elim (cases_lt t count) [
    | inl old ↦ subst (IsFirstSide p base s a.0 t c.0)
        (sym (get_or_append_left sides (side ∷ []) nothing_shared t (omega (arith, old, are.each))))
        (are.first t c old here)
    | inr new ↦
        let same : t ≡ count = omega (arith, new, below) in
        let last : get_or (sides ++ side ∷ []) t nothing_shared ≡ side =
        get_or_push sides side nothing_shared t (are.each ∙ sym same) in
        let inter' : get_or inters count d ≡ c = ap (λ (n : ℕ). get_or inters n d) (sym same)
        ∙ get_or_from_slice_get inters t c d here in
        subst (IsFirstSide p base s a.0 t c.0) (sym last)
        (subst (λ (n : ℕ). IsFirstSide p base s a.0 n c.0 side) (sym same)
        (subst (λ (e : InterId). IsFirstSide p base s a.0 count e.0 side) inter' is))
  ];
}

pub no_stations : (p : Planned) (base : ℕ) (inters : List InterId)
    → AreFirstStations p base inters 0 []
no_stations p base inters = record {
  each = refl;
  first = λ s a below at. absurd (omega (arith, below));
}

pub one_station : (p : Planned) (base : ℕ) (inters : List InterId) (d : InterId) (count : ℕ)
    (stations : List KeptStation) (st : KeptStation) → AreFirstStations p base inters count stations
    → count < length inters → IsFirstStation p base inters count (get_or inters count d) st
    → AreFirstStations p base inters (count + 1) (stations ++ st ∷ [])
one_station p base inters d count stations st are within is = record {
  each = omega (arith, length_push stations st, are.each);
  first = λ s c below here. elim (cases_lt s count) [
    | inl old ↦ subst (IsFirstStation p base inters s c)
        (sym (get_or_append_left stations (st ∷ []) no_station s (omega (arith, old, are.each))))
        (are.first s c old here)
    | inr new ↦
        let same : s ≡ count = omega (arith, new, below) in
        let last : get_or (stations ++ st ∷ []) s no_station ≡ st =
        get_or_push stations st no_station s (are.each ∙ sym same) in
        let inter' : get_or inters count d ≡ c = ap (λ (n : ℕ). get_or inters n d) (sym same)
        ∙ get_or_from_slice_get inters s c d here in
        subst (IsFirstStation p base inters s c) (sym last)
        (subst (λ (n : ℕ). IsFirstStation p base inters n c st) (sym same)
        (subst (λ (e : InterId). IsFirstStation p base inters count e st) inter' is))
  ];
}

-- two stations that share nothing
pub nothing_first : (p : Planned) (base s a t b : ℕ) → (SharedByPlan p s a t b → ⊥)
    → IsFirstSide p base s a t b nothing_shared
nothing_first p base s a t b not = record {
  shared = (λ is. absurd (false≢true is), λ is. absurd (not is));
  clean = refl;
  asked = (λ is. absurd (false≢true is), λ is. absurd (false≢true is.0));
  away = λ none. refl;
  fork = λ is low. absurd (false≢true is);
}

-- rows of listed components
pub listed_rows : (base : ℕ) (comps : List CompId)
    → row_components (rows_with base comps) ≡ map (λ (c : CompId). c.0) comps
listed_rows base [] = refl
listed_rows base (d ∷ ds) = ap (λ (ks : List ℕ). d.0 ∷ ks) (listed_rows base ds)

-- as a table's rows at first
rows_same : (base : ℕ) (list : List CompId) → rows_of (map (λ (c : CompId). (c, base)) list)
    ≡ rows_with base list
rows_same base list = sym (map_twice (λ (e : CompId × ℕ). record { used = e.1; comp = e.0 })
    (λ (c : CompId). (c, base)) list)

has_listed : (base : ℕ) (comps : List CompId) (c : ℕ)
    → IsTrue (has_row (rows_with base comps) c) ↔ Contains comps (record { 0 = c })
has_listed base comps c = subst (λ (rows : List Row). IsTrue (has_row rows c) ↔ Contains comps
    (record { 0 = c })) (rows_same base comps) (listed_row base comps c)

used_listed : (base : ℕ) (comps : List CompId) (c : ℕ) → has_row (rows_with base comps) c ≡ true
    → used_at (rows_with base comps) c ≡ base
used_listed base comps c = subst (λ (rows : List Row). has_row rows c ≡ true
    → used_at rows c ≡ base) (rows_same base comps) (used_first base comps c)

common_of : (both : ℕ → Type 0) (base : ℕ) (comps : List CompId) (rows : List Row)
    → IsListCommon both comps → rows ≡ rows_with base comps → IsCommon both base rows
common_of both base comps rows is same = subst (IsCommon both base) (sym same) (record {
  rising = subst IsStrictlyIncreasing (sym (listed_rows base comps)) is.rising;
  tabled = λ c. (
    λ row. (is.exact c).0 ((has_listed base comps c).0 row),
    λ has. (has_listed base comps c).1 ((is.exact c).1 has),
  );
  numbers = λ c row. used_listed base comps c row;
})

-- the components that two interactions both touch, of one's list up to a place: they are below a
-- bound, which what stands there reaches
pub record AreCommonBefore (both : ℕ → Type 0) (own : List CompId) (place : ℕ)
    (list : List CompId) : Type 0 where
  pub bound : ℕ
  pub listed : IsListBelow (λ (c : CompId). c.0) comp both bound list
  pub before : (j : ℕ) → j < place → (get_or own j (comp 0)).0 < bound
  pub behind : (j : ℕ) → place ≤ j → j < length own → bound ≤ (get_or own j (comp 0)).0

module _ (both : ℕ → Type 0) (own : List CompId)
    (rising : IsStrictlyIncreasing (map (λ (c : CompId). c.0) own))
    (only : (n : ℕ) → both n → Contains own (comp n)) where
  none_common : AreCommonBefore both own 0 []
  none_common = record {
    bound = 0;
    listed = none_below (λ (c : CompId). c.0) comp (λ n. refl) (λ x. refl) both;
    before = λ j below. absurd (omega (arith, below));
    behind = λ j low within. omega arith;
  }

  module _ (place : ℕ) (list : List CompId) (within : place < length own)
      (so : AreCommonBefore both own place list) where
    abbrev Here : CompId
    Here = get_or own place (comp 0)

    after : (j : ℕ) → place + 1 ≤ j → j < length own → Here.0 + 1 ≤ (get_or own j (comp 0)).0
    after j low inside =
        omega (
          arith,
          below_later (λ (c : CompId). c.0) own rising place j (comp 0)
              (omega (arith, low)) inside,
        )

    -- what stands between is not touched
    apart : (m : ℕ) → so.bound ≤ m → m < Here.0 → both m → ⊥
    apart m low high has =
        let at = only m has in
        let is : get_or own at.0 (comp 0) ≡ comp m =
        get_or_default own at.0 (comp 0) (comp m) at.1 ∙ at.2 in
        let number : (get_or own at.0 (comp 0)).0 ≡ m = ap (λ (c : CompId). c.0) is in
        elim (cases_order at.0 place) [
          | inl same ↦ omega (
            arith,
            high,
            number,
            ap (λ (j : ℕ). (get_or own j (comp 0)).0) same,
          )
          | inr (inl first) ↦ omega (arith, low, number, so.before at.0 first)
          | inr (inr later) ↦ omega (
            arith,
            high,
            number,
            after at.0 (omega (arith, later)) at.1,
          )
        ]

    reached : IsListBelow (λ (c : CompId). c.0) comp both Here.0 list
    reached = record {
      rising = so.listed.rising;
      exact = λ m. (
        λ at. let is = (so.listed.exact m).0 at in
            (omega (arith, is.0, so.behind place (omega arith) within), is.1),
        λ is. elim (cases_lt m so.bound) [
          | inl low ↦ (so.listed.exact m).1 (low, is.1)
          | inr past ↦ absurd (apart m (omega (arith, past)) is.0 is.1)
        ],
      );
    }

    next_before : (j : ℕ) → j < place + 1 → (get_or own j (comp 0)).0 < Here.0 + 1
    next_before j low = elim (cases_lt j place) [
      | inl first ↦ omega (arith, so.before j first, so.behind place (omega arith) within)
      | inr past ↦ let same : place ≡ j = omega (arith, low, past) in
          subst (λ (k : ℕ). (get_or own k (comp 0)).0 < Here.0 + 1) same (omega arith)
    ]

    one_common : both Here.0 → AreCommonBefore both own (place + 1) (list ++ Here ∷ [])
    one_common has = record {
      bound = Here.0 + 1;
      listed = one_has (λ (c : CompId). c.0) comp (λ n. refl) (λ x. refl) both Here.0 list reached
          has;
      before = next_before;
      behind = after;
    }

    one_apart : (both Here.0 → ⊥) → AreCommonBefore both own (place + 1) list
    one_apart lacks = record {
      bound = Here.0 + 1;
      listed = one_lacks (λ (c : CompId). c.0) comp (λ n. refl) (λ x. refl) both Here.0 list
          reached lacks;
      before = next_before;
      behind = after;
    }

  all_common : (place : ℕ) (list : List CompId) → length own ≤ place
      → AreCommonBefore both own place list → IsListCommon both list
  all_common place list all so = record {
    rising = so.listed.rising;
    exact = exact_in_all (λ (c : CompId). c.0) comp (λ n. refl) (λ x. refl) both so.bound list
        so.listed
        (λ n has. let at = only n has in
        let is : get_or own at.0 (comp 0) ≡ comp n =
        get_or_default own at.0 (comp 0) (comp n) at.1 ∙ at.2 in
        subst (λ (c : CompId). c.0 < so.bound) is (so.before at.0 (omega (arith, at.1, all))));
  }

-- of others, in order, which of them a component is, where those before a place are lower, and the
-- one there isn't
stands_among : (others : List CompId) (here : CompId) (next : ℕ)
    → IsStrictlyIncreasing (map (λ (c : CompId). c.0) others)
    → ((k : ℕ) → k < next → k < length others → (get_or others k (comp 0)).0 < here.0)
    → (next < length others → here.0 ≤ (get_or others next (comp 0)).0)
    → ((next < length others) × ((get_or others next (comp 0)).0 ≡ here.0)) ↔ Contains others here
stands_among others here next rising lower reached = (
  λ at. subst (Contains others) (same_comp (get_or others next (comp 0)) here at.1)
      (Contains-get_or others next (comp 0) at.0),
  λ has. found has.0 has.1 (ap (λ (c : CompId). c.0)
      (get_or_default others has.0 (comp 0) here has.1 ∙ has.2)),
)
  where
    same_comp : (c d : CompId) → c.0 ≡ d.0 → c ≡ d
    same_comp c d e = ap (λ (n : ℕ). comp n) e

    found : (m : ℕ) → m < length others → (get_or others m (comp 0)).0 ≡ here.0
        → (next < length others) × ((get_or others next (comp 0)).0 ≡ here.0)
    found m within is = elim (cases_order m next) [
      | inl same ↦ (
        omega (arith, same, within),
        subst (λ (j : ℕ). (get_or others j (comp 0)).0 ≡ here.0) same is,
      )
      | inr (inl first) ↦ absurd (omega (arith, lower m first within, is))
      | inr (inr later) ↦
          let inside : next < length others = omega (arith, later, within) in
          let up = below_later (λ (c : CompId). c.0) others rising next m (comp 0) later within in
          absurd (omega (arith, up, reached inside, is))
    ]

-- rows of what two interactions both touch, of one's list up to a place; of the other one's list
-- those before another place are lower than what is left
pub record AreRowsBefore (both : ℕ → Type 0) (base : ℕ) (own others : List CompId)
    (place passed : ℕ) (rows : List Row) : Type 0 where
  pub list : List CompId
  pub listed : rows ≡ rows_with base list
  pub common : AreCommonBefore both own place list
  pub lower : (k j : ℕ) → k < passed → k < length others → place ≤ j → j < length own
      → (get_or others k (comp 0)).0 < (get_or own j (comp 0)).0

one_listed : (base : ℕ) (list : List CompId) (c : CompId)
    → rows_with base (list ++ c ∷ []) ≡ rows_with base list ++ record { used = base; comp = c } ∷ []
one_listed base [] c = refl
one_listed base (d ∷ ds) c =
    ap (λ (rows : List Row). record { used = base; comp = d } ∷ rows) (one_listed base ds c)

module _ (p : Planned) (a b base : ℕ) (own others : List CompId)
    (mine : IsListTouched p.model a own) (theirs : IsListTouched p.model b others) where
  abbrev Both : ℕ → Type 0
  Both = BothTouch p a b

  only : (n : ℕ) → Both n → Contains own (comp n)
  only n has = (mine.exact n).1 has.0

  pub no_rows : AreRowsBefore Both base own others 0 0 []
  no_rows = record {
    list = [];
    listed = refl;
    common = none_common Both own mine.rising only;
    lower = λ k j below. absurd (omega (arith, below));
  }

  module _ (place passed next : ℕ) (rows : List Row) (within : place < length own)
      (so : AreRowsBefore Both base own others place passed rows)
      (lower : (k : ℕ) → passed ≤ k → k < next → k < length others
      → (get_or others k (comp 0)).0 < (get_or own place (comp 0)).0)
      (reached : next < length others
      → (get_or own place (comp 0)).0 ≤ (get_or others next (comp 0)).0) where
    abbrev Next : CompId
    Next = get_or own place (comp 0)

    all_lower : (k : ℕ) → k < next → k < length others → (get_or others k (comp 0)).0 < Next.0
    all_lower k below inside = elim (cases_lt k passed) [
      | inl first ↦ so.lower k place first inside (omega arith) within
      | inr past ↦ lower k (omega (arith, past)) below inside
    ]

    rest_lower : (k j : ℕ) → k < next → k < length others → place + 1 ≤ j → j < length own
        → (get_or others k (comp 0)).0 < (get_or own j (comp 0)).0
    rest_lower k j below inside past behind =
        omega (
          arith,
          all_lower k below inside,
          below_later (λ (c : CompId). c.0) own mine.rising place j (comp 0)
              (omega (arith, past)) behind,
        )

    stands : ((next < length others) × ((get_or others next (comp 0)).0 ≡ Next.0))
        ↔ Contains others Next
    stands = stands_among others Next next theirs.rising all_lower reached

    pub one_row : ((next < length others) × ((get_or others next (comp 0)).0 ≡ Next.0))
        → AreRowsBefore Both base own others (place + 1) next
        (rows ++ record { used = base; comp = Next } ∷ [])
    one_row at = record {
      list = so.list ++ Next ∷ [];
      listed = ap (λ (rs : List Row). rs ++ record { used = base; comp = Next } ∷ []) so.listed
          ∙ sym (one_listed base so.list Next);
      common = one_common Both own mine.rising only place so.list within so.common (
        (mine.exact Next.0).0 (Contains-get_or own place (comp 0) within),
        (theirs.exact Next.0).0 (stands.0 at),
      );
      lower = rest_lower;
    }

    pub no_row : ((next < length others) × ((get_or others next (comp 0)).0 ≡ Next.0) → ⊥)
        → AreRowsBefore Both base own others (place + 1) next rows
    no_row not = record {
      list = so.list;
      listed = so.listed;
      common = one_apart Both own mine.rising only place so.list within so.common
          (λ has. not (stands.1 ((theirs.exact Next.0).1 has.1)));
      lower = rest_lower;
    }

  pub all_rows : (place passed : ℕ) (rows : List Row) → length own ≤ place
      → AreRowsBefore Both base own others place passed rows → IsCommon Both base rows
  all_rows place passed rows all so = common_of Both base so.list rows
      (all_common Both own mine.rising only place so.list all so.common) so.listed
