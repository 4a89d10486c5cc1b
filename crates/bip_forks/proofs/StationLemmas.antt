-- One station: its oldest open request, and a table that can't decide on it.
use Rattle.std.proofs.Common.{◌≡◌, ℕ, ◌<◌, Bool, List, [], ◌∷◌, Some, slice_get, ap, ◌∙◌, inl, inr}
use Rattle.std.proofs.Common.{sym, subst, get_or, length, max, arith}
use Rattle.std.specs.Prelude.{Err}
use Rattle.std.proofs.lemmas.Bool.{false≢true}
use Rattle.std.proofs.lemmas.List.{get_or_default}
use Rattle.bip_model.specs.declared.grants.Grant.{Grant}
use Rattle.bip_model.specs.declared.messages.Request.{Request}
use Rattle.bip_model.specs.declared.numbering.CompId.{CompId}
use Rattle.bip_table.specs.Reservations.{IsTableAnswer, KeptRows, end_of_serials}
use Rattle.bip_table.specs.Rows.{has_row, used_at}
use Rattle.bip_table.specs.declared.faults.TableFault.TheVariants.{UnknownRow}
use Rattle.bip_bank.specs.declared.idleness.WhyIdle.TheVariants.{NothingOpen}
use Rattle.bip_bank.specs.declared.idleness.WhyIdle.{WhyIdle}
use Rattle.bip_forks.specs.Kept.{CanAnswer, no_station, station_at}
use Rattle.bip_forks.specs.Sides.{IsNextNeighbour, KeepsTokenSomehow, side_among}
use Rattle.bip_forks.specs.Stations.{AllLie, AsksNothing, CannotAnswer, HasFirst, IsNotServed}
use Rattle.bip_forks.specs.Stations.{IsRaisedAlone, IsReadyToServe, KeepsRequestToken, KeptStation}
use Rattle.bip_forks.specs.Stations.{MayAsk, raised_by, rows_here, side_with}

-- the first of a list, and the others
pub first_there : (xs : List Request) (q : Request) → slice_get xs 0 ≡ Some q
    → (rest : List Request) × (xs ≡ q ∷ rest)
first_there [] q is = cc
first_there (x ∷ xs) q is = let same : x ≡ q = cc in (xs, ap (λ (y : Request). y ∷ xs) same)

-- a station that can serve, whose table can't decide
abbrev pub IsUndecidedHere : KeptStation → Type 0
IsUndecidedHere s = AllLie s.sides × ((q : Request) × (rest : List Request) × (s.waiting ≡ q ∷ rest)
    × CannotAnswer s q)

pub row_unknown : (s : KeptStation) (q : Request) (ready up : KeptRows) (comp : CompId)
    → slice_get s.waiting 0 ≡ Some q → AllLie s.sides → ready ≡ record s.table { room = ready.room }
    → has_row up.rows ≡ has_row ready.rows
    → IsTableAnswer up q.wants (Err (UnknownRow comp)) → IsUndecidedHere s
row_unknown s q ready up comp first all kept tabled answer =
    let rest = first_there s.waiting q first in (
      all,
      (
        q,
        rest.0,
        rest.1,
        inl (
          comp,
          answer.here.0,
          sym (ap (λ (f : ℕ → Bool). f comp.0)
              (tabled ∙ ap (λ (t : KeptRows). has_row t.rows) kept))
              ∙ answer.here.1,
        ),
      ),
    )

-- a station whose rows were raised, and whose table then decided nothing
pub raised_alone : (s later : KeptStation) (ready up left : KeptRows)
    → ready ≡ record s.table { room = ready.room }
    → used_at up.rows ≡ raised_by (rows_here s.sides) (has_row ready.rows) (used_at ready.rows)
    → has_row up.rows ≡ has_row ready.rows
    → up.serial ≡ ready.serial → left ≡ up → later ≡ record s { table = left }
    → IsRaisedAlone s later
raised_alone s later ready up left kept used tabled serial same others = record {
  used = ap (λ (z : KeptStation). used_at z.table.rows) others
      ∙ (ap (λ (t : KeptRows). used_at t.rows) same
      ∙ (used ∙ ap (λ (t : KeptRows). raised_by (rows_here s.sides) (has_row t.rows)
      (used_at t.rows)) kept));
  tabled = ap (λ (z : KeptStation). has_row z.table.rows) others
      ∙ (ap (λ (t : KeptRows). has_row t.rows) same
      ∙ (tabled ∙ ap (λ (t : KeptRows). has_row t.rows) kept));
  serial = ap (λ (z : KeptStation). z.table.serial) others
      ∙ (ap (λ (t : KeptRows). t.serial) same ∙ (serial ∙ ap (λ (t : KeptRows). t.serial) kept));
  others = others ∙ ap (λ (t : KeptRows). record s { table = t })
      (sym (ap (λ (z : KeptStation). z.table) others));
}

-- where each wanted component has a row, and a serial is left, there is no such station
pub undecided : (stations : List KeptStation) (grants : List Grant) (s : ℕ) (y later : KeptStation)
    → CanAnswer stations grants → s < length stations → y ≡ get_or stations s y
    → IsReadyToServe (station_at stations s) → IsNotServed y later → length grants < end_of_serials
    → ⊥
undecided stations grants s y later can within at ready not few = elim not [
  | inl stays ↦ stays.1 (subst IsReadyToServe (sym here) ready)
  | inr left ↦ by_table left.1.1.0 left.1.1.1 left.1.1.2 left.1.1.3
]
  where
    here : y ≡ station_at stations s
    here = at ∙ get_or_default stations s y no_station within

    by_table : (q : Request) (rest : List Request) → y.waiting ≡ q ∷ rest → CannotAnswer y q → ⊥
    by_table q rest oldest (inl (c, wanted, none)) =
        false≢true (sym none ∙ (ap (λ (z : KeptStation). has_row z.table.rows c.0) here
        ∙ can.rows s q rest within (ap (λ (z : KeptStation). z.waiting) (sym here) ∙ oldest) c.0
        wanted))
    by_table q rest oldest (inr (fresh, ended)) =
        omega (arith, few, can.serials s, ended, ap (λ (z : KeptStation). z.table.serial) here)

-- the next station that one may ask
abbrev pub IsNextToAsk : KeptStation → ℕ → ℕ → Type 0
IsNextToAsk s from next = IsNextNeighbour (λ (t : ℕ). (why : WhyIdle) × AsksNothing s t why)
    (λ (t : ℕ). HasFirst s.waiting × MayAsk (side_with s t)) (length s.sides) from next

asks_nothing : (s : KeptStation) (t : ℕ) (why : WhyIdle) → KeepsRequestToken (side_with s t) why
    → AsksNothing s t why
asks_nothing s t NothingOpen keeps = absurd keeps
asks_nothing s t why keeps = keeps

pub next_to_ask : (s : KeptStation) (from next : ℕ) → HasFirst s.waiting
    → IsNextNeighbour (λ (t : ℕ). KeepsTokenSomehow (side_among s.sides t))
    (λ (t : ℕ). MayAsk (side_among s.sides t)) (length s.sides) from next → IsNextToAsk s from next
next_to_ask s from next waits is = record {
  onward = is.onward;
  passed = λ t onward below. let why = is.passed t onward below in
      (why.0, asks_nothing s t why.0 why.1);
  found = elim is.found [
    | inl here ↦ inl (here.0, (waits, here.1))
    | inr none ↦ inr none
  ];
}

pub none_to_ask : (s : KeptStation) (from next : ℕ) → (HasFirst s.waiting → ⊥)
    → next ≡ max from (length s.sides) → IsNextToAsk s from next
none_to_ask s from next not is = record {
  onward = omega (arith, is);
  passed = λ t onward below. (NothingOpen, not);
  found = inr is;
}
