-- Stations: the place of a reserved interaction in the rising list of them.
use Rattle.std.proofs.Common.{◌≡◌, ℕ, zero, suc, ◌<◌, ◌≤◌, eqb, List, [], ◌∷◌, length, map, get_or}
use Rattle.std.proofs.Common.{position, Some, refl, arith}
use Rattle.std.specs.List.{position_or_len}
use Rattle.std.specs.List.Sorted.{IsStrictlyIncreasing}
use Rattle.std.proofs.lemmas.Bool.{eqb-true, ne_eqb}
use Rattle.std.proofs.lemmas.Cmp.{nat_eq_equiv}
use Rattle.std.proofs.lemmas.List.Elements.{Contains-get_or}
use Rattle.std.proofs.lemmas.List.Quantifiers.{position-Some}
use Rattle.std.proofs.lemmas.List.Sums.{position_or_len_is}
use Rattle.bip_model.proofs.ListLemmas.{below_later}
use Rattle.bip_model.specs.Parts.{IsSystem}
use Rattle.bip_model.specs.declared.numbering.InterId.{InterId}
use Rattle.bip_partition.proofs.TableLemmas.{reserved_known}
use Rattle.bip_partition.specs.Plans.{AreStations, Planned}

-- in a rising list a number is at least its place
place_below : (list : List InterId) (i : ℕ) (d : InterId)
    → IsStrictlyIncreasing (map (λ (a : InterId). a.0) list) → i < length list
    → i ≤ (get_or list i d).0
place_below list zero d rising within = omega arith
place_below list (suc i) d rising within =
    let before = place_below list i d rising (omega arith) in
    let next = below_later (λ (a : InterId). a.0) list rising i (suc i) d (omega arith) within in
    omega (arith, before, next)

-- so the place of an interaction is at most its number
pub place-le : (list : List InterId) (a s : ℕ)
    → IsStrictlyIncreasing (map (λ (b : InterId). b.0) list)
    → position (λ (b : InterId). eqb b.0 a) list ≡ Some s → s ≤ a
place-le list a s rising at =
    let here = position-Some (λ (b : InterId). eqb b.0 a) list s (record { 0 = 0 }) at in
    let low = place_below list s (record { 0 = 0 }) rising here.0 in
    omega (arith, low, eqb-true (get_or list s (record { 0 = 0 })).0 a here.1)

-- the interaction at a place stands there first
pub place_of : (list : List InterId) (s : ℕ) (d : InterId)
    → IsStrictlyIncreasing (map (λ (b : InterId). b.0) list) → s < length list
    → position (λ (b : InterId). eqb b.0 (get_or list s d).0) list ≡ Some s
place_of list s d rising within =
    let is : position_or_len (λ (b : InterId). eqb b.0 (get_or list s d).0) list ≡ s =
    position_or_len_is (λ (b : InterId). eqb b.0 (get_or list s d).0) list s d (omega arith)
    (λ k before. ne_eqb _ _ (λ e. omega (
      arith,
      e,
      below_later (λ (b : InterId). b.0) list rising k s d before within,
    )))
    (λ _. nat_eq_equiv.refl (get_or list s d).0) in
    grind arith

-- a station is of an interaction of the model
pub station_declared : (p : Planned) (list : List InterId) (s : ℕ) (d : InterId) → IsSystem p.model
    → AreStations p list → s < length list → (get_or list s d).0 < length p.model.interaction_names
station_declared p list s d valid are within =
    let known = reserved_known p (get_or list s d).0 valid
    ((are.exact (get_or list s d).0).0 (Contains-get_or list s d within)) in
    omega (arith, known, valid.so_far.interactions_named)

-- there are no more stations than interactions
pub few_stations : (p : Planned) (list : List InterId) → IsSystem p.model → AreStations p list
    → length list ≤ 128
few_stations p [] valid are = omega arith
few_stations p (a ∷ list) valid are =
    let last : length list < length (a ∷ list) = omega arith in
    let low = place_below (a ∷ list) (length list) (record { 0 = 0 }) are.rising last in
    let high = station_declared p (a ∷ list) (length list) (record { 0 = 0 }) valid are last in
    let longer : length (a ∷ list) ≡ suc (length list) = refl in
    omega (arith, longer, low, high, valid.so_far.few_interactions, valid.so_far.interactions_named)
