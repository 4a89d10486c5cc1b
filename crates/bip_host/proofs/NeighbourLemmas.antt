-- Neighbours, of the first so many stations.
use Rattle.std.proofs.Common.{◌≡◌, ◌⊎◌, ℕ, zero, suc, ◌+◌, ◌<◌, List, [], ◌∷◌, ◌++◌, length, arith}
use Rattle.std.proofs.Common.{inl, inr, refl, subst, sym, ⊎_elim}
use Rattle.std.proofs.lemmas.Option.{none-some}
use Rattle.std.specs.Prelude.{Some, slice_get}
use Rattle.bip_bank.specs.declared.banks.StationId.{StationId}
use Rattle.bip_host.proofs.PlaceLemmas.{at_push}
use Rattle.bip_host.specs.Starting.{AreNeighbours, AreNeighboursBelow}
use Rattle.bip_model.specs.declared.numbering.InterId.{InterId}
use Rattle.bip_model.specs.declared.parts.System.{System}

abbrev station : ℕ → StationId
station t = record { 0 = t }

got_front : (xs : List StationId) (x a : StationId) (k : ℕ) → slice_get xs k ≡ Some a
    → slice_get (xs ++ x ∷ []) k ≡ Some a
got_front [] x a k at = absurd (none-some a at)
got_front (y ∷ ys) x a zero at = at
got_front (y ∷ ys) x a (suc k) at = got_front ys x a k at

got_last : (xs : List StationId) (x : StationId) → slice_get (xs ++ x ∷ []) (length xs) ≡ Some x
got_last [] x = refl
got_last (y ∷ ys) x = got_last ys x

below_or_last : (t n : ℕ) → t < n + 1 → (t < n) ⊎ (t ≡ n)
below_or_last zero zero lt = inr refl
below_or_last zero (suc n) lt = inl (omega arith)
below_or_last (suc t) zero lt = absurd (omega (arith, lt))
below_or_last (suc t) (suc n) lt =
    ⊎_elim (λ (l : t < n). inl (omega (arith, l))) (λ (e : t ≡ n). inr (omega (arith, e)))
    (below_or_last t n (omega (arith, lt)))

pub no_neighbours : (m : System) (stations : List InterId) (s : ℕ)
    → AreNeighboursBelow m stations s 0 []
no_neighbours m stations s = record {
  each = λ k t at. absurd (none-some t at);
  all = λ t lt is. absurd (omega (arith, lt));
}

-- the next station is one
pub one_neighbour : (m : System) (stations : List InterId) (s n : ℕ) (list later : List StationId)
    → AreNeighboursBelow m stations s n list → AreNeighbours m stations s n
    → later ≡ list ++ (record { 0 = n }) ∷ [] → AreNeighboursBelow m stations s (n + 1) later
one_neighbour m stations s n list later are one is =
    subst (AreNeighboursBelow m stations s (n + 1)) (sym is)
    (record {
      each = at_push (λ k (t : StationId). AreNeighbours m stations s t.0) list
          (station n) are.each one;
      all = λ t lt near.
          ⊎_elim
          (λ (l : t < n). let at = are.all t l near in
          (at.0, got_front list (station n) (station t) at.0 at.1))
          (λ (e : t ≡ n). (
            length list,
            subst (λ k. slice_get (list ++ station n ∷ []) (length list)
                ≡ Some (station k)) (sym e) (got_last list (station n)),
          ))
          (below_or_last t n lt);
    })

-- it is none
pub no_neighbour : (m : System) (stations : List InterId) (s n : ℕ) (list later : List StationId)
    → AreNeighboursBelow m stations s n list → ¬ AreNeighbours m stations s n → later ≡ list
    → AreNeighboursBelow m stations s (n + 1) later
no_neighbour m stations s n list later are apart is =
    subst (AreNeighboursBelow m stations s (n + 1)) (sym is)
    (record {
      each = are.each;
      all = λ t lt near.
          ⊎_elim (λ (l : t < n). are.all t l near)
          (λ (e : t ≡ n). absurd (apart (subst (λ k. AreNeighbours m stations s k) e near)))
          (below_or_last t n lt);
    })
