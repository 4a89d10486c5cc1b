-- The rows of a word table at the start.
use Rattle.std.proofs.Common.{◌≡◌, ℕ, ◌<◌, ◌≤◌, ◌^◌, List, [], ◌∷◌, length, map, refl, sym, ap, ◌∙◌}
use Rattle.std.proofs.Common.{subst, arith, lit<}
use Rattle.std.proofs.lemmas.List.Elements.{All-map}
use Rattle.std.specs.List.Sorted.{IsStrictlyIncreasing}
use Rattle.bip_bank.specs.Opening.{IsOpening}
use Rattle.bip_host.specs.Seats.{AreWordRows, HasFewRows, zeroed}
use Rattle.bip_model.proofs.NumberingLemmas.{rises_from_increasing, same_list}
use Rattle.bip_model.specs.declared.numbering.CompId.{CompId}
use Rattle.bip_partition.specs.Plans.{IsCountTabled, Planned}
use Rattle.bip_table.specs.Reservations.{KeptRows}
use Rattle.bip_table.specs.Rows.{rows_of}
use Rattle.bip_words.specs.Rows.{row_comps}

-- there is one count of the components with a row
pub one_count : (p : Planned) (m n : ℕ) → IsCountTabled p m → IsCountTabled p n → m ≡ n
one_count p m n one other =
    one.counted
    ∙ (ap length
    (same_list (λ (c : CompId). c.0) one.list other.list
    (rises_from_increasing (map (λ (c : CompId). c.0) one.list) one.rising)
    (rises_from_increasing (map (λ (c : CompId). c.0) other.list) other.rising)
    (λ c at. (other.exact c.0).1 ((one.exact c.0).0 at))
    (λ c at. (one.exact c.0).1 ((other.exact c.0).0 at)))
    ∙ sym other.counted)

pub few_counted : (p : Planned) (n : ℕ) → IsCountTabled p n → HasFewRows p → n ≤ 32
few_counted p n is few = subst (λ k. k ≤ 32) (one_count p few.0 n few.1 is) few.2

abbrev opened : List CompId → List (CompId × ℕ)
opened list = map (λ (c : CompId). (c, 0)) list

zeroed_opened : (list : List CompId) → zeroed (rows_of (opened list)) ≡ opened list
zeroed_opened [] = refl
zeroed_opened (c ∷ list) = ap (λ (es : List (CompId × ℕ)). (c, 0) ∷ es) (zeroed_opened list)

comps_opened : (list : List CompId) → row_comps (opened list) ≡ map (λ (c : CompId). c.0) list
comps_opened [] = refl
comps_opened (c ∷ list) = ap (λ (ns : List ℕ). c.0 ∷ ns) (comps_opened list)

length_opened : (list : List CompId) → length (opened list) ≡ length list
length_opened [] = refl
length_opened (c ∷ list) = omega (arith, length_opened list)

pub are_word_rows : (p : Planned) (t : KeptRows) (rows : List (CompId × ℕ)) → HasFewRows p
    → IsOpening p 0 t → rows ≡ zeroed t.rows → AreWordRows p rows
are_word_rows p t rows few o is =
    subst (AreWordRows p) (sym (is ∙ (ap zeroed o.rows ∙ zeroed_opened o.list)))
    (record {
      opening = record { list = o.list; tabled = o.tabled; zeros = refl };
      valid = record {
        few = omega (arith, length_opened o.list, few_counted p (length o.list) counted few);
        rising = subst IsStrictlyIncreasing (sym (comps_opened o.list)) o.tabled.rising;
      };
      small = All-map (λ (e : CompId × ℕ). e.1 < 2 ^ 58) (λ (c : CompId). (c, 0)) o.list
          (λ k d within. lit< tt);
    })
  where
    counted : IsCountTabled p (length o.list)
    counted = record {
      list = o.list;
      rising = o.tabled.rising;
      exact = o.tabled.exact;
      counted = refl;
    }
