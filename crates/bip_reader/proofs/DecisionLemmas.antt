-- It can be decided whether lists part interactions, so every text has a meaning or a fault.
use Rattle.std.proofs.Common.{◌≡◌, ℕ, ◌+◌, ◌<◌, ◌≤◌, ◌&&◌, ltb, not, Bool, true, false, List, []}
use Rattle.std.proofs.Common.{◌∷◌, length, map, Option, None, Some, Result, Ok, Err, refl, inl, inr}
use Rattle.std.proofs.Common.{arith}
use Rattle.std.specs.Bool.{Decides}
use Rattle.std.specs.Prelude.{◌⊎◌, All, is_some}
use Rattle.std.specs.List.{list_all}
use Rattle.std.specs.Option.{IsSomeAnd}
use Rattle.std.proofs.lemmas.Bool.Decides.{Decides-and, Decides-by_and, Decides-ltb}
use Rattle.std.proofs.lemmas.Bool.Decides.{not_from_Decides}
use Rattle.bip_model.proofs.ClimbLemmas.{cyclic_or_not}
use Rattle.bip_model.proofs.PartitionLemmas.{parts_or_misplaces}
use Rattle.bip_model.specs.Priorities.{IsCyclic}
use Rattle.bip_model.specs.Drafts.{IsWhole}
use Rattle.bip_model.specs.Laws.{IsMisplaced, times_parted}
use Rattle.bip_model.specs.Naming.{AreApart, is_known}
use Rattle.bip_model.specs.Texts.{last_line}
use Rattle.bip_model.specs.declared.drafts.Draft.{Draft}
use Rattle.bip_model.specs.declared.numbering.InterId.{InterId}
use Rattle.bip_model.specs.declared.partitions.TheConstants.{MOST_CLASSES}
use Rattle.bip_model.specs.declared.parts.System.{System}
use Rattle.bip_reader.specs.Laws.{HasMeaning, MeaningOrFault}
use Rattle.bip_reader.specs.Reading.{ClassList}
use Rattle.bip_reader.specs.Texts.{HasFault, IsParted, IsWholeReading, classes_of, reading_of}
use Rattle.bip_reader.specs.Texts.{system_of}
use Rattle.bip_reader.specs.declared.faults.ReadFault.{ReadFault}
use Rattle.bip_reader.specs.declared.faults.Why.TheVariants.{Missing, NotAPartition, PriorityCycle}
use Rattle.bip_reader.specs.declared.reading.Reading.{Reading}

-- it holds, or it doesn't
abbrev Decided : Type 0 → Type 0
Decided P = P ⊎ (¬ P)

told : {P : Type 0} (test : Bool) → Decides test P → Decided P
told true h = inl (h.0 refl)
told false h = inr (not_from_Decides false h refl)

is_not : (test : Bool) → Decides (not test) (test ≡ false)
is_not true = (λ e. absurd (cc), λ e. absurd (cc))
is_not false = (λ e. refl, λ e. refl)

-- names are apart where a test of each says so
apart : List (List ℕ) → Bool
apart [] = true
apart (name ∷ names) = not (is_known name names) && apart names

apart_decides : (names : List (List ℕ)) → Decides (apart names) (AreApart names)
unfolding apart
apart_decides [] = (λ e. tt, λ h. refl)
apart_decides (name ∷ names) = Decides-and (not (is_known name names)) (apart names)
    (is_not (is_known name names)) (apart_decides names)

all_decide : {A : Type 0} (p : A → Bool) (P : A → Type 0) → ((x : A) → Decides (p x) (P x))
    → (xs : List A) → Decides (list_all p xs) (All P xs)
all_decide p P each xs = Decides-by_and p P (list_all p) each refl (λ x xs. refl) xs

is_parted : (m : System) (list : ClassList) → Decided (IsParted m list)
is_parted m list =
    let count = length m.interactions in
    let names = map (λ (c : List ℕ × List InterId). c.0) list in
    let filled = all_decide (λ (c : List ℕ × List InterId). ltb 0 (length c.1))
    (λ c. 0 < length c.1) (λ c. Decides-ltb 0 (length c.1)) list in
    let known = all_decide (λ (c : List ℕ × List InterId). list_all
    (λ (a : InterId). ltb a.0 count) c.1) (λ c. All (λ (a : InterId). a.0 < count) c.1)
    (λ c. all_decide (λ (a : InterId). ltb a.0 count) (λ a. a.0 < count)
    (λ a. Decides-ltb a.0 count) c.1) list in
    elim (told _ (Decides-and _ _ (Decides-ltb (length list) (MOST_CLASSES + 1))
    (Decides-and _ _ (apart_decides names) (Decides-and _ _ filled known)))) [
      | inl h ↦
          let short : length list < MOST_CLASSES + 1 = h.0 in
          elim (parts_or_misplaces count list (omega arith) h.1.0 h.1.1.0 h.1.1.1) [
            | inl parted ↦ inl parted
            | inr wrong ↦
                inr (λ parted. misplaced wrong.0 wrong.1 (parted.once wrong.0 wrong.1.known))
          ]
      | inr fails ↦ inr (λ parted. let short : length list ≤ MOST_CLASSES = parted.few in
          fails (omega arith, (parted.apart, (parted.filled, parted.known))))
    ]
  where
    misplaced : (a : ℕ) → IsMisplaced (λ (c : List ℕ × List InterId). c.1)
        (length m.interactions) list a → times_parted (λ (c : List ℕ × List InterId). c.1) list a
        ≡ 1 → ⊥
    misplaced a wrong once = elim wrong.times [ inl none ↦ omega arith | inr more ↦ omega arith ]

is_whole : (builder : Option Draft) → Decided (IsSomeAnd builder IsWhole)
is_whole None = inr (λ h. h)
is_whole (Some d) =
    elim (told _ (Decides-and (not (is_some d.begun)) _ (is_not (is_some d.begun))
    (Decides-ltb 0 (length d.system.components)))) [
      | inl h ↦ inl (record { ended = h.0; some = h.1 })
      | inr fails ↦ inr (λ whole. fails (whole.ended, whole.some))
    ]

-- what lines without a fault declare, or lack
ends : (text : List ℕ) (r : Reading) → reading_of text ≡ Ok r → Decided (IsWholeReading r)
    → Decided (IsCyclic (system_of r).priorities) → Decided (IsParted (system_of r) r.classes)
    → HasMeaning text ⊎ ((fault : ReadFault) × HasFault text fault)
ends text r said (inr fails) cyclic parted =
    inr (
      record { line = last_line text; why = Missing },
      inr (record { read = r; said = said; at_end = fails; last = refl }),
    )
ends text r said (inl whole) (inl cyclic) parted =
    inr (
      record { line = last_line text; why = PriorityCycle },
      inr (record { read = r; said = said; at_end = (whole, cyclic); last = refl }),
    )
ends text r said (inl whole) (inr acyclic) (inr fails) =
    inr (
      record { line = last_line text; why = NotAPartition },
      inr (record { read = r; said = said; at_end = (whole, acyclic, fails); last = refl }),
    )
ends text r said (inl whole) (inr acyclic) (inl parted) =
    inl (
      system_of r,
      classes_of (system_of r) r.classes,
      record {
        read = r;
        said = said;
        declares = record {
          whole = whole;
          model = refl;
          acyclic = acyclic;
          parted = parted;
          ordered = refl;
        };
      },
    )

by_lines : (text : List ℕ) (said : Result Reading ReadFault) → reading_of text ≡ said
    → HasMeaning text ⊎ ((fault : ReadFault) × HasFault text fault)
by_lines text (Ok r) e = ends text r e (is_whole r.builder) (cyclic_or_not (system_of r).priorities)
    (is_parted (system_of r) r.classes)
by_lines text (Err fault) e = inr (fault, inl e)

pub meaning_or_fault : MeaningOrFault
meaning_or_fault text = by_lines text (reading_of text) refl
