-- The records of a class, read and written by the numbers of its interactions.
use Rattle.std.proofs.Common.{◌≡◌, ◌≢◌, ℕ, ◌<◌, Bool, true, eqb, List, [], length, map, get_or, set}
use Rattle.std.proofs.Common.{None, Some, Option, inl, inr, refl, sym, ap, ◌∙◌, subst, arith}
use Rattle.std.specs.Prelude.{All, position}
use Rattle.std.specs.List.{range_with_len}
use Rattle.std.proofs.Math.Path.{fun_ext}
use Rattle.std.proofs.lemmas.Bool.{cases_lt, eq-eqb, eqb-true}
use Rattle.std.proofs.lemmas.Bool.Decides.{eqb_tells}
use Rattle.std.proofs.lemmas.List.{ext_get_or, get_or_default, get_or_past, get_or-set_other}
use Rattle.std.proofs.lemmas.List.{get_or-set_same, length-map, length-set}
use Rattle.std.proofs.lemmas.List.FromFn.{get_or-map-range_with_len, length-range_with_len}
use Rattle.std.proofs.lemmas.List.Folds.{list_any-from_Any}
use Rattle.std.proofs.lemmas.List.Quantifiers.{position-Some}
use Rattle.std.proofs.lemmas.Option.{get_or_from_slice_get, slice_get_within}
use Rattle.bip_model.specs.Partitions.{class_in}
use Rattle.bip_model.specs.Priorities.{inter}
use Rattle.bip_model.specs.declared.numbering.InterId.{InterId}
use Rattle.bip_model.proofs.ListLemmas.{below_later, position_first}
use Rattle.bip_partition.specs.Laws.{IsPlanned}
use Rattle.bip_partition.specs.Plans.{Planned, StandsAt}
use Rattle.bip_partition.proofs.ClassLemmas.{class_known}
use Rattle.bip_observe.proofs.KeptLemmas.{nothings, read_nothing}
use Rattle.bip_ip.specs.Records.{KeptRecords, members_of, place_among, record_at, spread}
use Rattle.bip_ip.specs.declared.nodes.OpenRecord.{OpenRecord}
use Rattle.bip_ip.proofs.OwnLemmas.{own_member}

-- whether an interaction has this number
abbrev has_number : ℕ → InterId → Bool
has_number a b = eqb b.0 a

no_inter : InterId
no_inter = inter 0

length_spread : (members : List InterId) (places : List (Option OpenRecord)) (count : ℕ)
    → length (spread members places count) ≡ count
length_spread members places count = simp (length-map, length-range_with_len)

-- what is read within the count
read_within : (members : List InterId) (places : List (Option OpenRecord)) (count a : ℕ) → a < count
    → get_or (spread members places count) a None ≡ record_at members places a
read_within members places count a within = get_or-map-range_with_len
    (record_at members places) 0 count a a None within (omega arith)

-- an interaction that has a place is one of them
placed : (members : List InterId) (a k : ℕ) → place_among members a ≡ Some k → (k < length members)
    × ((get_or members k no_inter).0 ≡ a)
placed members a k is =
    let at = position-Some (has_number a) members k no_inter is in
    (at.0, eqb-true (get_or members k no_inter).0 a at.1)

-- two with one place are one
one_place : (members : List InterId) (a b k : ℕ) → place_among members a ≡ Some k
    → place_among members b ≡ Some k → a ≡ b
one_place members a b k one other = sym (placed members a k one).1 ∙ (placed members b k other).1

-- where there is no place, or one
data Placing (members : List InterId) (a : ℕ) : Type 0 where
  nowhere : place_among members a ≡ None → Placing members a
  at_place : (k : ℕ) → place_among members a ≡ Some k → Placing members a

placing : (members : List InterId) (a : ℕ) → Placing members a
placing members a = by_place (place_among members a) refl
  where
    by_place : (o : Option ℕ) → place_among members a ≡ o → Placing members a
    by_place None is = nowhere is
    by_place (Some k) is = at_place k is

-- what is read, within the count or not
pub read_spread : (members : List InterId) (places : List (Option OpenRecord)) (count a : ℕ)
    → All (λ (b : InterId). b.0 < count) members
    → get_or (spread members places count) a None ≡ record_at members places a
read_spread members places count a known = elim (cases_lt a count) [
  | inl within ↦ read_within members places count a within
  | inr past ↦
      let none : get_or (spread members places count) a None ≡ None =
      get_or_past (spread members places count) a None
      (rw (length_spread members places count) past) in
      elim (placing members a) [
        | nowhere is ↦ rw is none
        | at_place k is ↦ let at = placed members a k is in
            absurd (omega (arith, known k no_inter at.0, at.1))
      ]
]

-- where no place has a record
pub spread_nothing : (members : List InterId) (n count : ℕ)
    → spread members (nothings OpenRecord n) count ≡ nothings OpenRecord count
spread_nothing members n count = ap (λ (f : ℕ → Option OpenRecord). map f (range_with_len 0 count))
    (fun_ext each)
  where
    each : (a : ℕ) → record_at members (nothings OpenRecord n) a ≡ None
    each a = elim (placing members a) [
      | nowhere is ↦ rw is refl
      | at_place k is ↦ rw is (read_nothing OpenRecord n k)
    ]

-- where a record is put in a place, or taken out
pub spread_set : (members : List InterId) (places : List (Option OpenRecord)) (count a k : ℕ)
    (x : Option OpenRecord) → a < count → k < length places → place_among members a ≡ Some k
    → spread members (set places k x) count ≡ set (spread members places count) a x
spread_set members places count a k x declared within here =
    ext_get_or None (spread members (set places k x) count) (set (spread members places count) a x)
    (length_spread members (set places k x) count
    ∙ sym (length-set (spread members places count) a x ∙ length_spread members places count))
    (λ i below. each i (omega (arith, below, length_spread members (set places k x) count)))
  where
    inside : a < length (spread members places count)
    inside = omega (arith, declared, length_spread members places count)

    other : (i : ℕ) → i < count → i ≢ a → get_or (spread members (set places k x) count) i None
        ≡ get_or (set (spread members places count) a x) i None
    other i below apart =
        let read : get_or (set (spread members places count) a x) i None
        ≡ record_at members places i = get_or-set_other
        (spread members places count) a i x None apart
        ∙ read_within members places count i below in
        let kept : record_at members (set places k x) i ≡ record_at members places i =
        elim (placing members i) [
          | nowhere is ↦ rw is refl
          | at_place j is ↦ rw is (get_or-set_other places k j x None
              (λ same. apart (one_place members i a k (is ∙ ap Some same) here)))
        ] in
        read_within members (set places k x) count i below ∙ (kept ∙ sym read)

    each : (i : ℕ) → i < count → get_or (spread members (set places k x) count) i None ≡ get_or
        (set (spread members places count) a x) i None
    each i below = elim (eqb_tells i a) [
      | inl same ↦
          let put_there : record_at members (set places k x) a ≡ x =
          rw here (get_or-set_same places k x None within) in
          rw same.1 (read_within members (set places k x) count a declared
          ∙ (put_there ∙ sym (get_or-set_same (spread members places count) a x None inside)))
      | inr apart ↦ other i below apart.1
    ]

-- the place of an interaction among the members of its class, which rise
pub own_place : (p : Planned) (a k class : ℕ) → IsPlanned p → a < length p.model.interactions
    → class_in p.classes a ≡ class → StandsAt p a k → place_among (members_of p class) a ≡ Some k
own_place p a k class planned declared own stands =
    let list = members_of p (class_in p.classes a) in
    let rising = planned.parted.rising (class_in p.classes a) []
    (class_known p a planned declared) in
    let within : k < length list = slice_get_within list k (inter a) stands in
    let here : get_or list k no_inter ≡ inter a =
    get_or_from_slice_get list k (inter a) no_inter stands in
    let number : (get_or list k no_inter).0 ≡ a = ap (λ (b : InterId). b.0) here in
    let first : position (has_number a) list ≡ Some k =
    position_first (has_number a) list k no_inter within
    (eq-eqb (get_or list k no_inter).0 a number)
    (λ i less. elim (eqb_tells (get_or list i no_inter).0 a) [
      | inl same ↦ absurd (omega (
        arith,
        below_later (λ (b : InterId).
            b.0) list rising i k no_inter less within,
        same.1,
        number,
      ))
      | inr apart ↦ apart.0
    ]) in
    subst (λ (n : ℕ). place_among (members_of p n) a ≡ Some k) own first

-- what is of no class, or of another one, has no place there
pub no_place : (p : Planned) (a class : ℕ) → IsPlanned p
    → (a < length p.model.interactions → ¬ (class_in p.classes a ≡ class))
    → place_among (members_of p class) a ≡ None
no_place p a class planned foreign = elim (placing (members_of p class) a) [
  | nowhere is ↦ is
  | at_place k is ↦
      let at = position-Some (has_number a) (members_of p class) k no_inter is in
      let own = member_own_at k at.0 at.1 in
      absurd (foreign own.0 own.1)
]
  where
    member_own_at : (k : ℕ) → k < length (members_of p class)
        → eqb (get_or (members_of p class) k no_inter).0 a ≡ true
        → (a < length p.model.interactions) × (class_in p.classes a ≡ class)
    member_own_at k within is = elim (cases_lt class (length p.classes.members)) [
      | inl known ↦ own_member p a class planned known
          (list_any-from_Any (has_number a) (members_of p class) (
            k,
            get_or (members_of p class) k no_inter,
            within,
            get_or_default (members_of p class) k
                (get_or (members_of p class) k no_inter) no_inter within,
            is,
          ))
      | inr past ↦ let none : k < 0 = rw (get_or_past p.classes.members class [] past) at within in
          absurd (omega arith)
    ]

-- the members of a class are interactions of the model
pub members_known : (p : Planned) (class : ℕ) → IsPlanned p
    → All (λ (b : InterId). b.0 < length p.model.interactions) (members_of p class)
members_known p class planned = elim (cases_lt class (length p.classes.members)) [
  | inl known ↦ rw (← planned.of_model) (planned.parted.known class [] known)
  | inr past ↦ rw (get_or_past p.classes.members class [] past) (λ k d within. absurd (omega arith))
]

-- a place is one of those of the class
pub place_within : (members : List InterId) (a k : ℕ) → place_among members a ≡ Some k
    → k < length members
place_within members a k is = (placed members a k is).0

-- what stands in the place of an interaction is read by its number
pub read_at : (members : List InterId) (places : List (Option OpenRecord)) (count a k : ℕ)
    (x : Option OpenRecord) → All (λ (b : InterId). b.0 < count) members
    → place_among members a ≡ Some k → k < length places → x ≡ get_or places k x
    → x ≡ get_or (spread members places count) a None
read_at members places count a k x known here within is =
    let stands : record_at members places a ≡ get_or places k None = rw here refl in
    is ∙ (get_or_default places k x None within
    ∙ sym (read_spread members places count a known ∙ stands))

-- where there is no place nothing is read
pub read_none : (members : List InterId) (places : List (Option OpenRecord)) (count a : ℕ)
    → All (λ (b : InterId). b.0 < count) members → place_among members a ≡ None
    → None ≡ get_or (spread members places count) a None
read_none members places count a known none =
    let nothing : record_at members places a ≡ None = rw none refl in
    sym (read_spread members places count a known ∙ nothing)

-- records by their parts
abbrev pub records_by : Planned → ℕ → List (Option OpenRecord) → KeptRecords
records_by p class pending = record { plan = p; class = class; pending = pending }
