-- No station is alone, and what is said of its conflicts.
use Rattle.std.proofs.Common.{◌≡◌, ◌≢◌, ℕ, ◌+◌, ◌<◌, ◌≤◌, true, eqb, List, [], ◌∷◌, ◌++◌}
use Rattle.std.proofs.Common.{length, get_or, refl, ap, sym, ◌∙◌, subst, arith, append-nil}
use Rattle.std.proofs.Common.{inl, inr, eqb-true}
use Rattle.std.specs.Prelude.{Contains, codes, slice_index_or}
use Rattle.std.proofs.lemmas.Bool.{cases_Bool, eqb-false, false≢true}
use Rattle.std.specs.List.{flat_map}
use Rattle.std.proofs.lemmas.List.{map_push}
use Rattle.std.proofs.lemmas.List.Concat.{flat_map-append}
use Rattle.std.proofs.lemmas.List.Elements.{Contains-get_or}
use Rattle.std.proofs.lemmas.Option.{slice_get-get_or}
use Rattle.bip_model.specs.Naming.{name_in}
use Rattle.bip_model.specs.Parts.{IsSystem}
use Rattle.bip_model.specs.Partitions.{class_in, numbers_in}
use Rattle.bip_model.specs.Priorities.{inter}
use Rattle.bip_model.specs.Steps.{IsLookedAt, moves}
use Rattle.bip_model.specs.Texts.{line_feed, spaced}
use Rattle.bip_model.specs.declared.numbering.InterId.{InterId}
use Rattle.bip_partition.specs.Laws.{IsPlanned}
use Rattle.bip_partition.specs.Plans.{AreStations, ClassTouches, IsReserved, IsTabled, Planned}
use Rattle.bip_partition.specs.Plans.{Touches, beside, looked_at, of_two_classes}
use Rattle.bip_partition.specs.Tables.{IsListBelow}
use Rattle.bip_partition.proofs.ClassLemmas.{stands_in_its_class}
use Rattle.bip_partition.proofs.ListedLemmas.{exact_in_all, none_below, one_has, one_lacks}
use Rattle.bip_partition.proofs.TableLemmas.{reserved_known}
use Rattle.bip_partition.proofs.TouchLemmas.{touches_known}
use Rattle.bip_review.specs.Writing.{AddsConflicts, AddsLine, AddsLines, ConflictsWith}
use Rattle.bip_review.specs.Writing.{IsLineOfStation, IsListConflicting, IsStationLine}
use Rattle.bip_review.specs.Writing.{IsStationShown, StationShown, names_text, one_more}
use Rattle.bip_review.specs.Writing.{station_text}
use Rattle.bip_review.proofs.WritingLemmas.{joined}

-- what moves a component with a row is in conflict with another one that touches it
by_moving : (p : Planned) (a b c : ℕ) → b ≢ a → IsTabled p c → moves p.model a c ≡ true
    → Touches p.model b c → ConflictsWith p a b
by_moving p a b c other tabled moved touched = record {
  other = other;
  station = record { comp = c; touched = touched; tabled = tabled };
  conflict = (c, (inl moved, touched, inl moved));
}

-- what looks at one is in conflict with one above it, which moves it
by_looking : (p : Planned) (a c : ℕ) → IsTabled p c → IsLookedAt p.model a c → (b : ℕ)
    × ConflictsWith p a b
by_looking p a c tabled looked = (
  looked.higher,
  record {
    other =
        λ same. false≢true (sym looked.other ∙ (ap (λ k. moves p.model k c) (sym same)
        ∙ looked.moved));
    station = record { comp = c; touched = inl looked.moved; tabled = tabled };
    conflict = (c, (inr looked, inl looked.moved, inr looked.moved));
  },
)

-- what touches a component from another class is another interaction
of_another : (p : Planned) → IsPlanned p → (a k c : ℕ) → a < length p.model.interactions
    → k ≢ class_in p.classes a → (at : ClassTouches p k c) → at.1.0 ≢ a
of_another p planned a k c within other at same = other
    ((stands_in_its_class p planned a within).1 k
    (subst (λ n. Contains (slice_index_or p.classes.members k []) (inter n)) same
    (at.0, at.2, at.3)))

-- what touches a component with a row is in conflict with another station
crowded : (p : Planned) → IsPlanned p → (a c : ℕ) → IsTabled p c → Touches p.model a c → (b : ℕ)
    × ConflictsWith p a b
crowded p planned a c tabled (inr looked) = by_looking p a c tabled looked
crowded p planned a c (looked_at {a = b} looked) (inl moved) = (
  b,
  by_moving p a b c
      (λ same. false≢true (sym looked.other ∙ (ap (λ k. moves p.model k c) same ∙ moved)))
      (looked_at looked) moved (inr looked),
)
crowded p planned a c (of_two_classes {k} {l} differ one other) (inl moved) =
    let within = touches_known p.model a c planned.valid (inl moved) in
    let tabled : IsTabled p c = of_two_classes differ one other in
    elim (cases_Bool (eqb k (class_in p.classes a))) [
      | inl same ↦ (
        other.1.0,
        by_moving p a other.1.0 c (of_another p planned a l c within
            (λ is. differ (eqb-true k (class_in p.classes a) same ∙ sym is)) other) tabled moved
            other.4,
      )
      | inr apart ↦ (
        one.1.0,
        by_moving p a one.1.0 c (of_another p planned a k c within
            (eqb-false k (class_in p.classes a) apart) one) tabled moved one.4,
      )
    ]
crowded p planned a c (beside {a = b} {d = d} own near rest) (inl moved) =
    elim (cases_Bool (eqb b a)) [
      | inl same ↦ crowded p planned a d rest
          (subst (λ n. Touches p.model n d) (eqb-true b a same) near)
      | inr apart ↦
          (b, by_moving p a b c (eqb-false b a apart) (beside own near rest) moved own)
    ]

-- what a list has is there
some_where : (list : List InterId) (a : InterId) → Contains list a → 0 < length list
some_where list a at = omega (arith, at.1)

-- what is reserved by the list of stations
pub station_reserved : (p : Planned) (stations : List InterId) (s : ℕ) (d : InterId)
    → AreStations p stations → s < length stations → IsReserved p (get_or stations s d).0
station_reserved p stations s d listed within = (listed.exact (get_or stations s d).0).0
    (Contains-get_or stations s d within)

-- what is spelled of the interactions below a bound that are in conflict, behind a text
pub record AddsConflictsBelow (p : Planned) (spell : ℕ → List ℕ) (a bound : ℕ)
    (old new : List ℕ) : Type 0 where
  pub list : List InterId
  pub below : IsListBelow (λ (b : InterId). b.0) inter (ConflictsWith p a) bound list
  pub added : new ≡ old ++ flat_map spell (numbers_in list)

pub no_conflict : (p : Planned) (spell : ℕ → List ℕ) (a : ℕ) (old : List ℕ)
    → AddsConflictsBelow p spell a 0 old old
no_conflict p spell a old = record {
  list = [];
  below = none_below (λ (b : InterId). b.0) inter (λ n. refl) (λ x. refl) (ConflictsWith p a);
  added = sym (append-nil old);
}

-- one more of them
pub one_conflict : (p : Planned) (spell : ℕ → List ℕ) (a n : ℕ) (old mid new : List ℕ)
    → AddsConflictsBelow p spell a n old mid → ConflictsWith p a n → new ≡ mid ++ spell n
    → AddsConflictsBelow p spell a (n + 1) old new
one_conflict p spell a n old mid new h is more =
    let one : spell n ++ [] ≡ spell n = append-nil (spell n) in
    record {
      list = h.list ++ inter n ∷ [];
      below = one_has (λ (b : InterId). b.0) inter (λ k. refl) (λ x. refl) (ConflictsWith p a)
          n h.list h.below is;
      added = rw (map_push (λ (b : InterId). b.0) h.list (inter n))
          (rw (flat_map-append spell (numbers_in h.list) (n ∷ []))
          (rw one (joined old (flat_map spell (numbers_in h.list)) mid (spell n) new h.added
          more)));
    }

-- one more that isn't
pub other_skipped : (p : Planned) (spell : ℕ → List ℕ) (a n : ℕ) (old mid : List ℕ)
    → AddsConflictsBelow p spell a n old mid → (¬ ConflictsWith p a n)
    → AddsConflictsBelow p spell a (n + 1) old mid
other_skipped p spell a n old mid h isnt = record {
  list = h.list;
  below = one_lacks (λ (b : InterId). b.0) inter (λ k. refl) (λ x. refl) (ConflictsWith p a) n
      h.list h.below isnt;
  added = h.added;
}

-- all interactions were asked
pub all_conflicts : (p : Planned) (spell : ℕ → List ℕ) (a n : ℕ) (old new : List ℕ)
    → IsSystem p.model → length p.model.interactions ≤ n
    → (h : AddsConflictsBelow p spell a n old new) → IsListConflicting p a h.list
all_conflicts p spell a n old new valid all h = record {
  rising = h.below.rising;
  exact = exact_in_all (λ (b : InterId). b.0) inter (λ k. refl) (λ x. refl) (ConflictsWith p a)
      n h.list h.below (λ b is. omega (arith, reserved_known p b valid is.station, all));
}

-- what is shown of a station is true, since it isn't alone
pub station_shown : (p : Planned) (a : ℕ) (list : List InterId) → IsPlanned p → IsReserved p a
    → IsListConflicting p a list → IsStationShown p a (record { conflicts = list })
station_shown p a list planned reserved is =
    let other = crowded p planned a reserved.comp reserved.tabled reserved.touched in
    record {
      conflicts = is;
      some = some_where list (inter other.0) ((is.exact other.0).1 other.1);
    }

-- a line of a station, of its parts
pub station_line : (p : Planned) (a : ℕ) (old t1 t2 t3 t4 new : List ℕ)
    → IsPlanned p → IsReserved p a
    → t1 ≡ old ++ codes "station"
    → t2 ≡ t1 ++ spaced (name_in p.model.interaction_names a)
    → t3 ≡ t2 ++ codes " conflicts"
    → AddsConflicts p a t3 t4
    → new ≡ t4 ++ line_feed ∷ []
    → AddsLine (IsStationLine p a) old new
station_line p a old t1 t2 t3 t4 new planned reserved e1 e2 e3 more e5 =
    let name : List ℕ = spaced (name_in p.model.interaction_names a) in
    let word : List ℕ = codes " conflicts" in
    let names : List ℕ = names_text p.model.interaction_names (numbers_in more.conflicts) in
    let w3 = joined t3 names t4 (line_feed ∷ []) new more.added e5 in
    let w2 = joined t2 word t3 (names ++ line_feed ∷ []) new e3 w3 in
    let w1 = joined t1 name t2 (word ++ (names ++ line_feed ∷ [])) new e2 w2 in
    let shown : StationShown = record { conflicts = more.conflicts } in
    record {
      line = station_text p a shown;
      holds = record {
        shown = shown;
        holds = station_shown p a more.conflicts planned reserved more.holds;
        spelled = refl;
      };
      added = joined old (codes "station") t1 (name ++ (word ++ (names ++ line_feed ∷ []))) new e1
          w1;
    }

-- one line more of a station
pub one_station : (p : Planned) (stations : List InterId) (s : ℕ) (d : InterId)
    (old mid new : List ℕ) → s < length stations
    → AddsLines (IsLineOfStation p stations) old s mid
    → AddsLine (IsStationLine p (get_or stations s d).0) mid new
    → AddsLines (IsLineOfStation p stations) old (s + 1) new
one_station p stations s d old mid new within before line =
    rw line.added (one_more before
    (get_or stations s d, slice_get-get_or stations s d within, line.holds))
