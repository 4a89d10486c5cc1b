-- Lines that are written as is expected: such a line reads as a grant that is expected.
use Rattle.std.proofs.Common.{◌≡◌, ℕ, ◌+◌, ◌<◌, ◌≤◌, Bool, true, false, not, ◌||◌, eqb, eqb-true}
use Rattle.std.proofs.Common.{eq-eqb, List, [], ◌∷◌, ◌++◌, length, map, take, get_or, Option, None}
use Rattle.std.proofs.Common.{Some, refl, sym, ◌∙◌, inl, inr, arith}
use Rattle.std.specs.Prelude.{◌↔◌, All, codes, MatchOption, IfSome}
use Rattle.std.specs.Fmt.{decimal}
use Rattle.std.specs.List.{AllByRecursion, AllZip, IsDistinct, flat_map, list_any}
use Rattle.std.specs.List.Sorted.{IsPermutation, IsStrictlyIncreasing}
use Rattle.std.proofs.lemmas.Bool.{and_parts, cases_Bool, false≢true}
use Rattle.std.proofs.lemmas.Cmp.{nat_eq_equiv}
use Rattle.std.proofs.lemmas.Grind.{flat_map-append}
use Rattle.std.proofs.lemmas.List.{append_assoc, append-nil, get_or_default, length-append}
use Rattle.std.proofs.lemmas.List.{length-map, map-append, take_more}
use Rattle.std.proofs.lemmas.List.Elements.{All-append, All-cons, All-from_recursion, All-head}
use Rattle.std.proofs.lemmas.List.Elements.{All-map, All-nil, All-tail, All-weaker, Contains-get_or}
use Rattle.std.proofs.lemmas.List.Elements.{recursion_from_All}
use Rattle.std.proofs.lemmas.List.Folds.{Any-from_list_any, list_any-append, list_any-from_Any}
use Rattle.std.proofs.lemmas.List.Sorted.{All-permutation, IsPermutation-append_left}
use Rattle.std.proofs.lemmas.List.Sorted.{IsPermutation-append_right, IsPermutation-map}
use Rattle.std.proofs.lemmas.List.Sorted.{IsPermutation-refl, IsPermutation-sym}
use Rattle.std.proofs.lemmas.List.Sorted.{IsPermutation-trans, length_permutation}
use Rattle.std.proofs.lemmas.List.Sorted.{list_any-IsPermutation}
use Rattle.std.proofs.lemmas.Map.Keys.{IsDistinct-cons, IsDistinct-head, IsDistinct-tail}
use Rattle.std.proofs.lemmas.Option.{slice_get-get_or, slice_get_cases, slice_get_within}
use Rattle.std.proofs.lemmas.Simd.{map-map}
use Rattle.bip_model.proofs.ListLemmas.{All-slice_get}
use Rattle.bip_model.proofs.LookLemmas.{looked_known}
use Rattle.bip_model.proofs.NumberingLemmas.{AreNumbered, apart_from_rises, by_number-IsPermutation}
use Rattle.bip_model.proofs.NumberingLemmas.{by_number-rises, increasing_from_rises}
use Rattle.bip_model.proofs.NumberingLemmas.{rises_from_increasing}
use Rattle.bip_model.proofs.PartyLemmas.{in_looks, moved_role}
use Rattle.bip_model.proofs.WrittenLemmas.{IsWord, name-word, number_of-decimal, pair-word}
use Rattle.bip_model.proofs.WrittenLemmas.{plain_spaced, words_spaced}
use Rattle.bip_model.specs.Naming.{name_in}
use Rattle.bip_model.specs.Numbering.{by_number}
use Rattle.bip_model.specs.Parties.{AreParties, IsWanted, SeeAll, is_moving, is_seeing}
use Rattle.bip_model.specs.Parts.{IsInteraction, IsSystem, Participant, components_in}
use Rattle.bip_model.specs.Steps.{IsListLookedAt, moves, participants_of}
use Rattle.bip_model.specs.Texts.{is_plain, spaced, words}
use Rattle.bip_model.specs.Wants.{is_moved}
use Rattle.bip_model.specs.declared.grants.Grant.{Grant}
use Rattle.bip_model.specs.declared.numbering.CompId.{CompId}
use Rattle.bip_model.specs.declared.parts.Interaction.{Interaction}
use Rattle.bip_model.specs.declared.parts.System.{System}
use Rattle.bip_model.specs.declared.wants.Role.{Role}
use Rattle.bip_model.specs.declared.wants.Role.TheVariants.{Moved, Seen}
use Rattle.bip_model.specs.declared.wants.Want.{Want}
use Rattle.bip_replay.proofs.GrantLemmas.{line_reads}
use Rattle.bip_replay.proofs.NamedLemmas.{comp_of}
use Rattle.bip_replay.specs.Expected.{BeginsWith, BeginsWithWants, Expects, HasNextWord}
use Rattle.bip_replay.specs.Expected.{IsInterName, IsPlainBefore, TakesWants, comps_of}
use Rattle.bip_replay.specs.Expected.{next_word}
use Rattle.bip_replay.specs.Laws.{IsGrantLine, IsNameOf, Spells}
use Rattle.bip_replay.specs.Runs.{HasNextNumber, Standing}
use Rattle.bip_replay.specs.Writing.{behind_see}

-- what is said where there is a value
pub if_some : {X : Type 0} (A : Type 0) (P : X → Type 0) (r : Option X) → MatchOption r A P
    → IfSome r P
if_some A P None is = tt
if_some A P (Some x) is = is

-- what says more where there is a value
pub some_weaker : {X : Type 0} (P Q : X → Type 0) (r : Option X) → ((x : X) → P x → Q x)
    → IfSome r P → IfSome r Q
some_weaker P Q None tells is = tt
some_weaker P Q (Some x) tells is = tells x is

-- a component by its number, piece by piece
pub word_of : (p : Standing) (c : CompId) (text second third rest : List ℕ)
    → text ≡ name_in p.model.component_names c.0 ++ second → second ≡ 58 ∷ third
    → third ≡ decimal (p.used c.0 + 1) ++ rest → text ≡ next_word p c ++ rest
word_of p c text second third rest f g h = rw (f, g, h) (simp append_assoc)

-- it begins a text behind a space
pub begins_one : (p : Standing) (c : CompId) (text first rest : List ℕ) → HasNextWord p c
    → text ≡ 32 ∷ first → first ≡ next_word p c ++ rest → BeginsWith p (c ∷ []) text rest
begins_one p c text first rest next e f =
    record {
      begins = rw (e, f) (simp (append_assoc, append-nil));
      words = All-cons (HasNextWord p) c [] next (All-nil (HasNextWord p));
    }

-- nothing yet
pub begins_none : (p : Standing) (text : List ℕ) → BeginsWith p [] text text
begins_none p text = record { begins = refl; words = All-nil (HasNextWord p) }

-- one component more
pub begins_more : (p : Standing) (before after : List CompId) (c : CompId) (text mid rest : List ℕ)
    → BeginsWith p before text mid → BeginsWith p (c ∷ []) mid rest → after ≡ before ++ c ∷ []
    → BeginsWith p after text rest
begins_more p before after c text mid rest so one is =
    rw is (record {
      begins = rw (so.begins, one.begins) (simp (map-append, flat_map-append, append_assoc));
      words = All-append (HasNextWord p) before (c ∷ []) so.words one.words;
    })

-- of numbers in two lists, each of which has none twice, none is in both
distinct_beside : (ns ks : List ℕ) → IsDistinct eqb ns → IsDistinct eqb ks
    → All (λ n. list_any (eqb n) ks ≡ false) ns → IsDistinct eqb (ns ++ ks)
distinct_beside [] ks one other apart = other
distinct_beside (n ∷ ns) ks one other apart =
    IsDistinct-cons eqb n (ns ++ ks)
    (recursion_from_All (λ k. eqb n k ≡ false) (ns ++ ks)
    (All-append (λ k. eqb n k ≡ false) ns ks (All-from_recursion (λ k. eqb n k ≡ false) ns
    (IsDistinct-head eqb n ns one)) (All-from_recursion (λ k. eqb n k ≡ false) ks
    (none ks (All-head (λ i. list_any (eqb i) ks ≡ false) n ns apart)))))
    (distinct_beside ns ks (IsDistinct-tail eqb n ns one) other
    (All-tail (λ i. list_any (eqb i) ks ≡ false) n ns apart))
  where
    none : (js : List ℕ) → list_any (eqb n) js ≡ false → AllByRecursion (λ k. eqb n k ≡ false) js
    none [] is = tt
    none (j ∷ js) is = (grind arith, none js (grind arith))

-- the numbers of components
abbrev numbers_of : List CompId → List ℕ
numbers_of cs = map (λ (c : CompId). c.0) cs

-- whether a component is among others
abbrev is_one : ℕ → List CompId → Bool
is_one n cs = list_any (λ (c : CompId). eqb c.0 n) cs

any_number : (n : ℕ) (cs : List CompId) → list_any (eqb n) (numbers_of cs) ≡ is_one n cs
any_number n [] = refl
any_number n (c ∷ cs) = rw (nat_eq_equiv.symm n c.0, any_number n cs) refl

is_one-from : (cs : List CompId) → All (λ n. is_one n cs ≡ true) (numbers_of cs)
is_one-from cs = λ k d within.
    let inside : k < length cs = simp length-map at within in
    rw (← any_number (get_or (numbers_of cs) k d) cs)
    (list_any-from_Any (eqb (get_or (numbers_of cs) k d)) (numbers_of cs) (
      k,
      get_or (numbers_of cs) k d,
      within,
      get_or_default (numbers_of cs) k (get_or (numbers_of cs) k d) d within,
      nat_eq_equiv.refl
          (get_or (numbers_of cs) k d),
    ))

moved_by : (qs : List Participant) (n : ℕ) → is_one n (comps_of qs) ≡ list_any
    (λ (q : Participant). eqb q.0.0 n) qs
moved_by [] n = refl
moved_by (q ∷ qs) n = rw (moved_by qs n) refl

-- the want of a component by the number of its next move
abbrev next_want : (ℕ → ℕ) → Role → CompId → Want
next_want used role c = record { number = used c.0 + 1; comp = c; role = role }

abbrev next_wants : (ℕ → ℕ) → Role → List CompId → List Want
next_wants used role cs = map (next_want used role) cs

comps_wanted : (used : ℕ → ℕ) (role : Role) (cs : List CompId)
    → map comp_of (next_wants used role cs) ≡ numbers_of cs
comps_wanted used role cs = map-map comp_of (next_want used role) cs

moving-moved : (used : ℕ → ℕ) (cs : List CompId) (n : ℕ)
    → list_any (is_moving n) (next_wants used Moved cs) ≡ is_one n cs
moving-moved used [] n = refl
moving-moved used (c ∷ cs) n = grind (arith, moving-moved used cs n)

moving-seen : (used : ℕ → ℕ) (cs : List CompId) (n : ℕ)
    → list_any (is_moving n) (next_wants used Seen cs) ≡ false
moving-seen used [] n = refl
moving-seen used (c ∷ cs) n = grind (arith, moving-seen used cs n)

seeing-moved : (used : ℕ → ℕ) (cs : List CompId) (n : ℕ)
    → list_any (is_seeing n) (next_wants used Moved cs) ≡ false
seeing-moved used [] n = refl
seeing-moved used (c ∷ cs) n = grind (arith, seeing-moved used cs n)

seeing-seen : (used : ℕ → ℕ) (cs : List CompId) (n : ℕ)
    → list_any (is_seeing n) (next_wants used Seen cs) ≡ is_one n cs
seeing-seen used [] n = refl
seeing-seen used (c ∷ cs) n = grind (arith, seeing-seen used cs n)

seen_role : (r : Role) → not (is_moved r) ≡ true → r ≡ Seen
seen_role Moved is = absurd (false≢true is)
seen_role Seen is = refl

-- a component is wanted with a role where a want passes the test
pub moving : (ws : List Want) (n : ℕ) → IsWanted Moved ws n ↔ (list_any (is_moving n) ws ≡ true)
moving ws n = (
  λ at. list_any-from_Any (is_moving n) ws (
    at.0,
    at.1,
    at.2,
    at.3,
    rw (eq-eqb at.1.comp.0 n at.4.0, at.4.1) refl,
  ),
  λ test. let at = Any-from_list_any (is_moving n) ws test in
      let both = and_parts (eqb at.1.comp.0 n) (is_moved at.1.role) at.4 in
      (at.0, at.1, at.2, at.3, (eqb-true at.1.comp.0 n both.0, moved_role at.1.role both.1)),
)

seeing : (ws : List Want) (n : ℕ) → IsWanted Seen ws n ↔ (list_any (is_seeing n) ws ≡ true)
seeing ws n = (
  λ at. list_any-from_Any (is_seeing n) ws (
    at.0,
    at.1,
    at.2,
    at.3,
    rw (eq-eqb at.1.comp.0 n at.4.0, at.4.1) refl,
  ),
  λ test. let at = Any-from_list_any (is_seeing n) ws test in
      let both = and_parts (eqb at.1.comp.0 n) (not (is_moved at.1.role)) at.4 in
      (at.0, at.1, at.2, at.3, (eqb-true at.1.comp.0 n both.0, seen_role at.1.role both.1)),
)

-- the words of next wants spell them
next-spelled : (p : Standing) (role : Role) (cs : List CompId) → All (HasNextWord p) cs
    → AllZip (Spells p.model role) (map (next_word p) cs) (next_wants p.used role cs)
next-spelled p role [] words = tt
next-spelled p role (c ∷ cs) words =
    let has = All-head (HasNextWord p) c cs words in (
      record {
        component = name_in p.model.component_names c.0;
        numeral = decimal (p.used c.0 + 1);
        parts = refl;
        names = record {
          name = has.name;
          known = slice_get-get_or p.model.component_names c.0 [] has.known;
        };
        number = number_of-decimal (p.used c.0 + 1) (omega arith) (omega (arith, has.next));
        by_place = refl;
      },
      next-spelled p role cs (All-tail (HasNextWord p) c cs words),
    )

-- they have the numbers of the next moves
next-numbers : (p : Standing) (role : Role) (cs : List CompId) → All (HasNextWord p) cs
    → All (HasNextNumber p.used) (next_wants p.used role cs)
next-numbers p role cs words =
    All-map (HasNextNumber p.used) (next_want p.used role) cs
    (λ k d within. let has = words k d within in
    record { next = refl; fits = omega (arith, has.next) })

-- they can stand in a line
next-words : (p : Standing) (cs : List CompId) → All (HasNextWord p) cs
    → All IsWord (map (next_word p) cs)
next-words p cs words =
    All-map IsWord (next_word p) cs (λ k d within. let has = words k d within in
    pair-word (name_in p.model.component_names (get_or cs k d).0)
    (p.used (get_or cs k d).0 + 1) has.name (omega (arith, has.next)))

-- so can they behind `see`
seen-words : (ws : List (List ℕ)) → All IsWord ws → All IsWord (behind_see ws)
seen-words [] all = all
seen-words (w ∷ ws) all = All-cons IsWord (codes "see") (w ∷ ws) (refl, refl) all

-- what holds of the participants of each interaction holds of those of a declared one
pub of_interaction : (m : System) (a : ℕ) (P : List Participant → Type 0) → IsSystem m
    → a < length m.interactions → ((i : Interaction) → IsInteraction m.components i
    → P i.participants) → P (participants_of m a)
of_interaction m a P valid declared tells = elim (slice_get_cases m.interactions a).1 [
  | inl here ↦ rw here.2 (tells here.0 (All-slice_get
      (IsInteraction m.components) m.interactions a here.0 valid.so_far.interactions here.2))
  | inr past ↦ absurd (omega (arith, past.0, declared))
]

-- where a line has the words of what is expected of an interaction, the grant that is
module _ (p : Standing) (a : ℕ) (ds : List CompId) (valid : IsSystem p.model)
    (declared : a < length p.model.interactions) (listed : IsListLookedAt p.model a ds)
    (mine : All (HasNextWord p) (comps_of (participants_of p.model a)))
    (theirs : All (HasNextWord p) ds) where
  abbrev moved_comps : List CompId
  moved_comps = comps_of (participants_of p.model a)

  abbrev moved_wants : List Want
  moved_wants = next_wants p.used Moved moved_comps

  abbrev seen_wants : List Want
  seen_wants = next_wants p.used Seen ds

  abbrev expected : Grant
  expected = record {
    inter = record { 0 = a };
    wants = by_number comp_of (moved_wants ++ seen_wants);
  }

  apart : AreNumbered comp_of (moved_wants ++ seen_wants)
  apart =
      let moved_rise : IsStrictlyIncreasing (numbers_of moved_comps) =
      rw (map-map (λ (c : CompId). c.0) (λ (q : Participant). q.0) (participants_of p.model a))
      (of_interaction p.model a (λ qs. IsStrictlyIncreasing (components_in qs)) valid declared
      (λ i is. is.rising)) in
      rw (
        map-append comp_of moved_wants seen_wants,
        comps_wanted p.used Moved moved_comps,
        comps_wanted p.used Seen ds,
      )
      (distinct_beside (numbers_of moved_comps) (numbers_of ds)
      (apart_from_rises (numbers_of moved_comps)
      (rises_from_increasing (numbers_of moved_comps) moved_rise))
      (apart_from_rises (numbers_of ds) (rises_from_increasing (numbers_of ds) listed.rising))
      (All-weaker (λ n. is_one n moved_comps ≡ true)
      (λ n. list_any (eqb n) (numbers_of ds) ≡ false) other (numbers_of moved_comps)
      (is_one-from moved_comps)))
    where
      other : (n : ℕ) → is_one n moved_comps ≡ true → list_any (eqb n) (numbers_of ds) ≡ false
      other n own = elim (cases_Bool (is_one n ds)) [
        | inl look ↦ absurd (false≢true (sym ((in_looks p.model a ds listed n).1 look).other
            ∙ (sym (moved_by (participants_of p.model a) n) ∙ own)))
        | inr none ↦ any_number n ds ∙ none
      ]

  permuted : IsPermutation (moved_wants ++ seen_wants) expected.wants
  permuted = by_number-IsPermutation comp_of (moved_wants ++ seen_wants)

  any_wanted : (test : Want → Bool) → list_any test expected.wants
      ≡ (list_any test moved_wants || list_any test seen_wants)
  any_wanted test = sym (list_any-IsPermutation test
      (moved_wants ++ seen_wants) expected.wants permuted)
      ∙ list_any-append test moved_wants seen_wants

  parties : AreParties p.model a expected.wants
  parties = record {
    moved = λ n. (
      λ at. sym (moves_one n) ∙ (moving expected.wants n).0 at,
      λ moves. (moving expected.wants n).1 (moves_one n ∙ moves),
    );
    seen = λ n at. (in_looks p.model a ds listed n).1
        (sym (sees_one n) ∙ (seeing expected.wants n).0 at);
  }
    where
      moves_one : (n : ℕ) → list_any (is_moving n) expected.wants ≡ moves p.model a n
      moves_one n = let any = any_wanted (is_moving n) in
          grind (
            arith,
            moving-moved p.used moved_comps n,
            moving-seen p.used ds n,
            moved_by (participants_of p.model a) n,
          )

      sees_one : (n : ℕ) → list_any (is_seeing n) expected.wants ≡ is_one n ds
      sees_one n = let any = any_wanted (is_seeing n) in
          grind (arith, seeing-moved p.used moved_comps n, seeing-seen p.used ds n)

  all_seen_too : SeeAll p.model a expected.wants
  all_seen_too n looks = (seeing expected.wants n).1
      (sees_one n ∙ (in_looks p.model a ds listed n).0 looks)
    where
      sees_one : (n : ℕ) → list_any (is_seeing n) expected.wants ≡ is_one n ds
      sees_one n = let any = any_wanted (is_seeing n) in
          grind (arith, seeing-moved p.used moved_comps n, seeing-seen p.used ds n)

  numbers : All (HasNextNumber p.used) expected.wants
  numbers =
      All-permutation (HasNextNumber p.used) (moved_wants ++ seen_wants) expected.wants permuted
      (All-append (HasNextNumber p.used) moved_wants seen_wants
      (next-numbers p Moved moved_comps mine) (next-numbers p Seen ds theirs))

  -- a line with such words, in any order, is that grant's
  module _ (line name : List ℕ) (ms ss : List CompId)
      (few : length (participants_of p.model a) + length ds ≤ 32)
      (is : IsNameOf p.model.interaction_names name a) (all_moved : IsPermutation moved_comps ms)
      (all_seen : IsPermutation ds ss) (plain : is_plain line ≡ true)
      (says : words line ≡ codes "grant" ∷ name
      ∷ (map (next_word p) ms ++ behind_see (map (next_word p) ss))) where
    same_wants : IsPermutation (next_wants p.used Moved ms ++ next_wants p.used Seen ss)
        expected.wants
    same_wants =
        IsPermutation-trans (next_wants p.used Moved ms ++ next_wants p.used Seen ss)
        (moved_wants ++ seen_wants) expected.wants
        (IsPermutation-sym (moved_wants ++ seen_wants)
        (next_wants p.used Moved ms ++ next_wants p.used Seen ss)
        (IsPermutation-trans (moved_wants ++ seen_wants) (next_wants p.used Moved ms ++ seen_wants)
        (next_wants p.used Moved ms ++ next_wants p.used Seen ss)
        (IsPermutation-append_left seen_wants moved_wants (next_wants p.used Moved ms)
        (IsPermutation-map (next_want p.used Moved) moved_comps ms all_moved))
        (IsPermutation-append_right (next_wants p.used Moved ms) seen_wants
        (next_wants p.used Seen ss) (IsPermutation-map
        (next_want p.used Seen) ds ss all_seen))))
        permuted

    line_is : IsGrantLine p.model line expected
    line_is = record {
      interaction = name;
      moved_words = map (next_word p) ms;
      seen_words = map (next_word p) ss;
      moved = next_wants p.used Moved ms;
      seen = next_wants p.used Seen ss;
      plain = plain;
      says = says;
      named = is;
      moves = next-spelled p Moved ms (All-permutation
          (HasNextWord p) moved_comps ms all_moved mine);
      sees = next-spelled p Seen ss (All-permutation (HasNextWord p) ds ss all_seen theirs);
      some = rw (
        length-map ms (next_want p.used Moved),
        length_permutation moved_comps ms all_moved,
        length-map (participants_of p.model a)
            (λ (q : Participant). q.0),
      ) (of_interaction p.model a (λ qs. 0 < length qs) valid declared
          (λ i is'. is'.some));
      few = rw (
        length_permutation (moved_wants ++ seen_wants) expected.wants permuted,
        length-append moved_wants seen_wants,
        length-map moved_comps (next_want p.used Moved),
        length-map (participants_of p.model a) (λ (q : Participant). q.0),
        length-map ds
            (next_want p.used Seen),
      ) few;
      wants = same_wants;
      rising = increasing_from_rises (map comp_of expected.wants)
          (by_number-rises comp_of (moved_wants ++ seen_wants) apart);
    }

    expects : Expects p line a
    expects = record {
      grant = expected;
      reads = line_reads p.model line expected valid line_is;
      is = record { inter = refl; numbers = numbers; parties = parties; all = all_seen_too };
    }

  -- so is a line that is written with them
  module _ (line name : List ℕ) (few : length (participants_of p.model a) + length ds ≤ 32)
      (is : IsNameOf p.model.interaction_names name a)
      (written : line ≡ codes "grant" ++ flat_map spaced
      (name ∷ (map (next_word p) moved_comps ++ behind_see (map (next_word p) ds)))) where
    abbrev behind : List (List ℕ)
    behind = name ∷ (map (next_word p) moved_comps ++ behind_see (map (next_word p) ds))

    all : All IsWord behind
    all =
        All-cons IsWord name (map (next_word p) moved_comps ++ behind_see (map (next_word p) ds))
        (name-word name is.name)
        (All-append IsWord (map (next_word p) moved_comps) (behind_see (map (next_word p) ds))
        (next-words p moved_comps mine) (seen-words (map (next_word p) ds)
        (next-words p ds theirs)))

    expects_written : Expects p line a
    expects_written =
        expects line name moved_comps ds few is (IsPermutation-refl moved_comps)
        (IsPermutation-refl ds)
        (rw written (plain_spaced (codes "grant") behind refl all))
        (rw written (words_spaced (codes "grant") behind (refl, refl) all))

-- a line that is written as is expected of an interaction reads as it
pub expects_as_written : (p : Standing) (line name rest : List ℕ) (a : ℕ)
    → IsInterName p.model name a → line ≡ codes "grant " ++ (name ++ rest)
    → BeginsWithWants p a rest [] → Expects p line a
expects_as_written p line name rest a inter is wants =
    expects_written p a wants.looks inter.valid
    (omega (
      arith,
      slice_get_within p.model.interaction_names a name inter.named.known,
      inter.valid.so_far.interactions_named,
    )) wants.listed wants.moved wants.seen line name
    wants.few inter.named
    (is ∙ rw wants.begins (simp (flat_map-append, append_assoc, append-nil)))

-- a line that says an expected grant in any order reads as it
pub expects_as_said : (p : Standing) (line name text rest : List ℕ) (a : ℕ)
    → IsInterName p.model name a → words line ≡ codes "grant" ∷ name ∷ words text
    → IsPlainBefore line text → TakesWants p a text rest → words rest ≡ []
    → is_plain rest ≡ true → Expects p line a
expects_as_said p line name text rest a inter says plain wants none over =
    let comps = comps_of (participants_of p.model a) in
    expects p a wants.looks inter.valid (omega (
      arith,
      slice_get_within p.model.interaction_names a name inter.named.known,
      inter.valid.so_far.interactions_named,
    )) wants.listed
    (All-permutation (HasNextWord p) wants.moved comps
    (IsPermutation-sym comps wants.moved wants.all_moved) wants.moves)
    (All-permutation (HasNextWord p) wants.seen wants.looks
    (IsPermutation-sym wants.looks wants.seen wants.all_seen) wants.sees)
    line name wants.moved wants.seen wants.few inter.named wants.all_moved wants.all_seen
    (plain (wants.plain over))
    (says ∙ rw (wants.says, none) (simp append-nil))

-- one participant more, and one more that is looked at
pub more_participants : (p : Standing) (qs : List Participant) (i : ℕ) (d : Participant)
    (text mid rest : List ℕ) → i < length qs → BeginsWith p (comps_of (take i qs)) text mid
    → BeginsWith p ((get_or qs i d).0 ∷ []) mid rest
    → BeginsWith p (comps_of (take (i + 1) qs)) text rest
more_participants p qs i d text mid rest within so one =
    begins_more p (comps_of (take i qs)) (comps_of (take (i + 1) qs))
    (get_or qs i d).0 text mid rest so one
    (rw (take_more qs i d within) (map-append (λ (q : Participant). q.0) (take i qs)
    (get_or qs i d ∷ [])))

pub more_comps : (p : Standing) (cs : List CompId) (i : ℕ) (d : CompId) (text mid rest : List ℕ)
    → i < length cs → BeginsWith p (take i cs) text mid → BeginsWith p (get_or cs i d ∷ []) mid rest
    → BeginsWith p (take (i + 1) cs) text rest
more_comps p cs i d text mid rest within so one =
    begins_more p (take i cs) (take (i + 1) cs) (get_or cs i d) text mid rest so one
    (take_more cs i d within)

-- what is looked at is a component of the model
pub looks_known : (m : System) (a : ℕ) (ds : List CompId) → IsSystem m → IsListLookedAt m a ds
    → All (λ (c : CompId). c.0 < length m.component_names) ds
looks_known m a ds valid listed k d within =
    let look = (listed.exact (get_or ds k d).0).0 (Contains-get_or ds k d within) in
    omega (arith, looked_known m a (get_or ds k d).0 valid.so_far look, valid.components_named)

-- what is moved, and behind `see` what is looked at
pub begins_wants : (p : Standing) (a : ℕ) (ds : List CompId) (text mid after rest : List ℕ)
    → IsListLookedAt p.model a ds → length (participants_of p.model a) + length ds ≤ 32
    → BeginsWith p (comps_of (participants_of p.model a)) text mid → mid ≡ codes " see" ++ after
    → BeginsWith p ds after rest → 0 < length ds
    → BeginsWithWants p a text rest
begins_wants p a [] text mid after rest listed few moved see looks some = absurd (omega arith)
begins_wants p a (d ∷ ds) text mid after rest listed few moved see looks some =
    record {
      looks = d ∷ ds;
      listed = listed;
      few = few;
      begins = rw (moved.begins, see, looks.begins) (simp append_assoc);
      moved = moved.words;
      seen = looks.words;
    }
