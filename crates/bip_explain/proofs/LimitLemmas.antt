-- What is counted of the words of a line, and the word that is one too many.
use Rattle.std.proofs.Common.{◌≡◌, inl, inr, ℕ, ◌+◌, ◌≤◌, ◌<◌, ◌||◌, ◌&&◌, Bool, true, false, not}
use Rattle.std.proofs.Common.{cond, List, [], ◌∷◌, ◌++◌, Option, None, Some, IfSome, refl, sym, ap}
use Rattle.std.proofs.Common.{◌∙◌, subst, arith, append_assoc, append-nil}
use Rattle.std.specs.Prelude.{count_by, unwrap_or}
use Rattle.bip_reader.proofs.SpellingLemmas.{same_word}
use Rattle.std.specs.List.{list_any}
use Rattle.std.proofs.Math.Bool.{or-true}
use Rattle.std.proofs.lemmas.Bool.{false≢true}
use Rattle.std.proofs.lemmas.List.Folds.{list_any-append}
use Rattle.std.proofs.lemmas.List.Sums.{sum_by-append}
use Rattle.bip_model.specs.Naming.{same_text}
use Rattle.bip_model.specs.Texts.{words}
use Rattle.bip_explain.specs.Declarations.{begins_component}
use Rattle.bip_explain.specs.Limits.{AreShort, begins_so, counted_behind, is_of_component}
use Rattle.bip_explain.specs.Limits.{IsLongList, IsLongSum, IsNinth, IsOver, IsOverLimit, AreFewYet}
use Rattle.bip_explain.specs.Limits.{begins_list, counted_on, ends_sum, has_point, parts_list}
use Rattle.bip_explain.specs.Placed.{IsPlacedOn}
use Rattle.bip_explain.specs.Words.{is_relation, is_sign}
use Rattle.bip_explain.specs.declared.limits.Counted.{Counted}
use Rattle.bip_explain.specs.declared.placed.Placed.{Placed}
use Rattle.bip_explain.proofs.PlacedLemmas.{stands_behind}
use Rattle.std.specs.Prelude.{codes}

-- what ends a sum besides
abbrev relates : List ℕ → Bool
relates word = is_relation word || same_text word (codes ":=")

-- what a word does to what is counted
data Step (c : Counted) (word : List ℕ) : Type 0 where
  begins : begins_list word ≡ true → counted_on c word
      ≡ record c { is_head = false; parts = 1; terms = 0 } → Step c word
  parts : begins_list word ≡ false → parts_list word ≡ true
      → counted_on c word ≡ record c { parts = cond c.is_head c.parts (c.parts + 1); terms = 0 }
      → Step c word
  ends : begins_list word ≡ false → parts_list word ≡ false → relates word ≡ true
      → counted_on c word ≡ record c { terms = 0 } → Step c word
  named : begins_list word ≡ false → parts_list word ≡ false → relates word ≡ false
      → c.is_head ≡ true → counted_on c word ≡ record c {
        participants = cond (has_point word) (c.participants + 1) c.participants;
      } → Step c word
  signs : begins_list word ≡ false → parts_list word ≡ false → relates word ≡ false
      → c.is_head ≡ false → is_sign word ≡ true → counted_on c word ≡ c → Step c word
  adds : begins_list word ≡ false → parts_list word ≡ false → relates word ≡ false
      → c.is_head ≡ false → is_sign word ≡ false
      → counted_on c word ≡ record c { terms = c.terms + 1 } → Step c word

tested : {P : Type 0} (b : Bool) → (b ≡ true → P) → (b ≡ false → P) → P
tested true f g = f refl
tested false f g = g refl

step_of : (c : Counted) (word : List ℕ) → Step c word
step_of c word = tested (begins_list word) (λ b. begins b (rw b refl)) (λ b.
    tested (parts_list word) (λ p. parts b p (rw (b, p) refl)) (λ p.
    tested (relates word) (λ r. ends b p r (rw (b, p, r) refl)) (λ r.
    tested c.is_head (λ h. named b p r h (rw (b, p, r, h) refl)) (λ h.
    tested (is_sign word) (λ s. signs b p r h s (rw (b, p, r, h, s) refl))
    (λ s. adds b p r h s (rw (b, p, r, h, s) refl))))))

count-append : (f : List ℕ → Bool) (xs ys : List (List ℕ))
    → count_by f (xs ++ ys) ≡ count_by f xs + count_by f ys
count-append f xs ys = sum_by-append (λ w. cond (f w) 1 0) xs ys

-- whether one is among words, with one more
pub any_more : (f : List ℕ → Bool) (xs : List (List ℕ)) (word : List ℕ)
    → list_any f (xs ++ word ∷ []) ≡ (list_any f xs || f word)
any_more f xs word = list_any-append f xs (word ∷ []) ∙ by_test (f word)
  where
    by_test : (t : Bool) → (list_any f xs || (t || false)) ≡ (list_any f xs || t)
    by_test true = refl
    by_test false = refl

any_front : (f : List ℕ → Bool) (xs ys : List (List ℕ)) → list_any f xs ≡ true
    → list_any f (xs ++ ys) ≡ true
any_front f xs ys h = list_any-append f xs ys ∙ rw h refl

-- the list that is begun last in front of a place, and its marks
record PartsSo (c : Counted) (front : List (List ℕ)) : Type 0 where
  head : List (List ℕ)
  list : List (List ℕ)
  split : front ≡ head ++ list
  begun : list_any begins_list head ≡ true
  plain : list_any begins_list list ≡ false
  counted : c.parts ≤ 1 + count_by parts_list list

-- the sum that is begun last, and its terms
record TermsSo (c : Counted) (front : List (List ℕ)) : Type 0 where
  head : List (List ℕ)
  sum : List (List ℕ)
  split : front ≡ head ++ sum
  begun : list_any begins_list head ≡ true
  plain : list_any ends_sum sum ≡ false
  counted : c.terms ≤ count_by (λ w. not (is_sign w)) sum

-- what is counted of the words in front of those that are left
pub record AreCounted (line : List ℕ) (c : Counted) (left : List (List ℕ)) : Type 0 where
  front : List (List ℕ)
  split : words line ≡ front ++ left
  heading : c.is_head ≡ true → list_any begins_list front ≡ false
  participants : c.participants ≤ count_by has_point front
  parts_so : c.is_head ≡ false → PartsSo c front
  terms_so : c.is_head ≡ false → TermsSo c front

pub counted-none : (line : List ℕ) (front left : List (List ℕ)) (c : Counted)
    → words line ≡ front ++ left → list_any begins_list front ≡ false → c.is_head ≡ true
    → c.participants ≡ 0 → AreCounted line c left
counted-none line front left c split plain head none = record {
  front = front;
  split = split;
  heading = λ _. plain;
  participants = omega (arith, none);
  parts_so = λ h. absurd (false≢true (sym h ∙ head));
  terms_so = λ h. absurd (false≢true (sym h ∙ head));
}

-- one word more
module _ (line : List ℕ) (c : Counted) (word : List ℕ) (left new : List (List ℕ))
    (so : AreCounted line c left) (is : left ≡ word ∷ new) where
  abbrev more : List (List ℕ)
  more = so.front ++ word ∷ []

  split_more : words line ≡ more ++ new
  split_more = so.split ∙ rw is (simp append_assoc)

  one_point : count_by has_point more ≡ count_by has_point so.front + cond (has_point word) 1 0
  one_point = count-append has_point so.front (word ∷ []) ∙ grind arith

  -- behind the word that begins a list
  anew : (d : Counted) → begins_list word ≡ true → d.is_head ≡ false → d.parts ≡ 1 → d.terms ≡ 0
      → d.participants ≡ c.participants → AreCounted line d new
  anew d b h p t q =
      let begun : list_any begins_list more ≡ true = any_more begins_list so.front word
      ∙ rw b (or-true (list_any begins_list so.front)) in
      record {
        front = more;
        split = split_more;
        heading = λ head. absurd (false≢true (sym h ∙ head));
        participants = omega (arith, q, so.participants, one_point);
        parts_so = λ _. record {
          head = more;
          list = [];
          split = sym (append-nil more);
          begun = begun;
          plain = refl;
          counted = omega (arith, p);
        };
        terms_so = λ _. record {
          head = more;
          sum = [];
          split = sym (append-nil more);
          begun = begun;
          plain = refl;
          counted = omega (arith, t);
        };
      }

  plain_more : begins_list word ≡ false → list_any begins_list so.front ≡ false
      → list_any begins_list more ≡ false
  plain_more b none = any_more begins_list so.front word ∙ rw (none, b) refl

  list_more : (d : Counted) → begins_list word ≡ false → PartsSo c so.front
      → d.parts ≤ c.parts + cond (parts_list word) 1 0 → PartsSo d more
  list_more d b p counted = record {
    head = p.head;
    list = p.list ++ word ∷ [];
    split = ap (λ (l : List (List ℕ)). l ++ word ∷ []) p.split
        ∙ append_assoc p.head p.list (word ∷ []);
    begun = p.begun;
    plain = any_more begins_list p.list word ∙ rw (p.plain, b) refl;
    counted = omega (arith, counted, p.counted, count-append parts_list p.list (word ∷ []), mark);
  }
    where
      mark : count_by parts_list (word ∷ []) ≡ cond (parts_list word) 1 0
      mark = grind arith

  sum_anew : (d : Counted) → TermsSo c so.front → d.terms ≡ 0 → TermsSo d more
  sum_anew d t none = record {
    head = more;
    sum = [];
    split = sym (append-nil more);
    begun = any_front begins_list so.front (word ∷ [])
        (rw t.split (any_front begins_list t.head t.sum t.begun));
    plain = refl;
    counted = omega (arith, none);
  }

  sum_more : (d : Counted) → ends_sum word ≡ false → TermsSo c so.front
      → d.terms ≤ c.terms + cond (not (is_sign word)) 1 0 → TermsSo d more
  sum_more d e t counted = record {
    head = t.head;
    sum = t.sum ++ word ∷ [];
    split = ap (λ (l : List (List ℕ)). l ++ word ∷ []) t.split
        ∙ append_assoc t.head t.sum (word ∷ []);
    begun = t.begun;
    plain = any_more ends_sum t.sum word ∙ rw (t.plain, e) refl;
    counted = omega (
      arith,
      counted,
      t.counted,
      count-append (λ w. not (is_sign w)) t.sum (word ∷ []),
      term,
    );
  }
    where
      term : count_by (λ w. not (is_sign w)) (word ∷ []) ≡ cond (not (is_sign word)) 1 0
      term = grind arith

  -- what begins no list
  kept : (d : Counted) → d.is_head ≡ c.is_head → begins_list word ≡ false
      → d.participants ≤ c.participants + cond (has_point word) 1 0
      → (c.is_head ≡ false → d.parts ≤ c.parts + cond (parts_list word) 1 0)
      → (c.is_head ≡ false → TermsSo d more) → AreCounted line d new
  kept d h b q p t = record {
    front = more;
    split = split_more;
    heading = λ head. plain_more b (so.heading (sym h ∙ head));
    participants = omega (arith, q, so.participants, one_point);
    parts_so = λ head. list_more d b (so.parts_so (sym h ∙ head)) (p (sym h ∙ head));
    terms_so = λ head. t (sym h ∙ head);
  }

  no_end : begins_list word ≡ false → parts_list word ≡ false → relates word ≡ false
      → ends_sum word ≡ false
  no_end b p r = rw (b, p, r) refl

  pub counted_more : AreCounted line (counted_on c word) new
  counted_more = elim (step_of c word) [
    | begins b e ↦ anew (counted_on c word) b (ap (λ (d : Counted). d.is_head) e)
        (ap (λ (d : Counted). d.parts) e) (ap (λ (d : Counted). d.terms) e)
        (ap (λ (d : Counted). d.participants) e)
    | parts b p e ↦ kept (counted_on c word) (ap (λ (d : Counted). d.is_head) e) b
        (omega (arith, ap (λ (d : Counted). d.participants) e))
        (λ head. let many : (counted_on c word).parts ≡ c.parts + 1 =
        ap (λ (d : Counted). d.parts) e ∙ rw head refl in
        let one : ◌≡◌ {A = ℕ} (cond (parts_list word) 1 0) 1 = rw p refl in
        omega (arith, many, one))
        (λ head. sum_anew (counted_on c word) (so.terms_so head) (ap (λ (d : Counted). d.terms) e))
    | ends b p r e ↦ kept (counted_on c word) (ap (λ (d : Counted). d.is_head) e) b
        (omega (arith, ap (λ (d : Counted). d.participants) e))
        (λ head. omega (arith, ap (λ (d : Counted). d.parts) e))
        (λ head. sum_anew (counted_on c word) (so.terms_so head) (ap (λ (d : Counted). d.terms) e))
    | named b p r h e ↦ kept (counted_on c word) (ap (λ (d : Counted). d.is_head) e) b
        (tested (has_point word)
        (λ f. let many : (counted_on c word).participants ≡ c.participants + 1 =
        ap (λ (d : Counted). d.participants) e ∙ rw f refl in
        let one : ◌≡◌ {A = ℕ} (cond (has_point word) 1 0) 1 = rw f refl in
        omega (arith, many, one))
        (λ f. let many : (counted_on c word).participants ≡ c.participants =
        ap (λ (d : Counted). d.participants) e ∙ rw f refl in omega (arith, many)))
        (λ head. absurd (false≢true (sym head ∙ h)))
        (λ head. absurd (false≢true (sym head ∙ h)))
    | signs b p r h s e ↦ kept (counted_on c word) (ap (λ (d : Counted). d.is_head) e) b
        (omega (arith, ap (λ (d : Counted). d.participants) e))
        (λ head. omega (arith, ap (λ (d : Counted). d.parts) e))
        (λ head. sum_more (counted_on c word) (no_end b p r) (so.terms_so head)
        (omega (arith, ap (λ (d : Counted). d.terms) e)))
    | adds b p r h s e ↦ kept (counted_on c word) (ap (λ (d : Counted). d.is_head) e) b
        (omega (arith, ap (λ (d : Counted). d.participants) e))
        (λ head. omega (arith, ap (λ (d : Counted). d.parts) e))
        (λ head. sum_more (counted_on c word) (no_end b p r) (so.terms_so head)
        (let one : ◌≡◌ {A = ℕ} (cond (not (is_sign word)) 1 0) 1 = rw s refl in
        omega (arith, ap (λ (d : Counted). d.terms) e, one)))
  ]

  ninth : AreFewYet c → 8 < (counted_on c word).participants → IsNinth so.front word
  ninth within over = elim (step_of c word) [
    | begins b e ↦ absurd (omega (
      arith,
      within.participants,
      over,
      ap (λ (d : Counted). d.participants) e,
    ))
    | parts b p e ↦ absurd (omega (
      arith,
      within.participants,
      over,
      ap (λ (d : Counted). d.participants) e,
    ))
    | ends b p r e ↦ absurd (omega (
      arith,
      within.participants,
      over,
      ap (λ (d : Counted). d.participants) e,
    ))
    | named b p r h e ↦ tested (has_point word)
        (λ f. let many : (counted_on c word).participants ≡ c.participants + 1 =
        ap (λ (d : Counted). d.participants) e ∙ rw f refl in
        (so.heading h, omega (arith, over, many, so.participants), f))
        (λ f. let many : (counted_on c word).participants ≡ c.participants =
        ap (λ (d : Counted). d.participants) e ∙ rw f refl in
        absurd (omega (arith, within.participants, over, many)))
    | signs b p r h s e ↦ absurd (omega (
      arith,
      within.participants,
      over,
      ap (λ (d : Counted). d.participants) e,
    ))
    | adds b p r h s e ↦ absurd (omega (
      arith,
      within.participants,
      over,
      ap (λ (d : Counted). d.participants) e,
    ))
  ]

  long_list : AreFewYet c → 16 < (counted_on c word).parts → IsLongList so.front word
  long_list within over = elim (step_of c word) [
    | begins b e ↦ absurd (omega (arith, over, ap (λ (d : Counted). d.parts) e))
    | parts b p e ↦ tested c.is_head
        (λ h. let many : (counted_on c word).parts ≡ c.parts = ap (λ (d : Counted). d.parts) e
        ∙ rw h refl in absurd (omega (arith, within.parts, over, many)))
        (λ h.
        let many : (counted_on c word).parts ≡ c.parts + 1 = ap (λ (d : Counted). d.parts) e
        ∙ rw h refl in
        let l = so.parts_so h in
        (l.head, l.list, l.split, l.begun, l.plain, omega (arith, over, many, l.counted), p))
    | ends b p r e ↦ absurd (omega (arith, within.parts, over, ap (λ (d : Counted). d.parts) e))
    | named b p r h e ↦ absurd (omega (arith, within.parts, over, ap (λ (d : Counted). d.parts) e))
    | signs b p r h s e ↦ absurd (omega (
      arith,
      within.parts,
      over,
      ap (λ (d : Counted). d.parts) e,
    ))
    | adds b p r h s e ↦ absurd (omega (arith, within.parts, over, ap (λ (d : Counted). d.parts) e))
  ]

  long_sum : AreFewYet c → 16 < (counted_on c word).terms → IsLongSum so.front word
  long_sum within over = elim (step_of c word) [
    | begins b e ↦ absurd (omega (arith, over, ap (λ (d : Counted). d.terms) e))
    | parts b p e ↦ absurd (omega (arith, over, ap (λ (d : Counted). d.terms) e))
    | ends b p r e ↦ absurd (omega (arith, over, ap (λ (d : Counted). d.terms) e))
    | named b p r h e ↦ absurd (omega (arith, within.terms, over, ap (λ (d : Counted). d.terms) e))
    | signs b p r h s e ↦ absurd (omega (
      arith,
      within.terms,
      over,
      ap (λ (d : Counted). d.terms) e,
    ))
    | adds b p r h s e ↦
        let t = so.terms_so h in (
          t.head,
          t.sum,
          t.split,
          t.begun,
          t.plain,
          omega (arith, over, ap (λ (d : Counted). d.terms) e, t.counted),
          no_end b p r,
          s,
        )
  ]

-- a word that passes a limit
pub over_limit : (line : List ℕ) (placed : Placed) (c : Counted) (rest limit : List ℕ)
    (left : List (List ℕ)) → AreCounted line c left → AreFewYet c
    → left ≡ placed.word.now ∷ words rest → (at : IsPlacedOn line placed)
    → words at.behind ≡ words rest → IsOver (counted_on c placed.word.now) limit
    → (at' : IsPlacedOn line placed) × IsOverLimit at'.front placed.word.now limit
over_limit line placed c rest limit left so within is at same over =
    let front : at.front ≡ so.front = stands_behind line placed so.front left rest so.split is at
    same in
    let passed : IsOverLimit so.front placed.word.now limit = elim over [
      | inl o ↦ inl (o.1, ninth line c placed.word.now left (words rest) so is within o.0)
      | inr (inl o) ↦ inr (inl (
        o.1,
        long_list line c placed.word.now left (words
            rest) so is within o.0,
      ))
      | inr (inr o) ↦ inr (inr (
        o.1,
        long_sum line c placed.word.now left (words
            rest) so is within o.0,
      ))
    ] in
    (at, subst (λ (ws : List (List ℕ)). IsOverLimit ws placed.word.now limit) (sym front) passed)

-- a word that begins a line with lists begins none itself
pub no_list : (word : List ℕ) → (same_text word (codes "trans") || same_text word
    (codes "interaction")) ≡ true → begins_list word ≡ false
no_list word either = tested (same_text word (codes "trans"))
    (λ e. rw (same_word word (codes "trans") e) refl)
    (λ e. rw (same_word word (codes "interaction") (rw e at either)) refl)

pub unwrapped : {A : Type 0} (P : A → Type 0) (o : Option A) (d : A) → IfSome o P → P d
    → P (unwrap_or o d)
unwrapped P None d some none = none
unwrapped P (Some x) d some none = some

-- one line more is counted at most
pub counted_few : (keyword : List ℕ) (ws : List (List ℕ)) (count : ℕ)
    → counted_behind keyword ws count ≤ count + 1
counted_few keyword ws count = by_anew (is_of_component keyword && begins_component ws)
  where
    by_line : (t : Bool) → cond t (count + 1) count ≤ count + 1
    by_line true = omega arith
    by_line false = omega arith

    by_anew : (t : Bool) → cond t 0 (cond (begins_so keyword ws) (count + 1) count) ≤ count + 1
    by_anew true = omega arith
    by_anew false = by_line (begins_so keyword ws)

-- a word that passes no limit, in front of those that pass none
pub short_more : (c d : Counted) (word : List ℕ) (rest : List (List ℕ)) → d ≡ counted_on c word
    → AreFewYet d → AreShort d rest → AreShort c (word ∷ rest)
short_more c d word rest is few short = (
  subst AreFewYet is few,
  subst (λ (e : Counted). AreShort e rest) is short,
)
