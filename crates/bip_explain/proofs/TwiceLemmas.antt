-- A line that is found, of those that were gone over, behind which no component is begun.
use Rattle.std.proofs.Common.{◌≡◌, inl, inr, ℕ, ◌+◌, ◌≤◌, ◌<◌, ◌&&◌, Bool, true, List, [], ◌∷◌}
use Rattle.std.proofs.Common.{codes, false, Option, None, Some, IfNone, IfSome, refl, sym, ap, ◌∙◌}
use Rattle.std.proofs.Common.{subst, below_more, arith}
use Rattle.std.specs.Prelude.{unwrap_or}
use Rattle.std.proofs.lemmas.Bool.{cases_lt, false≢true}
use Rattle.bip_model.specs.Naming.{same_text}
use Rattle.bip_reader.proofs.SpellingLemmas.{same_word}
use Rattle.bip_explain.specs.Declarations.{IsBegunBetween, IsInnerLine, IsSameComponent}
use Rattle.bip_explain.specs.Declarations.{begins_component, declares}
use Rattle.bip_model.specs.Texts.{words}
use Rattle.bip_model.specs.Texts.{line_at}
use Rattle.bip_explain.specs.Placed.{IsPlacedOn, first_three, said_words}
use Rattle.bip_explain.specs.Twice.{IsTargetAt, NoSameTransition, leave_same, say_same}
use Rattle.bip_explain.specs.declared.placed.Placed.{Placed}

-- a line in front of one has this, and no component is begun behind it
abbrev pub IsLast : (ℕ → Type 0) → List ℕ → ℕ → ℕ → Type 0
IsLast P text number n = (n < number) × P n × IsSameComponent text n number

-- none so far, of the lines in front of this one
pub record IsFound (P : ℕ → Type 0) (text : List ℕ) (number : ℕ) (m : ℕ) (n : ℕ) : Type 0 where
  pub before : n < number
  pub has : P n
  pub alone : (k : ℕ) → n < k → k < m → begins_component (said_words (line_at text k)) ≡ false

pub found_more : (P : ℕ → Type 0) (text : List ℕ) (number m : ℕ) (found : Option ℕ)
    → IfSome found (IsFound P text number m) → begins_component (said_words (line_at text m))
    ≡ false → IfSome found (IsFound P text number (m + 1))
found_more P text number m None so next = tt
found_more P text number m (Some n) so next = record {
  before = so.before;
  has = so.has;
  alone = λ k above below. elim (cases_lt k m) as
      (λ _. begins_component (said_words (line_at text k)) ≡ false)
      [ inl h ↦ so.alone k above h | inr h ↦ let is : k ≡ m = omega arith in rw is next ];
}

-- in front of the line
pub found_there : (P : ℕ → Type 0) (text : List ℕ) (number m : ℕ) (found : Option ℕ) → number ≤ m
    → IfSome found (IsFound P text number m) → IfSome found (IsLast P text number)
found_there P text number m None h so = tt
found_there P text number m (Some n) h so = (
  so.before,
  so.has,
  λ k above below. so.alone k above (omega arith),
)

-- where no line is left
pub found_last : (P : ℕ → Type 0) (text : List ℕ) (number m : ℕ) (found : Option ℕ)
    → ((n : ℕ) → m ≤ n → line_at text n ≡ []) → IfSome found (IsFound P text number m)
    → IfSome found (IsLast P text number)
found_last P text number m None none so = tt
found_last P text number m (Some n) none so = (
  so.before,
  so.has,
  λ k above below. elim (cases_lt k m) as (λ _. begins_component (said_words (line_at text k))
      ≡ false)
      [ inl h ↦ so.alone k above h | inr h ↦ rw (none k h) refl ],
)

-- words that leave a location begin no component
leaves_none : (ws vs : List (List ℕ)) → leave_same ws vs ≡ true → begins_component vs ≡ false
leaves_none (a ∷ b ∷ c ∷ ws) (d ∷ e ∷ f ∷ vs) same =
    by_words (same_text a (codes "trans")) refl (same_text a d) refl
    (same_text d (codes "component")) refl same
  where
    by_words : (p : Bool) → same_text a (codes "trans") ≡ p → (q : Bool) → same_text a d ≡ q
        → (r : Bool) → same_text d (codes "component") ≡ r
        → (p && q && same_text b e && same_text c f) ≡ true
        → same_text d (codes "component") ≡ false
    by_words false x q y r z h = absurd (false≢true h)
    by_words true x false y r z h = absurd (false≢true h)
    by_words true x true y false z h = z
    by_words true x true y true z h =
        let first : a ≡ codes "trans" = same_word a (codes "trans") x in
        let other : a ≡ codes "component" = same_word a d y ∙ same_word d (codes "component") z in
        let wrong : same_text (codes "trans") (codes "component") ≡ true =
        subst (λ (w : List ℕ). same_text w (codes "component") ≡ true) first (rw other refl) in
        absurd (false≢true wrong)
leaves_none ws [] same = refl
leaves_none ws (d ∷ []) same = refl
leaves_none [] (d ∷ e ∷ vs) same = absurd (false≢true same)
leaves_none (a ∷ []) (d ∷ e ∷ vs) same = absurd (false≢true same)
leaves_none (a ∷ b ∷ []) (d ∷ e ∷ vs) same = absurd (false≢true same)
leaves_none (a ∷ b ∷ c ∷ ws) (d ∷ e ∷ []) same = absurd (false≢true same)

-- each of the lines in front of this one that has this is of a component before
pub record AreOver (P : ℕ → Type 0) (text : List ℕ) (number : ℕ) (m : ℕ) : Type 0 where
  pub each : (n : ℕ) → n < m → P n → IsBegunBetween text n number

-- none of the lines before one has this, but those of a component before
abbrev pub NoneHas : (ℕ → Type 0) → List ℕ → ℕ → Type 0
NoneHas P text number = (n : ℕ) → n < number → P n → IsBegunBetween text n number

module _ (P : ℕ → Type 0) (text : List ℕ) (number m : ℕ) where
  pub over_begun : m < number → begins_component (said_words (line_at text m)) ≡ true → ¬ P m
      → AreOver P text number (m + 1)
  over_begun h begins none = record {
    each = λ n below has. elim (cases_lt n m) as (λ _. IsBegunBetween text n number) [
      | inl less ↦ (m, less, h, begins)
      | inr more ↦ let is : n ≡ m = omega arith in absurd (none (subst P is has))
    ];
  }

  -- where none is found, or one is, and none is found behind it
  pub none_still : (found : Option ℕ) → IfNone found (AreOver P text number m) → ¬ P m
      → IfNone found (AreOver P text number (m + 1))
  none_still None so none = record { each = below_more _ _ so.each (λ has. absurd (none has)) }
  none_still (Some n) so none = tt

  pub none_there : (found : Option ℕ) → number ≤ m → IfNone found (AreOver P text number m)
      → IfNone found (NoneHas P text number)
  none_there None h so = λ n below. so.each n (omega arith)
  none_there (Some n) h so = tt

  pub none_last : (found : Option ℕ) → ((n : ℕ) → m ≤ n → ¬ P n)
      → IfNone found (AreOver P text number m) → IfNone found (NoneHas P text number)
  none_last None none so = λ n below has. elim (cases_lt n m) as (λ _. IsBegunBetween text n number)
      [ inl less ↦ so.each n less has | inr more ↦ absurd (none n more has) ]
  none_last (Some n) none so = tt

pub over_first : (P : ℕ → Type 0) (text : List ℕ) (number : ℕ) → ¬ P 0 → AreOver P text number 1
over_first P text number none =
    record { each = λ n below has. let is : n ≡ 0 = omega arith in absurd (none (subst P is has)) }

no_line_same : (ws : List (List ℕ)) → leave_same ws [] ≡ false
no_line_same [] = refl
no_line_same (a ∷ []) = refl
no_line_same (a ∷ b ∷ []) = refl
no_line_same (a ∷ b ∷ c ∷ ws) = refl

-- words that are fewer than three leave nothing
pub short_same : (text line : List ℕ) (number : ℕ) → first_three (said_words line) ≡ None
    → NoSameTransition text number line
short_same text line number short = λ n below same.
    absurd (false≢true (sym (by_words (said_words line) (said_words (line_at text n)) short)
    ∙ same))
  where
    by_words : (ws vs : List (List ℕ)) → first_three ws ≡ None → leave_same ws vs ≡ false
    by_words [] vs e = refl
    by_words (a ∷ []) vs e = refl
    by_words (a ∷ b ∷ []) vs e = refl
    by_words (a ∷ b ∷ c ∷ ws) vs e = cc

-- an empty line leaves nothing, and declares nothing
pub leaves_not : (text line : List ℕ) (n : ℕ) → line_at text n ≡ []
    → ¬ (leave_same (said_words line) (said_words (line_at text n)) ≡ true)
leaves_not text line n none same = let wrong : leave_same (said_words line) [] ≡ true =
    rw none at same in false≢true (sym (no_line_same (said_words line)) ∙ wrong)

pub leaves_no_component : (text line : List ℕ) (n : ℕ)
    → begins_component (said_words (line_at text n)) ≡ true
    → ¬ (leave_same (said_words line) (said_words (line_at text n)) ≡ true)
leaves_no_component text line n begins same =
    false≢true (sym (leaves_none (said_words line) (said_words (line_at text n)) same) ∙ begins)

pub declares_not : (text name : List ℕ) (n : ℕ) → line_at text n ≡ [] → ¬ IsInnerLine text n name
declares_not text name n none is = let wrong : false ≡ true = rw none at is in false≢true wrong

inner_none : (name : List ℕ) (ws : List (List ℕ)) → declares name ws ≡ true
    → begins_component ws ≡ false
inner_none name [] is = refl
inner_none name (a ∷ []) is = refl
inner_none name (a ∷ b ∷ ws) is = by_test (same_text a (codes "component")) refl
  where
    by_test : (t : Bool) → same_text a (codes "component") ≡ t
        → same_text a (codes "component") ≡ false
    by_test false e = e
    by_test true e =
        let word : a ≡ codes "component" = same_word a (codes "component") e in
        let wrong : declares name (codes "component" ∷ b ∷ ws) ≡ true =
        subst (λ (w : List ℕ). declares name (w ∷ b ∷ ws) ≡ true) word is in
        absurd (false≢true wrong)

pub declares_no_component : (text name : List ℕ) (n : ℕ)
    → begins_component (said_words (line_at text n)) ≡ true → ¬ IsInnerLine text n name
declares_no_component text name n begins is =
    false≢true (sym (inner_none name (said_words (line_at text n)) is) ∙ begins)

-- the first one that is found stays
pub found_first : (P : ℕ → Type 0) (text : List ℕ) (number m : ℕ) (found : Option ℕ) → m < number
    → P m → IfSome found (IsFound P text number m)
    → begins_component (said_words (line_at text m)) ≡ false
    → IsFound P text number (m + 1) (unwrap_or found m)
found_first P text number m None h has so next =
    record { before = h; has = has; alone = λ k above below. absurd (omega arith) }
found_first P text number m (Some n) h has so next = found_more P text number m (Some n) so next

-- this word was taken last of those in front of what is left
abbrev pub IsJustBefore : List ℕ → List ℕ → Placed → Type 0
IsJustBefore line rest placed = (at : IsPlacedOn line placed) × (words at.behind ≡ words rest)

-- an empty line says no priority
pub nothing_same : (ws : List (List ℕ)) → say_same ws [] ≡ false
nothing_same [] = refl
nothing_same (a ∷ []) = refl
nothing_same (a ∷ b ∷ []) = refl
nothing_same (a ∷ b ∷ c ∷ []) = refl
nothing_same (a ∷ b ∷ c ∷ d ∷ ws) = refl

-- a word in front of `:=` is a target
pub is_target : (line rest word new : List ℕ) (placed : Placed) → IsJustBefore line rest placed
    → words rest ≡ word ∷ words new → same_text word (codes ":=") ≡ true
    → IsTargetAt line placed.column placed.word.now
is_target line rest word new placed (at, behind) is mark = (
  at,
  (
    words new,
    behind ∙ (is ∙ ap (λ (w : List ℕ). w ∷ words new)
        (same_word word (codes ":=") mark)),
  ),
)

-- another one that is the same
pub same_target : (line word : List ℕ) (column : ℕ) (other : List ℕ) → IsTargetAt line column other
    → same_text other word ≡ true → IsTargetAt line column word
same_target line word column other is same = subst (IsTargetAt line column)
    (same_word other word same) is
