-- Where the lines of a text stand, one after another.
use Rattle.std.proofs.Common.{◌≡◌, inl, inr, ℕ, ◌+◌, ◌≤◌, ◌<◌, ◌&&◌, ◌||◌, Bool, true, false, List}
use Rattle.std.proofs.Common.{[], ◌∷◌, refl, sym, ◌∙◌, subst, below_more, arith}
use Rattle.std.specs.Prelude.{codes}
use Rattle.std.proofs.lemmas.Bool.{cases_lt, false≢true}
use Rattle.std.proofs.Math.Bool.{or-true}
use Rattle.bip_model.specs.Naming.{same_text}
use Rattle.bip_explain.specs.Declarations.{IsLineWith, begins_component, begins_with}
use Rattle.bip_model.specs.Texts.{line_at}
use Rattle.bip_explain.specs.Placed.{said_words}
use Rattle.bip_explain.specs.Scopes.{IsInside, IsOutside, IsStandingAt, StandsBehind}
use Rattle.bip_explain.specs.Scopes.{bounds_component, ends_component}
use Rattle.bip_explain.specs.declared.scopes.Standing.{Standing}
use Rattle.bip_explain.specs.declared.scopes.Standing.TheVariants.{First, Outside, Inside}

abbrev words_at : List ℕ → ℕ → List (List ℕ)
words_at text n = said_words (line_at text n)

-- inside a component, of the lines in front of this one
pub record IsInsideSoFar (text : List ℕ) (line m : ℕ) (component : List ℕ) : Type 0 where
  pub begun : ℕ
  pub before : begun < line
  pub begins : IsLineWith text begun (codes "component") component
  pub stays : (n : ℕ) → begun < n → n < m → bounds_component (words_at text n) ≡ false

-- a component that is begun in front of a line is ended there
abbrev IsEnded : List ℕ → ℕ → ℕ → Type 0
IsEnded text line n = begins_component (words_at text n) ≡ true → (k : ℕ) × (n < k) × (k < line)
    × (ends_component (words_at text k) ≡ true)

pub record IsOutsideSoFar (text : List ℕ) (line m : ℕ) : Type 0 where
  pub saying : ℕ
  pub before : saying < line
  pub says : ¬ (words_at text saying ≡ [])
  pub ended : (n : ℕ) → n < m → IsEnded text line n

abbrev pub StandsSoFar : List ℕ → ℕ → ℕ → Standing → Type 0
StandsSoFar text line m First = (n : ℕ) → n < m → words_at text n ≡ []
StandsSoFar text line m Outside = IsOutsideSoFar text line m
StandsSoFar text line m (Inside component) = IsInsideSoFar text line m component.now

-- words that begin a component say something, and end none
begins_some : (ws : List (List ℕ)) → begins_component ws ≡ true → ¬ (ws ≡ [])
begins_some [] begins is = false≢true begins
begins_some (w ∷ ws) begins is = cc

both_bounds : (ws : List (List ℕ)) → begins_component ws ≡ true → ends_component ws ≡ false
both_bounds [] begins = refl
both_bounds (w ∷ []) begins = absurd (false≢true begins)
both_bounds (w ∷ v ∷ ws) begins = refl

-- behind a line that begins no component
ended_more : (text : List ℕ) (line m : ℕ) → ((n : ℕ) → n < m → IsEnded text line n)
    → begins_component (words_at text m) ≡ false → (n : ℕ) → n < m + 1 → IsEnded text line n
ended_more text line m so none = below_more _ _ so
    (λ begins. absurd (false≢true (sym none ∙ begins)))

ends_none : (ws : List (List ℕ)) → ends_component ws ≡ true → begins_component ws ≡ false
ends_none [] ends = refl
ends_none (w ∷ []) ends = refl
ends_none (w ∷ v ∷ ws) ends = absurd (false≢true ends)

pub stands_behind : (text : List ℕ) (line m : ℕ) (old new : Standing) → m < line
    → StandsSoFar text line m old → StandsBehind old (words_at text m) new
    → StandsSoFar text line (m + 1) new
stands_behind text line m old First h so (is, none) =
    below_more _ _ (subst (StandsSoFar text line m) is so) none
stands_behind text line m old Outside h so (inl (some, ends)) = record {
  saying = m;
  before = h;
  says = some;
  ended = λ n below begins. elim (cases_lt n m) as
      (λ _. (k : ℕ) × (n < k) × (k < line) × (ends_component (words_at text k) ≡ true)) [
        | inl less ↦ (m, less, h, ends)
        | inr more ↦ let is : n ≡ m = omega arith in
            absurd (false≢true (sym (ends_none (words_at text m) ends) ∙ rw is at begins))
      ];
}
stands_behind text line m old Outside h so (inr (inl (is, some, none))) = record {
  saying = m;
  before = h;
  says = some;
  ended = ended_more text line m (λ n below begins.
      absurd (begins_some (words_at text n) begins
      ((subst (StandsSoFar text line m) is so) n below))) none;
}
stands_behind text line m old Outside h so (inr (inr (is, none))) =
    let was : IsOutsideSoFar text line m = subst (StandsSoFar text line m) is so in
    record {
      saying = was.saying;
      before = was.before;
      says = was.says;
      ended = ended_more text line m was.ended none;
    }
stands_behind text line m old (Inside c) h so (inl (is, none)) =
    let was : IsInsideSoFar text line m c.now = subst (StandsSoFar text line m) is so in
    record {
      begun = was.begun;
      before = was.before;
      begins = was.begins;
      stays = λ n above below. elim (cases_lt n m) as
          (λ _. bounds_component (words_at text n) ≡ false) [
            | inl less ↦ was.stays n above less
            | inr more ↦ let at : n ≡ m = omega arith in
                rw at none
          ];
    }
stands_behind text line m old (Inside c) h so (inr begins) = record {
  begun = m;
  before = h;
  begins = begins;
  stays = λ n above below. absurd (omega arith);
}

-- in front of the line
pub stands_there : (text : List ℕ) (line m : ℕ) (standing : Standing) → line ≤ m
    → StandsSoFar text line m standing → IsStandingAt text line standing
stands_there text line m First h so = λ n below. so n (omega arith)
stands_there text line m Outside h so = record {
  saying = so.saying;
  before = so.before;
  says = so.says;
  ended = λ n below. so.ended n (omega arith);
}
stands_there text line m (Inside c) h so = record {
  begun = so.begun;
  before = so.before;
  begins = so.begins;
  stays = λ n above below. so.stays n above (omega arith);
}

-- where no line is left
pub stands_last : (text : List ℕ) (line m : ℕ) (standing : Standing)
    → ((n : ℕ) → m ≤ n → line_at text n ≡ []) → StandsSoFar text line m standing
    → IsStandingAt text line standing
stands_last text line m First none so = λ n below. elim (cases_lt n m)
    [ inl h ↦ so n h | inr h ↦ rw (none n h) refl ]
stands_last text line m Outside none so = record {
  saying = so.saying;
  before = so.before;
  says = so.says;
  ended = λ n below. elim (cases_lt n m) as (λ _. IsEnded text line n) [
    | inl h ↦ so.ended n h
    | inr h ↦ λ begins. let wrong : false ≡ true =
        rw (none n h) at begins in absurd (false≢true wrong)
  ];
}
stands_last text line m (Inside c) none so = record {
  begun = so.begun;
  before = so.before;
  begins = so.begins;
  stays = λ n above below. elim (cases_lt n m) as (λ _. bounds_component (words_at text n) ≡ false)
      [ inl h ↦ so.stays n above h | inr h ↦ rw (none n h) refl ];
}

-- of the lines in front of one, where it stands
so_far : (text : List ℕ) (m : ℕ) (standing : Standing) → IsStandingAt text m standing
    → StandsSoFar text (m + 1) m standing
so_far text m First at = at
so_far text m Outside at = record {
  saying = at.saying;
  before = let h = at.before in omega arith;
  says = at.says;
  ended = λ n below begins. let e = at.ended n below begins in (
    e.0,
    e.1,
    let h = e.2 in omega arith,
    e.3,
  );
}
so_far text m (Inside c) at = record {
  begun = at.begun;
  before = let h = at.before in omega arith;
  begins = at.begins;
  stays = at.stays;
}

-- the line behind one that stands so
pub stands_next : (text : List ℕ) (m : ℕ) (old new : Standing) → IsStandingAt text m old
    → StandsBehind old (words_at text m) new → IsStandingAt text (m + 1) new
stands_next text m old new at behind = stands_there text (m + 1) (m + 1) new (omega arith)
    (stands_behind text (m + 1) m old new (omega arith) (so_far text m old at) behind)

-- a line that stands inside a component stands nowhere else
pub not_first : (text : List ℕ) (line : ℕ) (component : List ℕ) → IsStandingAt text line First
    → ¬ IsInside text line component
not_first text line component first at =
    let none : words_at text at.begun ≡ [] = first at.begun at.before in
    let begins : begins_with (codes "component") component [] ≡ true = rw none at at.begins in
    false≢true begins

begins_a_component : (ws : List (List ℕ)) (component : List ℕ)
    → begins_with (codes "component") component ws ≡ true → begins_component ws ≡ true
begins_a_component [] component h = absurd (false≢true h)
begins_a_component (w ∷ []) component h = absurd (false≢true h)
begins_a_component (w ∷ v ∷ ws) component h = by_test (same_text w (codes "component")) h
  where
    by_test : (t : Bool) → (t && same_text v component) ≡ true → t ≡ true
    by_test true e = refl
    by_test false e = absurd (false≢true e)

pub not_outside : (text : List ℕ) (line : ℕ) (component : List ℕ) → IsOutside text line
    → ¬ IsInside text line component
not_outside text line component out at =
    let ended = out.ended at.begun at.before (begins_a_component
    (words_at text at.begun) component at.begins) in
    let stays = at.stays ended.0 ended.1 ended.2 in
    let both : (begins_component (words_at text ended.0) || true) ≡ false = rw ended.3 at stays in
    false≢true (sym both ∙ or-true (begins_component (words_at text ended.0)))
