-- Words of a line that name components, counted.
use Rattle.std.proofs.Common.{◌≡◌, ℕ, ◌+◌, ◌-◌, ◌≤◌, ◌<◌, true, false, cond, List, [], ◌∷◌, ◌++◌}
use Rattle.std.proofs.Common.{drop, get_or, length, None, Some, refl, sym, ap, ◌∙◌, arith}
use Rattle.std.proofs.Common.{append_assoc, length-append, length-drop}
use Rattle.std.specs.Prelude.{All, count_by}
use Rattle.std.proofs.lemmas.Bool.{lt-leb}
use Rattle.std.proofs.lemmas.List.Elements.{All-nil, All-push}
use Rattle.bip_model.specs.Naming.{is_known}
use Rattle.std.proofs.lemmas.List.Sums.{sum_by-append}
use Rattle.bip_model.specs.Texts.{words}
use Rattle.bip_model.proofs.WrittenLemmas.{is_name-from}
use Rattle.bip_explain.specs.Placed.{IsBetween, IsPlacedOn, IsRestOf}
use Rattle.bip_explain.specs.Traces.{IsNamedBefore, IsOneTooMany, are_apart}
use Rattle.bip_explain.specs.Words.{IsWant, is_want, named_in}
use Rattle.bip_explain.proofs.EndLemmas.{known_has}
use Rattle.bip_explain.proofs.PlacedLemmas.{stands_behind}
use Rattle.bip_explain.proofs.SaidLemmas.{want_is_named}
use Rattle.bip_explain.specs.declared.placed.Placed.{Placed}

want_is : (component word : List ℕ) → IsWant component word → is_want word ≡ true
want_is component word (named, (spelled, number, split, fits)) =
    rw (split, is_name-from component named, fits) refl

count-append : (xs ys : List (List ℕ)) → count_by is_want (xs ++ ys)
    ≡ count_by is_want xs + count_by is_want ys
count-append xs ys = sum_by-append (λ (w : List ℕ). cond (is_want w) 1 0) xs ys

-- at least so many words name components in front of those that are left
pub record AreNamed (line : List ℕ) (count : ℕ) (left : List (List ℕ)) : Type 0 where
  pub front : List (List ℕ)
  pub split : words line ≡ front ++ left
  pub counted : count ≤ count_by is_want front

pub named-none : (line : List ℕ) → AreNamed line 0 (words line)
named-none line = record { front = []; split = refl; counted = omega arith }

pub named-other : (line word : List ℕ) (count : ℕ) (left new : List (List ℕ))
    → AreNamed line count left → left ≡ word ∷ new → AreNamed line count new
named-other line word count left new so is = record {
  front = so.front ++ word ∷ [];
  split = so.split ∙ rw is (simp append_assoc);
  counted = omega (arith, so.counted, count-append so.front (word ∷ []));
}

pub named-more : (line word component : List ℕ) (count : ℕ) (left new : List (List ℕ))
    → AreNamed line count left → left ≡ word ∷ new → IsWant component word
    → AreNamed line (count + 1) new
named-more line word component count left new so is want =
    let one : count_by is_want (word ∷ []) ≡ 1 = rw (want_is component word want) refl in
    record {
      front = so.front ++ word ∷ [];
      split = so.split ∙ rw is (simp append_assoc);
      counted = omega (arith, so.counted, count-append so.front (word ∷ []), one);
    }

-- a word in front of which as many stand as may
pub too_many : (line : List ℕ) (placed : Placed) (component rest : List ℕ) (count : ℕ)
    (left : List (List ℕ)) → AreNamed line count left → left ≡ placed.word.now ∷ words rest
    → (at : IsPlacedOn line placed) → words at.behind ≡ words rest
    → IsWant component placed.word.now → 32 ≤ count → IsOneTooMany line placed
too_many line placed component rest count left so is at same want most =
    let front : at.front ≡ so.front = stands_behind line placed so.front left rest so.split is at
    same in (
      at,
      (component, want),
      omega (
        arith,
        so.counted,
        most,
        ap (λ (ws : List (List ℕ)). count_by is_want ws) front,
      ),
    )

-- these names stand in front of a column, behind which this is left
record AreBefore (line rest : List ℕ) (names : List (List ℕ)) : Type 0 where
  column : ℕ
  at : column + length rest ≡ length line + 1
  all : All (IsNamedBefore line column) names

rest_fits : (line rest : List ℕ) → IsRestOf line rest → length rest ≤ length line
rest_fits line rest h = omega (arith, ap length h.0, length-drop (length line - length rest) line)

named_further : (line : List ℕ) (c d : ℕ) (name : List ℕ) → c ≤ d → IsNamedBefore line c name
    → IsNamedBefore line d name
named_further line c d name more h = (h.0, h.1, omega (arith, h.2), h.3, h.4)

before_other : (line old new : List ℕ) (names : List (List ℕ)) (placed : Placed)
    → AreBefore line old names → IsBetween line old placed new → AreBefore line new names
before_other line old new names placed so step =
    let further : so.column ≤ placed.column + length placed.word.now =
    omega (arith, so.at, step.column, step.fits) in
    record {
      column = placed.column + length placed.word.now;
      at = omega (arith, step.column);
      all = λ k d h. named_further line so.column (placed.column + length placed.word.now)
          (get_or names k d) further (so.all k d h);
    }

before_more : (line old new : List ℕ) (names : List (List ℕ)) (placed : Placed) (name : List ℕ)
    → AreBefore line old names → IsPlacedOn line placed → IsBetween line old placed new
    → IsWant name placed.word.now → AreBefore line new (names ++ name ∷ [])
before_more line old new names placed name so at step want =
    let other = before_other line old new names placed so step in
    record {
      column = placed.column + length placed.word.now;
      at = omega (arith, step.column);
      all = All-push (IsNamedBefore line (placed.column + length placed.word.now)) names name
          (λ k d h. named_further line so.column (placed.column + length placed.word.now)
          (get_or names k d) (omega (arith, so.at, step.column, step.fits)) (so.all k d h))
          (placed.column, placed.word.now, omega (arith, step.some), at, want);
    }

-- the words behind the first two
behind_two : (ws : List (List ℕ)) → (front : List (List ℕ)) × (ws ≡ front ++ drop 1 (drop 1 ws))
behind_two [] = ([], refl)
behind_two (x ∷ []) = (x ∷ [], refl)
behind_two (x ∷ y ∷ ws) = (x ∷ y ∷ [], refl)

-- the names of components of the words that are gone over, behind the first two
pub record AreNames (line rest : List ℕ) (names : List (List ℕ)) : Type 0 where
  apart : are_apart [] (drop 1 (drop 1 (words line))) ≡ are_apart names (words rest)
  before : AreBefore line rest names
  pub named : AreNamed line (length names) (words rest)

pub names-none : (line rest : List ℕ) → IsRestOf line rest
    → words rest ≡ drop 1 (drop 1 (words line)) → AreNames line rest []
names-none line rest of is =
    let front = behind_two (words line) in
    record {
      apart = ap (λ (ws : List (List ℕ)). are_apart [] ws) (sym is);
      before = record {
        column = length line + 1 - length rest;
        at = omega (arith, rest_fits line rest of);
        all = All-nil _;
      };
      named = record {
        front = front.0;
        split = front.1 ∙ ap (λ (ws : List (List ℕ)). front.0
            ++ ws) (sym is);
        counted = omega arith;
      };
    }

pub names-other : (line old new : List ℕ) (names : List (List ℕ)) (placed : Placed)
    → AreNames line old names → words old ≡ placed.word.now ∷ words new
    → IsBetween line old placed new → named_in placed.word.now ≡ None → AreNames line new names
names-other line old new names placed so is step none = record {
  apart = so.apart ∙ rw (is, none) refl;
  before = before_other line old new names placed so.before step;
  named = named-other line placed.word.now (length names) (words old) (words new) so.named is;
}

pub names-more : (line old new : List ℕ) (names : List (List ℕ)) (placed : Placed) (name : List ℕ)
    → AreNames line old names → words old ≡ placed.word.now ∷ words new → IsPlacedOn line placed
    → IsBetween line old placed new → named_in placed.word.now ≡ Some name
    → is_known name names ≡ false → length names < 32
    → AreNames line new (names ++ name ∷ [])
names-more line old new names placed name so is at step there unknown few =
    let want = want_is_named placed.word.now name there in
    record {
      apart = so.apart ∙ rw (is, there, unknown, lt-leb 32 (length names) few) refl;
      before = before_more line old new names placed name so.before at step want;
      named = rw (length-append names (name ∷ []))
          (named-more line placed.word.now name (length names) (words old)
          (words new) so.named is want);
    }

-- a name among them stands before
pub stands_before : (line old new : List ℕ) (names : List (List ℕ)) (placed : Placed)
    (name : List ℕ) → AreNames line old names → IsBetween line old placed new
    → is_known name names ≡ true → IsNamedBefore line placed.column name
stands_before line old new names placed name so step known =
    named_further line so.before.column placed.column name
    (omega (arith, so.before.at, step.column, step.fits))
    (known_has (IsNamedBefore line so.before.column) name names so.before.all known)

-- of the last word too none stands twice
pub names-last : (line rest : List ℕ) (names : List (List ℕ)) → AreNames line rest names
    → words rest ≡ [] → are_apart [] (drop 1 (drop 1 (words line))) ≡ true
names-last line rest names so is = so.apart ∙ rw is refl
