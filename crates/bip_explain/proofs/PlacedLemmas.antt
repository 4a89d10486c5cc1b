-- Where the words of a line stand.
use Rattle.std.proofs.Common.{Some, ◌≡◌, ℕ, ◌+◌, ◌-◌, ◌≤◌, ◌<◌, List, [], ◌∷◌, ◌++◌, length, take}
use Rattle.std.proofs.Common.{refl, sym, ap, ◌∙◌, append_assoc, arith, length-append}
use Rattle.std.proofs.lemmas.List.{append_cancel_right, take-append-drop}
use Rattle.std.proofs.Math.Seq.{drop-append_seam}
use Rattle.bip_model.specs.Texts.{words, IsWordAndRest}
use Rattle.bip_explain.specs.Placed.{IsBetween, IsEndOf, IsFirstOn, IsPlacedOn, IsRestOf, IsWordAt}
use Rattle.bip_explain.specs.Placed.{TakesWord, said_words}
use Rattle.bip_explain.specs.declared.placed.Placed.{Placed}

-- what stands in front of an end
pub front_of : {A : Type 0} (whole end : List A) → IsEndOf whole end
    → whole ≡ take (length whole - length end) whole ++ end
front_of whole end h = sym (take-append-drop (length whole - length end) whole)
    ∙ ap (λ e. take (length whole - length end) whole ++ e) h

pub end_behind : {A : Type 0} (whole front end : List A) → whole ≡ front ++ end → IsEndOf whole end
end_behind {A} whole front end h =
    let n : length whole - length end ≡ length front =
    omega (arith, ap length h, length-append front end) in
    rw n (rw h (drop-append_seam front end))

-- what is left behind a word
pub rest_behind : (line old word new : List ℕ) → IsRestOf line old → IsWordAndRest old word new
    → words old ≡ word ∷ words new → IsRestOf line new
unfolding IsWordAndRest
rest_behind line old word new h parts split =
    let front : List ℕ = take (length line - length old) line in
    let told : List (List ℕ) = take (length (words line) - length (words old)) (words line) in (
      end_behind line (front ++ parts.0 ++ word) new
          (front_of line old h.0 ∙ ap (λ l. front ++ l) parts.2 ∙ simp append_assoc),
      end_behind (words line) (told ++ word ∷ []) (words new)
          (front_of (words line) (words old) h.1 ∙ ap (λ l. told ++ l) split ∙ simp append_assoc),
    )

-- the word that is taken stands in the line
pub word_taken : (line old word new : List ℕ) → IsRestOf line old → IsWordAndRest old word new
    → words old ≡ word ∷ words new → IsWordAt line (length line - length new - length word + 1) word
unfolding IsWordAndRest
word_taken line old word new h parts split =
    let front : List ℕ = take (length line - length old) line in
    let told : List (List ℕ) = take (length (words line) - length (words old)) (words line) in
    let whole : line ≡ (front ++ parts.0) ++ (word ++ new) = front_of line old h.0
    ∙ ap (λ l. front ++ l) parts.2 ∙ simp append_assoc in
    record {
      before = front ++ parts.0;
      behind = new;
      front = told;
      line_is = whole;
      column_is = omega (
        arith,
        ap length whole,
        length-append (front ++ parts.0) (word ++ new),
        length-append word new,
      );
      words_are = front_of (words line) (words old) h.1 ∙ ap (λ l. told ++ l) split;
    }

-- and what is left stands behind it
pub taken_behind : (line old word new : List ℕ) (h : IsRestOf line old)
    (parts : IsWordAndRest old word new) (split : words old ≡ word ∷ words new)
    → words (word_taken line old word new h parts split).behind ≡ words new
unfolding word_taken
taken_behind line old word new h parts split = refl

-- what stands in front of a word, where these words stand in front of what was left with it
pub stands_behind : (line : List ℕ) (placed : Placed) (front left : List (List ℕ)) (rest : List ℕ)
    → words line ≡ front ++ left → left ≡ placed.word.now ∷ words rest
    → (at : IsPlacedOn line placed) → words at.behind ≡ words rest → at.front ≡ front
stands_behind line placed front left rest split is at same =
    let there : at.front ++ placed.word.now ∷ words rest ≡ front ++ placed.word.now ∷ words rest
    = ap (λ (ws : List (List ℕ)). at.front ++ placed.word.now ∷ ws) (sym same)
    ∙ (sym at.words_are ∙ (split ∙ ap (λ (ws : List (List ℕ)). front ++ ws) is)) in
    append_cancel_right at.front front (placed.word.now ∷ words rest) there

-- a word and what is left behind it are no longer than the line
pub word_fits : (line old word new : List ℕ) → IsRestOf line old → IsWordAndRest old word new
    → length new + length word ≤ length line
unfolding IsWordAndRest
word_fits line old word new h parts =
    let front : List ℕ = take (length line - length old) line in
    omega (
      arith,
      ap length (front_of line old h.0),
      length-append front old,
      ap length parts.2,
      length-append (parts.0 ++ word) new,
      length-append parts.0 word,
    )

-- between what was left and what is left
pub is_between : (line old new : List ℕ) (placed : Placed)
    → placed.column ≡ length line - length new - length placed.word.now + 1 → IsRestOf line old
    → IsWordAndRest old placed.word.now new → 0 < length placed.word.now
    → IsBetween line old placed new
unfolding IsWordAndRest
is_between line old new placed at h parts some =
    let fits = word_fits line old placed.word.now new h parts in
    record {
      some = some;
      fits = omega (
        arith,
        ap length parts.2,
        length-append (parts.0 ++ placed.word.now) new,
        length-append parts.0 placed.word.now,
      );
      column = omega (arith, at, fits);
    }

-- the first word of a line that says something
pub first_on : (line new : List ℕ) (placed : Placed) (rest : List (List ℕ))
    → TakesWord line line (Some placed) new → said_words line ≡ placed.word.now ∷ rest
    → IsFirstOn line placed
first_on line new placed rest step says = (
  step.1,
  stands_behind line placed [] (words line) new refl step.0 step.1 step.2,
  (rest, says),
)
