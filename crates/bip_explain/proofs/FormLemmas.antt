-- Words that are gone over from a place on, and where the first one can't stand.
use Rattle.std.proofs.Common.{◌≡◌, ℕ, ◌+◌, Bool, true, false, List, [], ◌∷◌, ◌++◌, length, map}
use Rattle.std.proofs.Common.{IfNone, Option, None, Some, refl, sym, ap, ◌∙◌, append_assoc}
use Rattle.std.proofs.Common.{append-nil}
use Rattle.std.proofs.lemmas.List.{append_cancel_right, map-append}
use Rattle.bip_model.specs.Texts.{is_comment, is_plain, words}
use Rattle.bip_model.specs.declared.clauses.Spelling.{Spelling}
use Rattle.bip_explain.specs.Expected.{after_word, after_all, can_end, ends, takes_all}
use Rattle.bip_explain.specs.Forms.{IsFormReason}
use Rattle.bip_explain.specs.Placed.{IsPlacedOn, said_words}
use Rattle.bip_explain.specs.declared.expected.Expected.{Expected}
use Rattle.bip_explain.specs.declared.forms.FormReason.TheVariants.{Word, End}
use Rattle.bip_explain.specs.declared.placed.Placed.{Placed}
use Rattle.bip_explain.proofs.WantedLemmas.{behind}

abbrev pub words_in : List Placed → List (List ℕ)
words_in ps = map (λ (p : Placed). p.word.now) ps

-- these words are taken, and lead to a place; those are left
pub record IsGoneTo (spelling : Spelling) (start : Expected) (all : List (List ℕ))
    (gone : List Placed) (expected : Expected) (left : List (List ℕ)) : Type 0 where
  pub taken : after_all spelling start (words_in gone) ≡ Some expected
  pub split : all ≡ words_in gone ++ left

pub gone-none : (spelling : Spelling) (start : Expected) (all : List (List ℕ))
    → IsGoneTo spelling start all [] start all
gone-none spelling start all = record { taken = refl; split = refl }

pub gone-more : (spelling : Spelling) (start expected next : Expected)
    (all left after' : List (List ℕ)) (gone : List Placed) (p : Placed)
    → IsGoneTo spelling start all gone expected left → left ≡ p.word.now ∷ after'
    → after_word spelling expected p.word.now ≡ Some next
    → IsGoneTo spelling start all (gone ++ p ∷ []) next after'
gone-more spelling start expected next all left after' gone p so is at = record {
  taken = ap (λ ws. after_all spelling start ws)
      (map-append (λ (q : Placed). q.word.now) gone (p ∷ []))
      ∙ (behind spelling start expected (words_in gone) (p.word.now ∷ []) so.taken ∙ rw at refl);
  split = so.split ∙ rw (is, map-append (λ (q : Placed). q.word.now) gone (p ∷ []))
      (simp append_assoc);
}

-- where no word is left, and the line can end
pub gone-all : (spelling : Spelling) (start expected : Expected) (all left : List (List ℕ))
    (gone : List Placed) → IsGoneTo spelling start all gone expected left → left ≡ []
    → can_end expected ≡ true → takes_all spelling start all ≡ true
gone-all spelling start expected all left gone so is last =
    let whole : all ≡ words_in gone = so.split
    ∙ (ap (λ (ws : List (List ℕ)). words_in gone ++ ws) is ∙ append-nil (words_in gone)) in
    ap ends (ap (λ (ws : List (List ℕ)). after_all spelling start ws) whole ∙ so.taken) ∙ last

-- a word that can't stand where the words before it lead
pub misplaced : (spelling : Spelling) (start expected : Expected) (front all left : List (List ℕ))
    (line rest new : List ℕ) (gone : List Placed) (placed : Placed) → words line ≡ front ++ all
    → IsGoneTo spelling start all gone expected left → left ≡ placed.word.now ∷ words new
    → (at : IsPlacedOn line placed) → words at.behind ≡ words new
    → after_word spelling expected placed.word.now ≡ None
    → IsFormReason spelling start front line (Word placed spelling expected)
misplaced spelling start expected front all left line rest new gone placed whole so is at same
    none =
    let there : at.front ++ (placed.word.now ∷ words new) ≡ (front ++ words_in gone)
    ++ (placed.word.now ∷ words new)
    = ap (λ (ws : List (List ℕ)). at.front ++ placed.word.now ∷ ws) (sym same)
    ∙ (sym at.words_are ∙ (whole ∙ (ap (λ (ws : List (List ℕ)). front ++ ws)
    (so.split ∙ ap (λ (ws : List (List ℕ)). words_in gone ++ ws) is)
    ∙ sym (append_assoc front (words_in gone) (placed.word.now ∷ words new))))) in (
      at,
      refl,
      (
        words_in gone,
        append_cancel_right at.front (front
            ++ words_in gone) (placed.word.now ∷ words new) there,
        so.taken,
      ),
      none,
    )

-- a line that ends where it can't
pub ended : (spelling : Spelling) (start expected : Expected) (front all left : List (List ℕ))
    (line : List ℕ) (column : ℕ) (gone : List Placed) → words line ≡ front ++ all
    → IsGoneTo spelling start all gone expected left → left ≡ [] → column ≡ length line + 1
    → can_end expected ≡ false
    → IsFormReason spelling start front line (End column spelling expected)
ended spelling start expected front all left line column gone whole so is there none = (
  there,
  refl,
  (
    words_in gone,
    whole ∙ ap (λ (ws : List (List ℕ)). front ++ ws) (so.split
        ∙ (ap (λ (ws : List (List ℕ)). words_in gone ++ ws) is ∙ append-nil (words_in gone))),
    so.taken,
  ),
  none,
)

-- the words that a line says are its words
pub words_from_said : (line word : List ℕ) (rest : List (List ℕ)) → said_words line ≡ word ∷ rest
    → words line ≡ word ∷ rest
words_from_said line word rest says = by_tests (is_plain line) refl (is_comment (words line)) refl
  where
    by_tests : (p : Bool) → is_plain line ≡ p → (q : Bool) → is_comment (words line) ≡ q
        → words line ≡ word ∷ rest
    by_tests false e q f = let none : [] ≡ word ∷ rest = rw e at says in cc
    by_tests true e true f = let none : [] ≡ word ∷ rest = rw (e, f) at says in cc
    by_tests true e false f = rw (e, f) at says

-- a line that says words has no byte that can't stand in a text
pub plain_from_said : (line word : List ℕ) (rest : List (List ℕ)) → said_words line ≡ word ∷ rest
    → is_plain line ≡ true
plain_from_said line word rest says = by_test (is_plain line) refl
  where
    by_test : (p : Bool) → is_plain line ≡ p → is_plain line ≡ true
    by_test true e = e
    by_test false e = let none : [] ≡ word ∷ rest = rw e at says in cc

-- what holds anyway holds where nothing is found
pub if_none : {A Q : Type 0} (o : Option A) → Q → IfNone o Q
if_none None holds = holds
if_none (Some x) holds = tt
