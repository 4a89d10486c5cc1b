-- Lines and words, taken off the front of a text.
use Rattle.std.proofs.Common.{◌≤◌, ◌≡◌, ℕ, zero, suc, ◌<◌, Bool, true, false, not, List, [], ◌∷◌}
use Rattle.std.proofs.Common.{◌++◌, length, get_or, take, drop, drop-cons, Option, None, Some, refl}
use Rattle.std.proofs.Common.{sym, ap, ◌∙◌, arith, eqb-true, All, IsTrue, filter, position}
use Rattle.std.proofs.Common.{get_or-take, length-take-le}
use Rattle.std.proofs.lemmas.Bool.{false_from_ne_true, not-false}
use Rattle.std.proofs.lemmas.Bool.Decides.{nat_tests}
use Rattle.bip_model.proofs.ListLemmas.{parted}
use Rattle.std.proofs.lemmas.List.Sums.{fails_before_first, position_or_len_is}
use Rattle.std.proofs.lemmas.List.Elements.{All-from_get_or}
use Rattle.std.proofs.lemmas.List.Splits.{slice_split_at, slice_split_none}
use Rattle.memchr.specs.Find.{IsFirstByte, is_byte}
use Rattle.bip_model.specs.Texts.{is_blank, is_line_feed, lines, is_longer, onto_first_line, words}

-- what is not blank
abbrev pub is_inked : ℕ → Bool
is_inked b = not (is_blank b)

-- a test fails at each place below a number
abbrev pub FailsBelow : (ℕ → Bool) → List ℕ → ℕ → Type 0
FailsBelow p xs n = (k : ℕ) → k < n → p (get_or xs k 0) ≡ false

-- what fails below a place further on, fails below one place less in the rest
pub fails_behind : (p : ℕ → Bool) (x : ℕ) (xs : List ℕ) (n : ℕ) → FailsBelow p (x ∷ xs) (suc n)
    → FailsBelow p xs n
fails_behind p x xs n fails k below = fails (suc k) (omega arith)

pub lines_at : (xs : List ℕ) (i : ℕ) → i < length xs → is_line_feed (get_or xs i 0) ≡ true
    → FailsBelow is_line_feed xs i → lines xs ≡ take i xs ∷ lines (drop (suc i) xs)
lines_at [] i within ends none = absurd (omega arith)
lines_at (b ∷ bs) zero within ends none = rw ends refl
lines_at (b ∷ bs) (suc i) within ends none =
    let first : is_line_feed b ≡ false = none 0 (omega arith) in
    rw first (ap (onto_first_line b) (lines_at bs i (omega arith) ends
    (fails_behind is_line_feed b bs i none)))

pub lines_whole : (text : List ℕ) → 0 < length text → FailsBelow is_line_feed text (length text)
    → lines text ≡ text ∷ []
lines_whole [] longer none = absurd (omega arith)
lines_whole (b ∷ []) longer none = rw (none 0 (omega arith)) refl
lines_whole (b ∷ c ∷ cs) longer none =
    let first : is_line_feed b ≡ false = none 0 (omega arith) in
    rw first (ap (onto_first_line b) (lines_whole (c ∷ cs) (omega arith)
    (fails_behind is_line_feed b (c ∷ cs) (suc (length cs)) none)))

pub line_parts : (text : List ℕ) (i : ℕ) → i < length text → is_line_feed (get_or text i 0) ≡ true
    → text ≡ take i text ++ 10 ∷ drop (suc i) text
line_parts text i within ends = rw (← eqb-true (get_or text i 0) 10 ends)
    (sym (parted text i 0 within))

-- where no place is found, the test fails everywhere
pub position_none : (p : ℕ → Bool) (xs : List ℕ) → position p xs ≡ None
    → FailsBelow p xs (length xs)
position_none p xs none k below = fails_before_first p xs k 0 (grind (arith, nat_tests))

-- a blank at the front says nothing
pub words_blank : (b : ℕ) (bs : List ℕ) → is_blank b ≡ true → words (b ∷ bs) ≡ words bs
words_blank b bs blank = rw blank refl

-- what fails below a place fails of each byte before that place
front_fails : (p : ℕ → Bool) (xs : List ℕ) (i : ℕ) → i ≤ length xs → FailsBelow p xs i
    → All (λ b. p b ≡ false) (take i xs)
front_fails p xs i within fails = All-from_get_or (λ b. p b ≡ false) (take i xs) 0 (λ k below.
    let before : k < i = omega (arith, length-take-le i xs within) in
    rw (get_or-take i xs k 0 before) (fails k before))

-- what stands before the first byte of a word
pub blanks_before : (xs : List ℕ) (i : ℕ) → i < length xs → FailsBelow is_inked xs i
    → All (λ b. IsTrue (is_blank b)) (take i xs)
blanks_before xs i within blanks = λ k d below. not-false _
    (front_fails is_inked xs i (omega arith) blanks k d below)

pub words_behind : (xs : List ℕ) (i : ℕ) → i < length xs → FailsBelow is_inked xs i
    → words xs ≡ words (drop i xs)
words_behind [] i within blanks = absurd (omega arith)
words_behind (b ∷ bs) zero within blanks = refl
words_behind (b ∷ bs) (suc i) within blanks =
    words_blank b bs (not-false (is_blank b) (blanks 0 (omega arith)))
    ∙ words_behind bs i (omega arith) (fails_behind is_inked b bs i blanks)

pub words_none : (xs : List ℕ) → FailsBelow is_inked xs (length xs) → words xs ≡ []
words_none [] blanks = refl
words_none (b ∷ bs) blanks =
    words_blank b bs (not-false (is_blank b) (blanks 0 (omega arith)))
    ∙ words_none bs (fails_behind is_inked b bs (length bs) blanks)

-- a line that is one word
pub words_whole : (line : List ℕ) → 0 < length line → FailsBelow is_blank line (length line)
    → words line ≡ line ∷ []
words_whole [] longer inked = absurd (omega arith)
words_whole (b ∷ bs) longer inked = ap (filter is_longer)
    (slice_split_none is_blank (b ∷ bs) (All-from_get_or (λ c. is_blank c ≡ false) (b ∷ bs) 0
    (λ k below. inked k below)))

-- a line that begins with a word
pub words_at : (line : List ℕ) (end : ℕ) → is_blank (get_or line 0 0) ≡ false → end < length line
    → is_blank (get_or line end 0) ≡ true → FailsBelow is_blank line end
    → words line ≡ take end line ∷ words (drop end line)
words_at [] end begins within blank inked = absurd (omega arith)
words_at (b ∷ bs) zero begins within blank inked = cc
words_at (b ∷ bs) (suc i) begins within blank inked =
    let front : List ℕ = take (suc i) (b ∷ bs) in
    let rest : List ℕ = drop (suc i) bs in
    let inked' = front_fails is_blank (b ∷ bs) (suc i) (omega arith) inked in
    ap (λ (ys : List ℕ). words (b ∷ ys)) (sym (parted bs i 0 (omega arith)))
    ∙ (ap (filter is_longer) (slice_split_at is_blank front (get_or bs i 0) rest inked' blank)
    ∙ ap (λ (ws : List (List ℕ)). front ∷ ws)
    (sym (words_blank (get_or bs i 0) rest blank)
    ∙ ap words (sym (drop-cons bs i 0 (omega arith)))))

-- the first byte that is a line feed, by its place
pub first_is_position : (text : List ℕ) (found : Option ℕ) → IsFirstByte (is_byte 10) text found
    → found ≡ position is_line_feed text
first_is_position text None none =
    let at = position_or_len_is is_line_feed text (length text) 0 (omega arith)
    (λ k below. false_from_ne_true (is_line_feed (get_or text k 0))
    (none k (omega arith) below)) (λ within. absurd (omega arith)) in
    grind (arith, nat_tests)
first_is_position text (Some i) first =
    let at = position_or_len_is is_line_feed text i 0 (omega (arith, first.0.high))
    (λ k below. false_from_ne_true (is_line_feed (get_or text k 0))
    (first.0.before k (omega arith) below)) (λ within'. first.1) in
    grind (arith, nat_tests, first.0.high)
