-- Texts that lead from what was read to what is read next, whatever stands behind them.
use Rattle.std.proofs.Common.{◌≡◌, ℕ, zero, suc, ◌+◌, ◌<◌, true, false, List, [], ◌∷◌, ◌++◌, length}
use Rattle.std.proofs.Common.{get_or, Option, Some, Ok, refl, ap, ◌∙◌, sym, arith, append_assoc}
use Rattle.std.proofs.Common.{append-nil}
use Rattle.std.specs.Prelude.{All}
use Rattle.std.specs.List.{flat_map, range_with_len}
use Rattle.std.proofs.lemmas.Grind.{common_steps}
use Rattle.bip_model.specs.Texts.{is_comment, lines, spaced, words_said}
use Rattle.bip_model.proofs.WrittenLemmas.{IsWord, lines_front, plain_spaced, words_spaced}
use Rattle.bip_reader.specs.declared.reading.Reading.{Reading}
use Rattle.bip_reader.specs.declared.statements.Keyword.{Keyword}
use Rattle.bip_reader.specs.declared.statements.Statement.{Statement}
use Rattle.bip_reader.specs.Reading.{empty_reading, has_place, reading_after, reading_after_lines}
use Rattle.bip_reader.specs.Reading.{reading_after_words, reading_with}
use Rattle.bip_reader.specs.Statements.{keyword_of, statement_of}
use Rattle.bip_reader.specs.Texts.{reading_of}
use Rattle.bip_reader.specs.Writing.{line_with}
use Rattle.bip_reader.proofs.WritingLemmas.{of_numbers_more}

-- lines that lead from one reading to another, whatever comes behind them
pub record Leads (text : List ℕ) (r s : Reading) : Type 0 where
  pub count : ℕ
  pub said : (n : ℕ) (rest : List ℕ) → reading_after_lines n (lines (text ++ rest)) r
      ≡ reading_after_lines (n + count) (lines rest) s

pub leads_none : (r : Reading) → Leads [] r r
leads_none r = record { count = 0; said = λ n rest. let e : n + 0 ≡ n = omega arith in rw e refl }

pub leads_both : {a b : List ℕ} {r s t : Reading} → Leads a r s → Leads b s t → Leads (a ++ b) r t
leads_both {a} {b} {r} {s} {t} f g = record {
  count = f.count + g.count;
  said = λ n rest.
      let e : n + f.count + g.count ≡ n + (f.count + g.count) = omega arith in
      ap (λ (text : List ℕ). reading_after_lines n (lines text) r) (append_assoc a b rest)
      ∙ f.said n (b ++ rest) ∙ g.said (n + f.count) rest
      ∙ ap (λ k. reading_after_lines k (lines rest) t) e;
}

-- texts one after another
pub leads_all : {X : Type 0} (f : X → List ℕ) (at : ℕ → Reading) (d : X) (xs : List X)
    → ((k : ℕ) → k < length xs → Leads (f (get_or xs k d)) (at k) (at (suc k)))
    → Leads (flat_map f xs) (at 0) (at (length xs))
leads_all f at d [] step = leads_none (at 0)
leads_all f at d (x ∷ xs) step = leads_both (step 0 (omega arith))
    (leads_all f (λ k. at (suc k)) d xs (λ k below. step (suc k) (omega arith)))

pub leads_numbers : (f : ℕ → List ℕ) (at : ℕ → Reading) (n : ℕ)
    → ((k : ℕ) → k < n → Leads (f k) (at k) (at (suc k)))
    → Leads (flat_map f (range_with_len 0 n)) (at 0) (at n)
leads_numbers f at zero step = leads_none (at 0)
leads_numbers f at (suc n) step =
    let on : n + 1 ≡ suc n = omega arith in
    let parts : flat_map f (range_with_len 0 (suc n)) ≡ flat_map f (range_with_len 0 n) ++ f n =
    ap (λ k. flat_map f (range_with_len 0 k)) (sym on) ∙ of_numbers_more f n in
    rw parts (leads_both (leads_numbers f at n (λ k below. step k (omega arith)))
    (step n (omega arith)))

line-behind : (word rest : List ℕ) (ws : List (List ℕ))
    → line_with word ws ++ rest ≡ (word ++ flat_map spaced ws) ++ 10 ∷ rest
line-behind word rest ws = grind (arith, common_steps)

said-line : (word : List ℕ) (ws : List (List ℕ)) → IsWord word → All IsWord ws
    → is_comment (word ∷ []) ≡ false → words_said (word ++ flat_map spaced ws) ≡ Some (word ∷ ws)
said-line word ws is all says = rw (plain_spaced word ws is.1 all, words_spaced word ws is all)
    (rw says refl)

-- a line of words that state something in its place
pub leads_stated : (k : Keyword) (word : List ℕ) (ws : List (List ℕ)) (st : Statement)
    (r s : Reading) → IsWord word → is_comment (word ∷ []) ≡ false → keyword_of word ≡ Some k
    → All IsWord ws → has_place k r ≡ true → statement_of k ws ≡ Some st → reading_with st r ≡ Ok s
    → Leads (line_with word ws) r s
unfolding reading_after
leads_stated k word ws st r s is says keyword all place form next =
    let line : List ℕ = word ++ flat_map spaced ws in
    let stated : reading_after_words (Some (word ∷ ws)) r ≡ Ok s = rw (keyword, place, form) next in
    let first : reading_after line r ≡ Ok s =
    ap (λ (said : Option (List (List ℕ))). reading_after_words said r)
    (said-line word ws is all says) ∙ stated in
    record {
      count = 1;
      said = λ n rest.
          ap (λ (text : List ℕ). reading_after_lines n (lines text) r) (line-behind word rest ws)
          ∙ ap (λ (ls : List (List ℕ)). reading_after_lines n ls r)
          (lines_front line rest (plain_spaced word ws is.1 all))
          ∙ rw first refl;
    }

-- a whole text
pub read_whole : (text : List ℕ) (r : Reading) → Leads text empty_reading r → reading_of text ≡ Ok r
unfolding reading_of
read_whole text r leads = ap (λ (t : List ℕ). reading_after_lines 1 (lines t) empty_reading)
    (sym (append-nil text)) ∙ leads.said 1 []
