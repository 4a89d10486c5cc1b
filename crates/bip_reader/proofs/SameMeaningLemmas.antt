-- Why texts that say the same words mean the same.
use Rattle.std.proofs.Common.{◌≡◌, ℕ, ◌+◌, Bool, true, false, cond, List, [], ◌∷◌, ◌++◌, map}
use Rattle.std.proofs.Common.{Option, None, Some, Result, Ok, Err, refl, ap, ◌∙◌, sym, arith}
use Rattle.std.specs.Prelude.{filter}
use Rattle.bip_model.specs.Faults.{◌>>=◌}
use Rattle.bip_model.specs.Texts.{is_line_feed, lines, onto_first_line, said_in, says_something}
use Rattle.bip_model.specs.Texts.{words_said}
use Rattle.bip_reader.specs.declared.faults.ReadFault.{ReadFault}
use Rattle.bip_reader.specs.declared.faults.Why.{Why}
use Rattle.bip_reader.specs.declared.reading.Reading.{Reading}
use Rattle.bip_reader.specs.Laws.{NoLastLineFeed, SameMeaning}
use Rattle.bip_reader.specs.Reading.{at_line, empty_reading, reading_after, reading_after_lines}
use Rattle.bip_reader.specs.Reading.{reading_after_words}
use Rattle.bip_reader.specs.Texts.{reading_of}

-- what words say, line after line, without the lines' numbers
abbrev reading_after_all : List (Option (List (List ℕ))) → Reading → Result Reading Why
reading_after_all [] r = Ok r
reading_after_all (ws ∷ rest) r = reading_after_words ws r >>= reading_after_all rest

-- what lines say, or their first fault without its number
abbrev unnumbered : Result Reading ReadFault → Result Reading Why
unnumbered (Ok r) = Ok r
unnumbered (Err fault) = Err fault.why

lines_say : (n : ℕ) (ls : List (List ℕ)) (r : Reading)
    → unnumbered (reading_after_lines n ls r) ≡ reading_after_all (map words_said ls) r
unfolding reading_after
lines_say n [] r = refl
lines_say n (line ∷ ls) r = first (reading_after_words (words_said line) r) (lines_say (n + 1) ls)
  where
    first : (said : Result Reading Why) → ((s : Reading)
        → unnumbered (reading_after_lines (n + 1) ls s) ≡ reading_after_all (map words_said ls) s)
        → unnumbered (at_line n said >>= reading_after_lines (n + 1) ls)
        ≡ said >>= reading_after_all (map words_said ls)
    first (Ok s) later = later s
    first (Err why) later = refl

skipped_aside : (said : List (Option (List (List ℕ)))) (r : Reading)
    → reading_after_all (filter says_something said) r ≡ reading_after_all said r
skipped_aside [] r = refl
skipped_aside (None ∷ rest) r = refl
skipped_aside (Some [] ∷ rest) r = skipped_aside rest r
skipped_aside (Some (word ∷ words) ∷ rest) r =
    behind_it (reading_after_words (Some (word ∷ words)) r) (skipped_aside rest)
  where
    behind_it : (said : Result Reading Why) → ((s : Reading)
        → reading_after_all (filter says_something rest) s ≡ reading_after_all rest s)
        → said >>= reading_after_all (filter says_something rest) ≡ said >>= reading_after_all rest
    behind_it (Ok s) later = later s
    behind_it (Err why) later = refl

is_read : (said : Result Reading ReadFault) (r : Reading) → unnumbered said ≡ Ok r → said ≡ Ok r
is_read said r e = grind arith

pub same_meaning : SameMeaning
unfolding reading_of
same_meaning a b same m classes h =
    let read_by : (text : List ℕ) → unnumbered (reading_of text) ≡ reading_after_all
    (said_in text) empty_reading =
    λ text. lines_say 1 (lines text) empty_reading
    ∙ sym (skipped_aside (map words_said (lines text)) empty_reading)
    in
    record {
      read = h.read;
      said = is_read _ h.read (read_by b
          ∙ rw (← same) (sym (read_by a) ∙ ap unnumbered h.said));
      declares = h.declares;
    }

-- lines, and the same lines with perhaps an empty one more at the end
data HasLineMore : List (List ℕ) → List (List ℕ) → Type 0 where
  same : {ls : List (List ℕ)} → HasLineMore ls ls
  one_more : HasLineMore [] ([] ∷ [])
  behind : {l : List ℕ} {ls ms : List (List ℕ)} → HasLineMore ls ms → HasLineMore (l ∷ ls) (l ∷ ms)

onto_more : (b : ℕ) {ls ms : List (List ℕ)} → HasLineMore ls ms
    → HasLineMore (onto_first_line b ls) (onto_first_line b ms)
onto_more b same = same
onto_more b one_more = same
onto_more b (behind h) = behind h

-- a line feed at the end
line_more : (text : List ℕ) → HasLineMore (lines text) (lines (text ++ 10 ∷ []))
line_more [] = one_more
line_more (b ∷ bs) = by_feed (is_line_feed b) (line_more bs)
  where
    by_feed : (feed : Bool) → HasLineMore (lines bs) (lines (bs ++ 10 ∷ []))
        → HasLineMore (cond feed ([] ∷ lines bs) (onto_first_line b (lines bs)))
        (cond feed ([] ∷ lines (bs ++ 10 ∷ [])) (onto_first_line b (lines (bs ++ 10 ∷ []))))
    by_feed true h = behind h
    by_feed false h = onto_more b h

one_before : (ws : Option (List (List ℕ))) (xs ys : List (Option (List (List ℕ))))
    → filter says_something xs ≡ filter says_something ys
    → filter says_something (ws ∷ xs) ≡ filter says_something (ws ∷ ys)
one_before None xs ys e = ap (λ (zs : List (Option (List (List ℕ)))). None ∷ zs) e
one_before (Some []) xs ys e = e
one_before (Some (word ∷ words)) xs ys e = ap (λ (zs : List (Option (List (List ℕ)))).
    Some (word ∷ words) ∷ zs) e

nothing_more : {ls ms : List (List ℕ)} → HasLineMore ls ms
    → filter says_something (map words_said ms) ≡ filter says_something (map words_said ls)
nothing_more same = refl
nothing_more one_more = refl
nothing_more (behind {l} {ls} {ms} h) = one_before (words_said l) (map words_said ms)
    (map words_said ls) (nothing_more h)

pub no_last_line_feed : NoLastLineFeed
no_last_line_feed text = nothing_more (line_more text)
