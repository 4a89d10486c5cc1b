-- The fault of a text's lines is that of the first line at fault.
use Rattle.std.proofs.Common.{◌≡◌, ℕ, ◌+◌, List, [], ◌∷◌, ◌++◌, length, Result, Ok, Err, refl, ap}
use Rattle.std.proofs.Common.{◌∙◌, arith}
use Rattle.bip_model.specs.Faults.{◌>>=◌}
use Rattle.bip_model.specs.Texts.{lines}
use Rattle.bip_reader.specs.Laws.{FirstLineIsTold}
use Rattle.bip_reader.specs.Reading.{at_line, empty_reading, reading_after, reading_after_lines}
use Rattle.bip_reader.specs.Texts.{reading_of}
use Rattle.bip_reader.specs.declared.faults.ReadFault.{ReadFault}
use Rattle.bip_reader.specs.declared.faults.Why.{Why}
use Rattle.bip_reader.specs.declared.reading.Reading.{Reading}
use Rattle.bip_reader.proofs.TextLemmas.{reading-append}

-- the same of lines, the first of which has a number, behind what was read
record IsFirstFrom (n : ℕ) (text : List (List ℕ)) (r : Reading) (fault : ReadFault) : Type 0 where
  before : List (List ℕ)
  line : List ℕ
  rest : List (List ℕ)
  read : Reading
  split : text ≡ before ++ line ∷ rest
  counted : fault.line ≡ n + length before
  clear : reading_after_lines n before r ≡ Ok read
  at : reading_after line read ≡ Err fault.why

by_line : (n : ℕ) (line : List ℕ) (rest : List (List ℕ)) (r : Reading) (fault : ReadFault)
    (said : Result Reading Why) → reading_after line r ≡ said
    → at_line n said >>= reading_after_lines (n + 1) rest ≡ Err fault
    → ((s : Reading) → reading_after_lines (n + 1) rest s ≡ Err fault
    → IsFirstFrom (n + 1) rest s fault) → IsFirstFrom n (line ∷ rest) r fault
by_line n line rest r fault (Ok s) is e later =
    let h = later s e in
    record {
      before = line ∷ h.before;
      line = h.line;
      rest = h.rest;
      read = h.read;
      split = ap (λ (ls : List (List ℕ)). line ∷ ls) h.split;
      counted = omega (arith, h.counted);
      clear = rw is h.clear;
      at = h.at;
    }
by_line n line rest r fault (Err why) is e later =
    let same : record { line = n; why = why } ≡ fault = grind arith in
    record {
      before = [];
      line = line;
      rest = rest;
      read = r;
      split = refl;
      counted = omega (arith, ap (λ (f : ReadFault). f.line) same);
      clear = refl;
      at = is ∙ ap (λ (f : ReadFault). Err f.why) same;
    }

first_from : (n : ℕ) (text : List (List ℕ)) (r : Reading) (fault : ReadFault)
    → reading_after_lines n text r ≡ Err fault → IsFirstFrom n text r fault
first_from n [] r fault e = absurd (cc)
first_from n (line ∷ rest) r fault e = by_line n line rest r fault (reading_after line r) refl e
    (λ s d. first_from (n + 1) rest s fault d)

pub first_line_is_told : FirstLineIsTold
unfolding reading_of
first_line_is_told text fault = (
  λ e.
      let h = first_from 1 (lines text) empty_reading fault e in
      record {
        before = h.before;
        line = h.line;
        rest = h.rest;
        read = h.read;
        split = h.split;
        counted = omega (arith, h.counted);
        clear = h.clear;
        at = h.at;
      },
  λ h.
      let number : 1 + length h.before ≡ fault.line = omega (arith, h.counted) in
      ap (λ (ls : List (List ℕ)). reading_after_lines 1 ls empty_reading) h.split
      ∙ reading-append 1 h.before (h.line ∷ h.rest) empty_reading
      ∙ rw (h.clear, h.at, number) refl,
)
