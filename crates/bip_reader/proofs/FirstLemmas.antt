-- Why the fault of a text is the first, and nothing behind it counts.
use Rattle.std.proofs.Common.{◌≡◌, ℕ, suc, ◌+◌, ◌-◌, ◌<◌, List, [], ◌∷◌, length, take, drop, Result}
use Rattle.std.proofs.Common.{Ok, Err, refl, ap, ◌∙◌, subst, sym, arith, inl, inr}
use Rattle.std.specs.Prelude.{IsOk}
use Rattle.std.proofs.lemmas.List.{take-append-drop}
use Rattle.bip_model.specs.Faults.{◌>>=◌}
use Rattle.bip_model.specs.Texts.{lines}
use Rattle.bip_reader.specs.declared.faults.ReadFault.{ReadFault}
use Rattle.bip_reader.specs.declared.faults.Why.{Why}
use Rattle.bip_reader.specs.declared.reading.Reading.{Reading}
use Rattle.bip_reader.specs.Laws.{FirstFault, NothingPast}
use Rattle.bip_reader.specs.Reading.{at_line, empty_reading, reading_after, reading_after_lines}
use Rattle.bip_reader.specs.Texts.{IsReached, reading_of}
use Rattle.bip_reader.proofs.TextLemmas.{last_reached, reading-append}

-- the fault of lines, the first of which is numbered n, comes after so many without fault
record IsFirst (n : ℕ) (ls : List (List ℕ)) (r : Reading) (fault : ReadFault) : Type 0 where
  before : ℕ
  place : fault.line ≡ n + before
  within : before < length ls
  clear : IsOk (reading_after_lines n (take before ls) r)
  fails : reading_after_lines n (take (suc before) ls) r ≡ Err fault

first_by : (n : ℕ) (line : List ℕ) (rest : List (List ℕ)) (r : Reading) (fault : ReadFault)
    (said : Result Reading Why) → reading_after line r ≡ said
    → at_line n said >>= reading_after_lines (n + 1) rest ≡ Err fault
    → ((s : Reading) → reading_after_lines (n + 1) rest s ≡ Err fault
    → IsFirst (n + 1) rest s fault)
    → IsFirst n (line ∷ rest) r fault
first_by n line rest r fault (Ok s) is e later =
    let h = later s e in
    record {
      before = suc h.before;
      place = omega (arith, h.place);
      within = omega (arith, h.within);
      clear = rw is h.clear;
      fails = rw is h.fails;
    }
first_by n line rest r fault (Err why) is e later =
    let same : record { line = n; why = why } ≡ fault = grind arith in
    record {
      before = 0;
      place = omega (arith, ap (λ (f : ReadFault). f.line) same);
      within = omega arith;
      clear = refl;
      fails = rw is e;
    }

is_first : (n : ℕ) (ls : List (List ℕ)) (r : Reading) (fault : ReadFault)
    → reading_after_lines n ls r ≡ Err fault → IsFirst n ls r fault
is_first n [] r fault e = absurd (cc)
is_first n (line ∷ rest) r fault e = first_by n line rest r fault (reading_after line r) refl e
    (λ s d. is_first (n + 1) rest s fault d)

reached_first : (text : List ℕ) (fault : ReadFault) → IsFirst 1 (lines text) empty_reading fault
    → IsReached text fault.line
reached_first text fault h =
    let back : fault.line - 1 ≡ h.before = omega (arith, h.place) in
    record {
      first = omega (arith, h.place);
      last = omega (arith, h.place, h.within);
      clear = rw back h.clear;
    }

pub first_fault : FirstFault
unfolding reading_of
first_fault text fault (inl e) = reached_first text fault
    (is_first 1 (lines text) empty_reading fault e)
first_fault text fault (inr h) = subst (IsReached text) (sym h.last)
    (last_reached text h.read h.said)

pub nothing_past : NothingPast
unfolding reading_of
nothing_past a b fault e same =
    let h = is_first 1 (lines a) empty_reading fault e in
    let count : suc h.before ≡ fault.line = omega (arith, h.place) in
    let front : reading_after_lines 1 (take fault.line (lines b)) empty_reading ≡ Err fault =
    ap (λ (ls : List (List ℕ)). reading_after_lines 1 ls empty_reading)
    (sym same ∙ ap (λ (k : ℕ). take k (lines a)) (sym count)) ∙ h.fails
    in
    let whole : reading_after_lines 1 (lines b) empty_reading ≡ Err fault =
    ap (λ (ls : List (List ℕ)). reading_after_lines 1 ls empty_reading)
    (sym (take-append-drop fault.line (lines b)))
    ∙ reading-append 1 (take fault.line (lines b)) (drop fault.line (lines b)) empty_reading
    ∙ rw front refl
    in
    inl whole
