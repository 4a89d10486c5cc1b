-- A text line by line: the lines that were read, and those that are left with their numbers.
use Rattle.std.proofs.Common.{◌≡◌, ℕ, zero, suc, ◌+◌, ◌≤◌, Bool, true, false, if◌then◌else◌, List}
use Rattle.std.proofs.Common.{[], ◌∷◌, ◌++◌, length, refl, sym, ap, ◌∙◌, append_assoc, arith}
use Rattle.std.proofs.Common.{length-append, append-nil, slice_get, slice_index_or}
use Rattle.std.specs.Option.{option_map_or}
use Rattle.std.proofs.lemmas.Option.{some_pair_parts}
use Rattle.bip_model.specs.Texts.{is_line_feed, lines, numbered, numbered_lines, onto_first_line}

-- these lines were read, and those are left
pub record AreLeft (text : List ℕ) (front : List (List ℕ)) (left : List (ℕ × List ℕ)) : Type 0 where
  pub behind : List (List ℕ)
  pub whole : lines text ≡ front ++ behind
  pub numbers : left ≡ numbered (length front + 1) behind

pub none_read : (text : List ℕ) → AreLeft text [] (numbered_lines text)
none_read text = record { behind = lines text; whole = refl; numbers = refl }

lines_on : (b : ℕ) (ls : List (List ℕ)) (ends : Bool)
    → length (if ends then [] ∷ ls else onto_first_line b ls) ≤ length ls + 1
lines_on b ls true = omega arith
lines_on b [] false = omega arith
lines_on b (line ∷ ls) false = omega arith

-- a text has no more lines than bytes
lines_short : (text : List ℕ) → length (lines text) ≤ length text
lines_short [] = omega arith
lines_short (b ∷ bs) = omega (arith, lines_on b (lines bs) (is_line_feed b), lines_short bs)

-- the line that comes next
pub record IsNextLine (text : List ℕ) (front : List (List ℕ)) (n : ℕ) (line : List ℕ)
    (after : List (ℕ × List ℕ)) : Type 0 where
  pub number : n ≡ length front + 1
  pub short : n ≤ length text
  pub rest : List (List ℕ)
  pub split : lines text ≡ front ++ line ∷ rest
  pub left : AreLeft text (front ++ line ∷ []) after

pub line_read : (text : List ℕ) (front : List (List ℕ)) (left after : List (ℕ × List ℕ)) (n : ℕ)
    (line : List ℕ) → AreLeft text front left → left ≡ (n, line) ∷ after
    → IsNextLine text front n line after
line_read text front left after n line so next =
    by_behind so.behind so.whole (sym so.numbers ∙ next)
  where
    by_behind : (behind : List (List ℕ)) → lines text ≡ front ++ behind
        → numbered (length front + 1) behind ≡ (n, line) ∷ after
        → IsNextLine text front n line after
    by_behind [] whole is = cc
    by_behind (x ∷ rest) whole is =
        let parts = some_pair_parts (length front + 1) n x line (cc) in
        let behind : numbered (length front + 1 + 1) rest ≡ after = cc in
        let split : lines text ≡ front ++ line ∷ rest = rw parts.1 at whole in
        let longer : length front + 1 ≡ length (front ++ line ∷ []) =
        omega (arith, length-append front (line ∷ [])) in
        record {
          number = sym parts.0;
          short = omega (
            arith,
            parts.0,
            ap length split,
            length-append front (line ∷ rest),
            lines_short text,
          );
          rest = rest;
          split = split;
          left = record {
            behind = rest;
            whole = split ∙ sym (append_assoc front (line ∷ []) rest);
            numbers = rw longer at (sym behind);
          };
        }

pub all_read : (text : List ℕ) (front : List (List ℕ)) (left : List (ℕ × List ℕ))
    → AreLeft text front left → left ≡ [] → lines text ≡ front
all_read text front left so none = by_behind so.behind so.whole (sym so.numbers ∙ none)
  where
    by_behind : (behind : List (List ℕ)) → lines text ≡ front ++ behind
        → numbered (length front + 1) behind ≡ [] → lines text ≡ front
    by_behind [] whole is = whole ∙ append-nil front
    by_behind (x ∷ rest) whole is = cc

-- the line with a number
pub line_at : (k n : ℕ) (ls : List (List ℕ)) → option_map_or (λ (line : ℕ × List ℕ). line.1)
    (slice_get (numbered k ls) n) [] ≡ slice_index_or ls n []
line_at k n [] = refl
line_at k zero (line ∷ ls) = refl
line_at k (suc n) (line ∷ ls) = line_at (k + 1) n ls
