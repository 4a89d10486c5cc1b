-- Lines that are gone over one by one, each with its number.
use Rattle.std.proofs.Common.{◌≡◌, ℕ, ◌+◌, ◌≤◌, ◌<◌, List, [], ◌∷◌, refl, sym, ap, ◌∙◌, ◌≢◌, arith}
use Rattle.std.proofs.Common.{Bool, true, false}
use Rattle.std.proofs.Math.Dec.{eqb}
use Rattle.std.proofs.Common.{eq-eqb}
use Rattle.std.proofs.lemmas.Bool.{eqb-true}
use Rattle.bip_model.specs.Texts.{lines, numbered, numbered_lines}
use Rattle.bip_model.specs.Texts.{line_at, line_in}

-- the lines from this number on are left
pub record IsAtLine (text : List ℕ) (m : ℕ) (left : List (ℕ × List ℕ)) : Type 0 where
  pub behind : List (List ℕ)
  pub numbers : left ≡ numbered m behind
  pub same : (n : ℕ) → m ≤ n → line_at text n ≡ line_in left n

pub at_first : (text : List ℕ) (left : List (ℕ × List ℕ)) → left ≡ numbered_lines text
    → IsAtLine text 1 left
at_first text left is = record {
  behind = lines text;
  numbers = is;
  same = λ n h. ap (λ ls. line_in ls n) (sym is);
}

abbrev number_first : List (ℕ × List ℕ) → ℕ
number_first [] = 0
number_first (line ∷ rest) = line.0

abbrev behind_first : List (ℕ × List ℕ) → List (ℕ × List ℕ)
behind_first [] = []
behind_first (line ∷ rest) = rest

-- the line that comes next
pub record IsNext (text : List ℕ) (m : ℕ) (n : ℕ) (line : List ℕ)
    (after : List (ℕ × List ℕ)) : Type 0 where
  pub number : n ≡ m
  pub line_is : line_at text n ≡ line
  pub later : IsAtLine text (m + 1) after

-- numbers that differ fail the test
pub neq-eqb : (a b : ℕ) → a ≢ b → eqb a b ≡ false
neq-eqb a b ne = by_test (eqb a b) refl where
  by_test : (t : Bool) → eqb a b ≡ t → eqb a b ≡ false
  by_test true h = absurd (ne (eqb-true a b h))
  by_test false h = h

other_line : (left after : List (ℕ × List ℕ)) (n k : ℕ) (line : List ℕ) → left ≡ (n, line) ∷ after
    → n ≢ k → line_in left k ≡ line_in after k
other_line left after n k line is ne = rw (is, neq-eqb n k ne) refl

this_line : (left after : List (ℕ × List ℕ)) (n : ℕ) (line : List ℕ) → left ≡ (n, line) ∷ after
    → line_in left n ≡ line
this_line left after n line is = rw (is, eq-eqb n n refl) refl

pub at_next : (text : List ℕ) (m : ℕ) (left after : List (ℕ × List ℕ)) (n : ℕ) (line : List ℕ)
    → IsAtLine text m left → left ≡ (n, line) ∷ after → IsNext text m n line after
at_next text m left after n line so is = by_behind so.behind (sym so.numbers ∙ is)
  where
    by_behind : (behind : List (List ℕ)) → numbered m behind ≡ (n, line) ∷ after
        → IsNext text m n line after
    by_behind [] e = cc
    by_behind (x ∷ behind) e =
        let number : n ≡ m = sym (ap number_first e) in
        let rest : after ≡ numbered (m + 1) behind = sym (ap behind_first e) in
        record {
          number = number;
          line_is = so.same n (omega arith) ∙ this_line left after n line is;
          later = record {
            behind = behind;
            numbers = rest;
            same = λ k h. so.same k (omega arith) ∙ other_line left after n k line is (omega arith);
          };
        }

-- no line is left
pub at_end : (text : List ℕ) (m : ℕ) (left : List (ℕ × List ℕ)) → IsAtLine text m left → left ≡ []
    → (n : ℕ) → m ≤ n → line_at text n ≡ []
at_end text m left so none n h = so.same n h ∙ rw none refl

none_below : (m n : ℕ) (ls : List (List ℕ)) → n < m → line_in (numbered m ls) n ≡ []
none_below m n [] h = refl
none_below m n (line ∷ ls) h = let ne : m ≢ n = omega arith in
    rw (neq-eqb m n ne) (none_below (m + 1) n ls (omega arith))

-- the lines of a text are numbered from 1
pub line_zero : (text : List ℕ) (n : ℕ) → n < 1 → line_at text n ≡ []
line_zero text n h = none_below 1 n (lines text) h
