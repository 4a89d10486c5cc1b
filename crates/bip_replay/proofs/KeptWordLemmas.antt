-- Words that are kept as text, and counted up.
use Rattle.std.proofs.Common.{◌≡◌, ℕ, ◌+◌, ◌-◌, ◌/◌, ◌%◌, ◌^◌, ◌<◌, ◌≤◌, List, [], ◌∷◌, ◌++◌}
use Rattle.std.proofs.Common.{length}
use Rattle.std.proofs.Common.{get_or, take, drop, set, refl, sym, ap, ◌∙◌, inl, inr, arith}
use Rattle.std.specs.Fmt.{decimal}
use Rattle.std.proofs.Math.Seq.{append_snoc}
use Rattle.std.proofs.lemmas.Bool.{cases_lt}
use Rattle.std.proofs.lemmas.Fmt.{decimal_digit, decimal_step}
use Rattle.std.proofs.lemmas.Grind.{take-set_at}
use Rattle.std.proofs.lemmas.List.{append_assoc, length-append, length-drop, length-set}
use Rattle.std.proofs.lemmas.List.{take_at, take_more}
use Rattle.std.proofs.lemmas.Slice.{take-put_mid}
use borrow.Rule.Slice.PartMut.{put_mid}

-- the last digit of a number, and what stands before it; where it isn't the last of the digits, the
-- next number has one more there
record LastDigit (n : ℕ) : Type 0 where
  front : List ℕ
  digit : ℕ
  is : decimal n ≡ front ++ digit ∷ []
  next : digit < 57 → decimal (n + 1) ≡ front ++ (digit + 1) ∷ []

last_digit : (n : ℕ) → n + 1 < 2 ^ 64 → LastDigit n
last_digit n fits = elim (cases_lt n 10) [
  | inl few ↦ record {
    front = [];
    digit = 48 + n;
    is = decimal_digit n few;
    next = λ low. decimal_digit (n + 1) (omega arith)
        ∙ ap (λ (d : ℕ). d ∷ []) (omega arith);
  }
  | inr many ↦ record {
    front = decimal (n / 10);
    digit = 48 + n % 10;
    is = decimal_step n many (omega arith);
    next = λ low.
        let tens : (n + 1) / 10 ≡ n / 10 = omega arith in
        let ones : 48 + (n + 1) % 10 ≡ 48 + n % 10 + 1 = omega arith in
        decimal_step (n + 1) (omega arith) fits
        ∙ ap (λ (k : ℕ). decimal k ++ (48 + (n + 1) % 10) ∷ []) tens
        ∙ ap (λ (d : ℕ). decimal (n / 10) ++ d ∷ []) ones;
  }
]

-- lists with one item behind them are equal where both parts are
same_behind : (xs ys : List ℕ) (x y : ℕ) → xs ++ x ∷ [] ≡ ys ++ y ∷ [] → (xs ≡ ys) × (x ≡ y)
same_behind [] [] x y e = (refl, cc)
same_behind [] (z ∷ zs) x y e =
    absurd (omega (arith, ap length e, length-append zs (y ∷ [])))
same_behind (w ∷ ws) [] x y e =
    absurd (omega (arith, ap length e, length-append ws (x ∷ [])))
same_behind (w ∷ ws) (z ∷ zs) x y e =
    let rest : ws ++ x ∷ [] ≡ zs ++ y ∷ [] = cc in
    let both = same_behind ws zs x y rest in
    let same : ws ≡ zs = both.0 in
    let head : w ≡ z = cc in
    (cc, both.1)

-- a word whose last digit is counted up has the next number
pub counts_up : (name bytes : List ℕ) (len last n : ℕ) → len ≡ last + 1 → last < length bytes
    → n + 1 < 2 ^ 64 → take len bytes ≡ name ++ 58 ∷ decimal n → get_or bytes last 0 < 57
    → take len (set bytes last (get_or bytes last 0 + 1)) ≡ name ++ 58 ∷ decimal (n + 1)
counts_up name bytes len last n long within fits is low =
    let ends = last_digit n fits in
    let word : take last bytes ++ get_or bytes last 0 ∷ []
    ≡ (name ++ 58 ∷ ends.front) ++ ends.digit ∷ [] =
    sym (take_more bytes last 0 within)
    ∙ ap (λ (k : ℕ). take k bytes) (sym long) ∙ is
    ∙ ap (λ (ds : List ℕ). name ++ 58 ∷ ds) ends.is
    ∙ sym (append_assoc name (58 ∷ ends.front) (ends.digit ∷ [])) in
    let both = same_behind (take last bytes) (name ++ 58 ∷ ends.front) (get_or bytes last 0)
    ends.digit word in
    let small : ends.digit < 57 = omega (arith, both.1, low) in
    take-set_at bytes last len (get_or bytes last 0 + 1) long within
    ∙ ap (λ (ds : List ℕ). ds ++ (get_or bytes last 0 + 1) ∷ []) both.0
    ∙ ap (λ (d : ℕ). (name ++ 58 ∷ ends.front) ++ (d + 1) ∷ []) both.1
    ∙ append_assoc name (58 ∷ ends.front) ((ends.digit + 1) ∷ [])
    ∙ ap (λ (ds : List ℕ). name ++ 58 ∷ ds) (sym (ends.next small))

-- a name, a colon and digits that are copied to the front of an array are kept by it
pub spelled_word : (name digits bytes first second : List ℕ) → first ≡ name → second ≡ digits
    → length name + 1 + length digits ≤ length bytes
    → take (length name + 1 + length digits) (put_mid (length name + 1)
    (length name + 1 + length digits - (length name + 1))
    (set (first ++ drop (length name) bytes) (length name) 58) second) ≡ name ++ 58 ∷ digits
spelled_word name digits bytes first second is_name is_digits within =
    let copied : List ℕ = name ++ drop (length name) bytes in
    let long : length copied ≡ length bytes =
    simp (length-append, length-drop) (omega (arith, within)) in
    let room : length (set copied (length name) 58) ≡ length bytes = simp length-set long in
    rw (is_name, is_digits)
    (take-put_mid (length name + 1) (length name + 1 + length digits - (length name + 1))
    (set copied (length name) 58) digits (length name + 1 + length digits) refl
    (omega (arith, room, within))
    ∙ ap (λ (front : List ℕ). front ++ digits)
    (take-set_at copied (length name) (length name + 1) 58 refl (omega (arith, long, within))
    ∙ ap (λ (front : List ℕ). front ++ 58 ∷ [])
    (take_at name (drop (length name) bytes) (length name) refl))
    ∙ append_snoc name 58 digits)
