-- Texts in parts, written one after another.
use Rattle.std.proofs.Common.{◌≡◌, ℕ, ◌+◌, List, [], ◌∷◌, ◌++◌, ◌∙◌, ap, append-nil, append_assoc}
use Rattle.std.proofs.Common.{arith, suc, zero}
use Rattle.std.proofs.lemmas.Grind.{flat_map-append}
use Rattle.std.specs.List.{flat_map, range_with_len}

pub three_parts : (o a b d : List ℕ) → ((o ++ a) ++ b) ++ d ≡ o ++ (a ++ (b ++ d))
three_parts o a b d = append_assoc (o ++ a) b d ∙ append_assoc o a (b ++ d)

pub four_parts : (o a b d e : List ℕ)
    → (((o ++ a) ++ b) ++ d) ++ e ≡ o ++ (a ++ (b ++ (d ++ e)))
four_parts o a b d e = append_assoc ((o ++ a) ++ b) d e ∙ three_parts o a b (d ++ e)

pub five_parts : (o a b d e f : List ℕ)
    → ((((o ++ a) ++ b) ++ d) ++ e) ++ f ≡ o ++ (a ++ (b ++ (d ++ (e ++ f))))
five_parts o a b d e f = append_assoc (((o ++ a) ++ b) ++ d) e f ∙ four_parts o a b d (e ++ f)

range-last : (a n j : ℕ) → j ≡ a + n
    → range_with_len a (suc n) ≡ range_with_len a n ++ j ∷ []
range-last a zero j e = let same : a ≡ j = omega (arith, e) in ap (λ k. k ∷ []) same
range-last a (suc n) j e = ap (λ l. a ∷ l) (range-last (a + 1) n j (omega (arith, e)))

flat_map-push : (f : ℕ → List ℕ) (xs : List ℕ) (x : ℕ)
    → flat_map f (xs ++ x ∷ []) ≡ flat_map f xs ++ f x
flat_map-push f xs x = flat_map-append f xs (x ∷ [])
    ∙ ap (λ (l : List ℕ). flat_map f xs ++ l) (append-nil (f x))

-- a text that says something of the numbers below one, and of that one too
pub more_written : (f : ℕ → List ℕ) (n : ℕ) (front text later : List ℕ)
    → text ≡ front ++ flat_map f (range_with_len 0 n) → later ≡ text ++ f n
    → later ≡ front ++ flat_map f (range_with_len 0 (n + 1))
more_written f n front text later before is =
    let on : n + 1 ≡ suc n = omega arith in
    let numbers : range_with_len 0 (n + 1) ≡ range_with_len 0 n ++ n ∷ [] =
    ap (range_with_len 0) on ∙ range-last 0 n n (omega arith) in
    let parts : flat_map f (range_with_len 0 (n + 1)) ≡ flat_map f (range_with_len 0 n) ++ f n =
    ap (flat_map f) numbers ∙ flat_map-push f (range_with_len 0 n) n in
    rw (is, before, parts) (append_assoc front (flat_map f (range_with_len 0 n)) (f n))
