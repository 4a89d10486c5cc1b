-- Fronts of texts that are compared part by part.
use Rattle.std.proofs.Common.{◌≡◌, ℕ, ◌+◌, ◌-◌, ◌≤◌, List, ◌++◌, length, take, drop, ap, sym, ◌∙◌}
use Rattle.std.proofs.Common.{arith}
use Rattle.std.proofs.lemmas.List.{drop-drop, take-append-drop}

-- texts of two lanes at most are the same where the first and the last ones are
pub same_lanes : (xs ys : List ℕ) → length xs ≡ length ys → 8 ≤ length xs → length xs ≤ 16
    → take 8 xs ≡ take 8 ys → drop (length xs - 8) xs ≡ drop (length ys - 8) ys → xs ≡ ys
same_lanes xs ys long some few first last =
    let from : ℕ = length xs - 8 in
    let over : ℕ = 16 - length xs in
    let both : from + over ≡ 8 = omega (arith, some, few) in
    let ends : drop from xs ≡ drop from ys =
    last ∙ ap (λ (n : ℕ). drop (n - 8) ys) (sym long) in
    let rest : drop 8 xs ≡ drop 8 ys =
    ap (λ (n : ℕ). drop n xs) (sym both) ∙ sym (drop-drop over from xs)
    ∙ ap (λ (zs : List ℕ). drop over zs) ends
    ∙ drop-drop over from ys ∙ ap (λ (n : ℕ). drop n ys) both in
    sym (take-append-drop 8 xs) ∙ ap (λ (front : List ℕ). front ++ drop 8 xs) first
    ∙ ap (λ (back : List ℕ). take 8 ys ++ back) rest ∙ take-append-drop 8 ys
