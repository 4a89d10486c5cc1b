-- Numbers: things in order of theirs, functions of them, and the last one that a move can have.
use Rattle.std.specs.Prelude.{ℕ, ◌<◌, nat_lt, List, [], ◌∷◌, ◌==◌, if◌then◌else◌}

-- a thing put among others, before the first one with a greater number
abbrev pub put_by_number : {X : Type 0} → (X → ℕ) → X → List X → List X
put_by_number number x [] = x ∷ []
put_by_number number x (y ∷ ys) =
    if nat_lt (number x) (number y) then x ∷ y ∷ ys else y ∷ put_by_number number x ys

-- things in order of number
abbrev pub by_number : {X : Type 0} → (X → ℕ) → List X → List X
by_number number [] = []
by_number number (x ∷ xs) = put_by_number number x (by_number number xs)

-- the lowest number with a property
pub record IsLowest (P : ℕ → Type 0) (n : ℕ) : Type 0 where
  pub here : P n
  pub lower : (k : ℕ) → k < n → ¬ P k

-- a function of numbers with another value at one of them
abbrev pub put : {X : Type 0} → (ℕ → X) → ℕ → X → ℕ → X
put f n x k = if k == n then x else f k

-- no participation number is above this one
abbrev pub last_number : ℕ
last_number = 18446744073709551615
