-- How it is told that an interaction touches too many components.
use Rattle.std.specs.Prelude.{ℕ, List, [], ◌∷◌, codes}
use Rattle.std.specs.Fmt.{decimal}

-- by how many it moves, and how many it looks at
abbrev pub plan_parts : ℕ → ℕ → List (List ℕ)
plan_parts moved seen =
    codes "components that it moves: " ∷ decimal moved
    ∷ codes ", and looks at for those above it: " ∷ decimal seen
    ∷ codes "; in all it can touch " ∷ decimal 32 ∷ []
