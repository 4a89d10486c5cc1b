-- The colours of classes.
use Rattle.std.specs.Prelude.{ℕ, ◌+◌, ◌*◌, ◌%◌}

-- where the colour of a class stands on a circle of 40 colours, on which 0 is red; 32 classes have
-- 32 colours, none of them near red
abbrev pub hue : ℕ → ℕ
hue k = (10 * k + 19) % 33 + 4
