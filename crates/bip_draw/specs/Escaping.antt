-- Texts in charts: a byte that would end them there, or begin something else, stands as what means
-- it.
use Rattle.std.specs.Prelude.{ℕ, List, [], ◌∷◌, ◌==◌, ◌&&◌, codes, nat_le, if◌then◌else◌}
use Rattle.std.specs.List.{flat_map}

-- in a text of XML five bytes stand as their entities; what isn't printable is no part of it, and a
-- question mark stands in its place
abbrev pub escaped_byte : ℕ → List ℕ
escaped_byte b =
    if b == 38 then codes "&amp;" else if b == 60 then codes "&lt;" else if b == 62 then
    codes "&gt;" else if b == 34 then codes "&quot;" else if b == 39 then codes "&#39;" else
    if nat_le 32 b && nat_le b 126 then b ∷ [] else codes "?"

unfoldable pub escaped : List ℕ → List ℕ
escaped text = flat_map escaped_byte text
