-- What pictures keep, in the subject's own words: laws that a reviewer reads.
use Rattle.std.specs.Prelude.{ℕ, ◌+◌, ◌*◌, ◌<◌, ◌≤◌, ◌==◌, ◌||◌, ◌&&◌, Bool, List, true, ◌≡◌}
use Rattle.std.specs.Prelude.{Option, false, length, nat_le, not}
use Rattle.std.specs.Borrow.{Bor}
use Rattle.std.specs.List.{AllPairs, flat_map, list_all}
use Rattle.std.specs.List.Sorted.{IsPermutation}
use Rattle.bip_model.specs.Naming.{IsName, name_in}
use Rattle.bip_model.specs.declared.numbering.CompId.{CompId}
use Rattle.bip_model.specs.declared.parts.Component.{Component}
use Rattle.bip_model.specs.declared.parts.System.{System}
use Rattle.bip_draw.specs.Drawing.{parallel_to, firsts_of, are_parallel}
use Rattle.bip_draw.specs.Escaping.{escaped}
use Rattle.bip_draw.specs.Hues.{hue}
use Rattle.bip_draw.specs.Layout.{has_lane, lane_x, layout_of, row_y}
use Rattle.bip_draw.specs.declared.layout.Layout.{Layout}

-- 32 classes have 32 colours
abbrev pub ColoursDiffer : Type 0
ColoursDiffer = (j k : ℕ) → j < 32 → k < 32 → hue j ≡ hue k → j ≡ k

-- and none is near red, which is 0 of 40
abbrev pub NoneIsRed : Type 0
NoneIsRed = (k : ℕ) → (4 ≤ hue k) × (hue k ≤ 36)

-- a statement about the layout of each chart
abbrev pub OfLayouts : (System → Layout → Type 0) → Type 0
OfLayouts P =
    (m : System) (values : Bool) (only : Option (Bor (List CompId))) (classes : ℕ)
    → P m (layout_of m values only classes)

-- of two components with lanes that of the higher number is further right, and the names on them
-- don't meet, at eight points a byte
abbrev pub LanesAreApart : Type 0
LanesAreApart =
    OfLayouts (λ m l. (c d : ℕ) → c < d → has_lane l.only c ≡ true
    → lane_x l c + 4 * (length (name_in m.component_names c) + length (name_in m.component_names d))
    < lane_x l d)

-- a later row is further down, with room for a bar and for a location below it
abbrev pub RowsAreApart : Type 0
RowsAreApart = OfLayouts (λ m l. (i j : ℕ) → i < j → row_y l i + 34 ≤ row_y l j)

-- a printable byte that is no quote, no `<` and no `>`
abbrev pub is_plain_byte : ℕ → Bool
is_plain_byte b = nat_le 32 b && nat_le b 126 && not (b == 34 || b == 39 || b == 60 || b == 62)

-- whatever a text is, what is drawn of it begins and ends no element and no attribute
abbrev pub TextsAreInert : Type 0
TextsAreInert = (text : List ℕ) → list_all is_plain_byte (escaped text) ≡ true

-- and printable texts that are written alike in a chart are the same
abbrev pub is_printable : ℕ → Bool
is_printable b = nat_le 32 b && nat_le b 126

abbrev pub EscapedTextsAreKept : Type 0
EscapedTextsAreKept =
    (a b : List ℕ) → list_all is_printable a ≡ true → list_all is_printable b ≡ true
    → escaped a ≡ escaped b → a ≡ b

-- a printable byte that is no quote and no backslash
abbrev pub is_label_byte : ℕ → Bool
is_label_byte b = is_printable b && not (b == 34 || b == 92)

-- the names of a model, which stand in drawings as they are, end no label there
abbrev pub NamesAreInert : Type 0
NamesAreInert = (name : List ℕ) → IsName name → list_all is_label_byte name ≡ true

-- what stands on the edges of a component, edge by edge, are its transitions, each once
abbrev pub TransitionsStandOnce : Type 0
TransitionsStandOnce = (k : Component) → IsPermutation k.transitions
    (flat_map (parallel_to k) (firsts_of k.transitions))

-- and no two edges lead from the same location to the same one
abbrev pub EdgesDiffer : Type 0
EdgesDiffer = (k : Component) → AllPairs (λ t u. are_parallel t u ≡ false) (firsts_of k.transitions)
