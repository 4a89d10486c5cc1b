-- Two texts in one: the line `---` parts them.
use Rattle.std.specs.Prelude.{◌≡◌, ℕ, ◌+◌, ◌⊎◌, Bool, false, true, ◌&&◌, if◌then◌else◌}
use Rattle.std.specs.Prelude.{List, [], ◌∷◌, ◌++◌, take, drop, codes, slice_index_or}
use Rattle.std.specs.Prelude.{Option, None, Some}
use Rattle.std.specs.List.{list_any}
use Rattle.std.specs.Option.{option_map, option_map_or}
use Rattle.bip_model.specs.Naming.{same_text}
use Rattle.bip_model.specs.Texts.{is_line_feed, lines}

-- the line that parts two texts
abbrev pub is_mark : List ℕ → Bool
is_mark line = same_text line (codes "---")

-- the first line of a text is `---`
abbrev pub begins_with_mark : List ℕ → Bool
begins_with_mark text = is_mark (slice_index_or (lines text) 0 [])

-- where the first line `---` of a text begins, none where there is no such line; a line begins at
-- the front, or not
abbrev pub mark_in : Bool → List ℕ → Option ℕ
mark_in begins [] = None
mark_in begins (b ∷ bs) =
    if begins && begins_with_mark (b ∷ bs) then Some 0
    else option_map (λ at. at + 1) (mark_in (is_line_feed b) bs)

-- the text before the first line `---`: all of it where there is no such line
abbrev pub before_mark : List ℕ → List ℕ
before_mark text = option_map_or (λ at. take at text) (mark_in true text) text

-- the text behind the first line `---`: empty where there is no such line
abbrev pub after_mark : List ℕ → List ℕ
after_mark text = option_map_or (λ at. drop 4 (drop at text)) (mark_in true text) []

-- the two parts of a text: its lines are those in front, `---`, and those behind, or all of it
-- stands in front; no line in front is `---`
pub record AreParts (text front back : List ℕ) : Type 0 where
  pub unmarked : list_any is_mark (lines front) ≡ false
  pub parted : (lines text ≡ lines front ++ codes "---" ∷ lines back)
      ⊎ ((front ≡ text) × (back ≡ []))
