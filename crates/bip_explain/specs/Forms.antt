-- Why the form of a line is wrong, and how it is told.
use Rattle.std.specs.Prelude.{◌≡◌, ℕ, ◌+◌, ◌-◌, ◌≤◌, false, ◌==◌, nat_le, None, Some}
use Rattle.std.specs.Prelude.{List, [], ◌∷◌, ◌++◌, length, slice_index, codes, if◌then◌else◌, ⊤}
use Rattle.std.specs.Fmt.{decimal}
use Rattle.bip_model.specs.Texts.{is_plain, words}
use Rattle.bip_model.specs.declared.clauses.Spelling.{Spelling}
use Rattle.bip_explain.specs.Expected.{after_word, after_all, can_end, wanted_text}
use Rattle.bip_explain.specs.Explanations.{column_parts, placed_parts}
use Rattle.bip_explain.specs.Hints.{hint_for}
use Rattle.bip_explain.specs.Placed.{IsPlacedOn}
use Rattle.bip_explain.specs.declared.expected.Expected.{Expected}
use Rattle.bip_explain.specs.declared.forms.FormReason.{FormReason}
use Rattle.bip_explain.specs.declared.forms.FormReason.TheVariants.{Byte, Word, End}

-- a byte of a line stands at a column, counted from 1
abbrev pub IsByteAt : List ℕ → ℕ → ℕ → Type 0
IsByteAt line column byte =
    (1 ≤ column) × (column ≤ length line) × (slice_index line (column - 1) ≡ byte)

-- a byte that stands at a column can stand in no text
abbrev pub IsByteReason : List ℕ → FormReason → Type 0
IsByteReason line (Byte column byte) =
    IsByteAt line column byte × (is_plain (byte ∷ []) ≡ false)
IsByteReason line reason = ⊥

-- words lead from a place, behind those in front of it, to another place
abbrev pub LeadsTo : Spelling → Expected → List (List ℕ) → List (List ℕ) → Expected → Type 0
LeadsTo spelling start front ws expected =
    (more : List (List ℕ)) × (ws ≡ front ++ more) × (after_all spelling start more ≡ Some expected)

-- a reason is true of a line from a place on, behind its first words: the word stands at the column
-- that is told, and those in front of it lead to the place of what is wanted, where that word can't
-- stand; or so do all, and the line ends right before the column, where none can end
abbrev pub IsFormReason :
    Spelling → Expected → List (List ℕ) → List ℕ → FormReason → Type 0
IsFormReason spelling start front line (Byte column byte) = ⊥
IsFormReason spelling start front line (Word placed other expected) =
    (at : IsPlacedOn line placed) × (other ≡ spelling)
    × LeadsTo spelling start front at.front expected
    × (after_word spelling expected placed.word.now ≡ None)
IsFormReason spelling start front line (End column other expected) =
    (column ≡ length line + 1) × (other ≡ spelling)
    × LeadsTo spelling start front (words line) expected × (can_end expected ≡ false)

-- no words that begin so are a line of a language
abbrev pub NoLineBegins : (List (List ℕ) → Type 0) → List (List ℕ) → Type 0
NoLineBegins IsLine front = (rest : List (List ℕ)) → ¬ IsLine (front ++ rest)

-- a reason is true of a language: no line of it begins with the words down to the one that is
-- told; or, where the line ends, it is no line of it
abbrev pub IsNoLine : (List (List ℕ) → Type 0) → List ℕ → FormReason → Type 0
IsNoLine IsLine line (Byte column byte) = ⊤
IsNoLine IsLine line (Word placed spelling expected) =
    (at : IsPlacedOn line placed) × NoLineBegins IsLine (at.front ++ placed.word.now ∷ [])
IsNoLine IsLine line (End column spelling expected) = ¬ IsLine (words line)

-- each word that is taken at a place can stand behind words in front: with some more behind it they
-- are a line of a language
abbrev pub CanStand : (List (List ℕ) → Type 0) → Spelling → Expected → List (List ℕ) → Type 0
CanStand IsLine spelling expected front =
    (word : List ℕ) → ¬ (after_word spelling expected word ≡ None)
    → (rest : List (List ℕ)) × IsLine (front ++ word ∷ rest)

-- what a reason tells to be wanted can stand there
abbrev pub IsWantedThere : (List (List ℕ) → Type 0) → List ℕ → FormReason → Type 0
IsWantedThere IsLine line (Byte column byte) = ⊤
IsWantedThere IsLine line (Word placed spelling expected) =
    (at : IsPlacedOn line placed) × CanStand IsLine spelling expected at.front
IsWantedThere IsLine line (End column spelling expected) =
    CanStand IsLine spelling expected (words line)

abbrev pub hint_of_byte : ℕ → List ℕ
hint_of_byte byte =
    if byte == 13 then codes "; lines end with a line feed alone"
    else (if byte == 239
    then codes "; is there a byte order mark, or a letter that isn't ASCII?"
    else (if nat_le 128 byte then codes "; a text is ASCII" else []))

abbrev pub wanted_parts : Spelling → Expected → List (List ℕ)
wanted_parts spelling expected = wanted_text spelling expected ∷ codes " is wanted" ∷ []

-- how a reason is told
abbrev pub form_parts : FormReason → List (List ℕ)
form_parts (Byte column byte) =
    column_parts column
    ++ codes "byte " ∷ decimal byte ∷ codes " can't stand in a text" ∷ hint_of_byte byte ∷ []
form_parts (Word placed spelling expected) =
    placed_parts placed
    ++ codes " stands where " ∷ wanted_parts spelling expected
    ++ hint_for spelling expected placed.word.now
form_parts (End column spelling expected) =
    column_parts column ++ codes "the line ends where " ∷ wanted_parts spelling expected
