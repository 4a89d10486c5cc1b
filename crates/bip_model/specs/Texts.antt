-- What all texts have in common: lines, words and numbers.
use Rattle.std.specs.Prelude.{◌≡◌, ◌⊎◌, ℕ, ◌+◌, ◌^◌, Bool, false, true, ◌==◌, ◌&&◌, ◌||◌, nat_lt}
use Rattle.std.specs.Prelude.{nat_le, List, [], ◌∷◌, ◌++◌, length, max, map, Option, None, Some}
use Rattle.std.specs.Prelude.{filter, position, take, drop, slice_index, All, IsTrue, if◌then◌else◌}
use Rattle.std.specs.Char.{is_ascii_digit, is_ascii_graphic}
use Rattle.std.specs.List.{list_all, slice_split}
use Rattle.std.specs.Option.{option_map}
use Rattle.std.specs.Str.Parse.{digits_value}
use Rattle.bip_model.specs.declared.texts.Line.{Line}
use Rattle.bip_model.specs.declared.texts.Line.TheVariants.{BadByte, Nothing, Words}

-- a byte more at the front of the first line
abbrev pub onto_first_line : ℕ → List (List ℕ) → List (List ℕ)
onto_first_line b [] = (b ∷ []) ∷ []
onto_first_line b (line ∷ rest) = (b ∷ line) ∷ rest

-- the byte that ends a line
abbrev pub line_feed : ℕ
line_feed = 10

abbrev pub is_line_feed : ℕ → Bool
is_line_feed b = b == line_feed

-- the lines of a text: each ends at a line feed, which the last one may lack
abbrev pub lines : List ℕ → List (List ℕ)
lines [] = []
lines (b ∷ bs) = if is_line_feed b then [] ∷ lines bs else onto_first_line b (lines bs)

-- a text is a line, its line feed and the rest, or it is a line alone
unfoldable pub IsLineAndRest : List ℕ → List ℕ → List ℕ → Type 0
IsLineAndRest text line rest = (text ≡ line ++ line_feed ∷ rest) ⊎ ((text ≡ line) × (rest ≡ []))

-- lines with their numbers, of which this is the first
abbrev pub numbered : ℕ → List (List ℕ) → List (ℕ × List ℕ)
numbered n [] = []
numbered n (line ∷ rest) = (n, line) ∷ numbered (n + 1) rest

-- the lines of a text with their numbers, from 1
abbrev pub numbered_lines : List ℕ → List (ℕ × List ℕ)
numbered_lines text = numbered 1 (lines text)

-- the line with a number, among lines that have theirs; empty where none has it
abbrev pub line_in : List (ℕ × List ℕ) → ℕ → List ℕ
line_in [] number = []
line_in ((n, line) ∷ rest) number = if n == number then line else line_in rest number

-- the line of a text with this number, counted from 1
abbrev pub line_at : List ℕ → ℕ → List ℕ
line_at text number = line_in (numbered_lines text) number

-- the number of the last line; an empty text has one line
abbrev pub last_line : List ℕ → ℕ
last_line text = max 1 (length (lines text))

-- a space or a tab
abbrev pub is_blank : ℕ → Bool
is_blank b = b == 32 || b == 9

-- bytes that can stand in a line: those of words, and blanks
abbrev pub is_plain : List ℕ → Bool
is_plain line = list_all (λ b. is_ascii_graphic b || is_blank b) line

-- whether a run of bytes has any
abbrev pub is_longer : List ℕ → Bool
is_longer [] = false
is_longer (b ∷ bs) = true

-- the words of a line: its runs between blanks
abbrev pub words : List ℕ → List (List ℕ)
words line = filter is_longer (slice_split is_blank line)

-- a line is blanks, a word and the rest, which is empty or begins with a blank
unfoldable pub IsWordAndRest : List ℕ → List ℕ → List ℕ → Type 0
IsWordAndRest line word rest =
    (blanks : List ℕ) × All (λ b. IsTrue (is_blank b)) blanks × (line ≡ blanks ++ word ++ rest)
    × ((rest ≡ []) ⊎ IsTrue (is_blank (slice_index rest 0)))

-- the byte that begins a comment
abbrev pub number_sign : ℕ
number_sign = 35

-- the first word begins with a number sign
abbrev pub is_comment : List (List ℕ) → Bool
is_comment [] = false
is_comment (word ∷ rest) = slice_index word 0 == number_sign

-- the words that a line says, none of a comment; none at all where a byte can stand in no line
abbrev pub words_said : List ℕ → Option (List (List ℕ))
words_said line = if is_plain line then Some (if is_comment (words line) then [] else words line)
    else None

-- the words that were read: none at all where a byte can stand in no line
abbrev pub words_read : Line → Option (List (List ℕ))
words_read BadByte = None
words_read Nothing = Some []
words_read (Words first rest) = Some (first.now ∷ words rest.now)

-- a line says something: it has words and is no comment, or a byte that can stand in no line
abbrev pub says_something : Option (List (List ℕ)) → Bool
says_something None = true
says_something (Some []) = false
says_something (Some (word ∷ rest)) = true

-- the words of the lines that say something, however blanks part them, whatever lines are skipped
-- between them
abbrev pub said_in : List ℕ → List (Option (List (List ℕ)))
said_in text = filter says_something (map words_said (lines text))

-- a word of 1 to most digits
abbrev pub is_numeral : ℕ → List ℕ → Bool
is_numeral most word = nat_lt 0 (length word) && nat_le (length word) most
    && list_all is_ascii_digit word

-- the participation number that a word spells: at most 20 digits, from 1 to the greatest number of
-- 64 bits
abbrev pub number_of : List ℕ → Option ℕ
number_of word =
    if is_numeral 20 word && nat_lt 0 (digits_value 10 word)
    && nat_lt (digits_value 10 word) (2 ^ 64) then Some (digits_value 10 word) else None

-- what parts the words of a line that is written
abbrev pub space : ℕ
space = 32

-- a word behind a space
abbrev pub spaced : List ℕ → List ℕ
spaced word = space ∷ word

-- the value that a word spells: at most 10 digits, below 2^32
abbrev pub value_said : List ℕ → Option ℕ
value_said word =
    if is_numeral 10 word && nat_lt (digits_value 10 word) (2 ^ 32)
    then Some (digits_value 10 word) else None

-- what stands before and after the first such byte of a word
abbrev pub pair_of : ℕ → List ℕ → Option (List ℕ × List ℕ)
pair_of mark word = option_map (λ i. (take i word, drop (i + 1) word))
    (position (λ b. b == mark) word)
