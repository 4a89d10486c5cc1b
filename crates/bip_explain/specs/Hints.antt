-- Hints: what is told, behind what is wanted, of a word that can't stand where it stands.
use Rattle.std.specs.Prelude.{ℕ, Bool, false, ◌||◌, ◌&&◌, not, None, Some, Option, nat_lt}
use Rattle.std.specs.Prelude.{List, [], ◌∷◌, length, slice_index, drop, codes}
use Rattle.std.specs.Prelude.{if◌then◌else◌, is_some, is_none}
use Rattle.std.specs.Prelude.{option_and_then}
use Rattle.std.specs.Char.{is_ascii_digit, is_ascii_uppercase}
use Rattle.std.specs.Fmt.{decimal}
use Rattle.std.specs.List.{list_all, list_any}
use Rattle.std.specs.Option.{option_map_or, option_or}
use Rattle.std.specs.Str.{str_eq_ignore_ascii_case}
use Rattle.bip_model.specs.Naming.{is_name, is_name_byte, is_name_start}
use Rattle.bip_model.specs.Naming.{is_spelled_as_name, same_text}
use Rattle.bip_model.specs.Texts.{number_of, pair_of}
use Rattle.bip_model.specs.declared.clauses.Spelling.{Spelling}
use Rattle.bip_model.specs.declared.clauses.Spelling.TheVariants.{Own, Shared}
use Rattle.bip_replay.specs.Lines.{colon}
use Rattle.bip_explain.specs.Expected.{after_word}
use Rattle.bip_explain.specs.Explanations.{marked}
use Rattle.bip_explain.specs.Marks.{has_front, mark_hint, text_parts, two_parts}
use Rattle.bip_explain.specs.Words.{is_pair, is_term, is_value, is_verb, is_want, point}
use Rattle.bip_explain.specs.declared.expected.Expected.{Expected}
use Rattle.bip_explain.specs.declared.expected.Expected.TheVariants.{One, StartValue}
use Rattle.bip_explain.specs.declared.expected.Expected.TheVariants.{TransitionEnd, InteractionName}
use Rattle.bip_explain.specs.declared.expected.Expected.TheVariants.{FirstParticipant}
use Rattle.bip_explain.specs.declared.expected.Expected.TheVariants.{MoreParticipants, Below}
use Rattle.bip_explain.specs.declared.expected.Expected.TheVariants.{LeftTerm, LeftMore, RightTerm}
use Rattle.bip_explain.specs.declared.expected.Expected.TheVariants.{RightMore, Target, Becomes}
use Rattle.bip_explain.specs.declared.expected.Expected.TheVariants.{SumTerm, SumMore, Grant}
use Rattle.bip_explain.specs.declared.expected.Expected.TheVariants.{Granted, FirstMoved, MoreMoved}
use Rattle.bip_explain.specs.declared.expected.Expected.TheVariants.{FirstSeen, MoreSeen, Class}
use Rattle.bip_explain.specs.declared.expected.Expected.TheVariants.{FlightPlace, End}
use Rattle.bip_explain.specs.declared.hints.Hint.{Hint}
use Rattle.bip_explain.specs.declared.hints.Hint.TheVariants.{NoHint, Text, PartTooLong}
use Rattle.bip_explain.specs.declared.hints.Hint.TheVariants.{ReservedPart, BadValue, BadNumber}
use Rattle.bip_explain.specs.declared.hints.Hint.TheVariants.{Signed}

-- whether a word has digits alone
abbrev pub are_digits : List ℕ → Bool
are_digits word = list_all is_ascii_digit word

-- whether digits stand behind a minus
abbrev pub is_negative : List ℕ → Bool
is_negative numeral = has_front (codes "-") numeral && are_digits (drop 1 numeral)

abbrev pub begins_as_name : List ℕ → Bool
begins_as_name word = nat_lt 0 (length word) && is_name_start (slice_index word 0)

-- letters, digits and underscores, of which the first is a digit, and not all are
abbrev pub begins_with_digit : List ℕ → Bool
begins_with_digit word = nat_lt 0 (length word) && is_ascii_digit (slice_index word 0)
    && list_all is_name_byte word && not (are_digits word)

-- a word looks like a name, and is none: it begins with a digit, is too long, or is a word of the
-- language
abbrev pub is_near_name : List ℕ → Bool
is_near_name word = begins_with_digit word || is_spelled_as_name word && not (is_name word)

-- what is told of the second part of a word, behind the place where the first one can stand: where
-- it can stand there too a blank is missing
abbrev pub second_hint : Spelling → Expected → List ℕ → Option (List ℕ)
second_hint spelling next part =
    if is_some (after_word spelling next part)
    then (if same_text part (codes ";")
    then Some (codes "; words are parted by blanks, and `;` stands between two assignments")
    else Some (codes "; words are parted by blanks"))
    else mark_hint next part

-- of a word whose first part can stand at a place
abbrev pub joined_hint : Spelling → Expected → List ℕ → Option (List ℕ)
joined_hint spelling expected word =
    option_and_then (λ parts. option_and_then (λ next. second_hint spelling next parts.1)
    (after_word spelling expected parts.0))
    (two_parts word)

-- of a word that a comment begins with, behind others
abbrev pub comment_hint : Expected → List ℕ → Option (List ℕ)
comment_hint Grant word = None
comment_hint expected word =
    if has_front (codes "#") word then Some (codes "; a comment is a line of its own")
    else (if has_front (codes "//") word
    then Some (codes "; a comment is a line of its own, and begins with `#`") else None)

-- whether a word is this one of the language but for small letters and capitals
abbrev pub is_as : List ℕ → List ℕ → Bool
is_as small word = str_eq_ignore_ascii_case small word

-- whether it is one so that can stand at a place
abbrev pub can_stand_as : Spelling → Expected → List ℕ → List ℕ → Bool
can_stand_as spelling expected word small =
    is_as small word && is_some (after_word spelling expected small)

abbrev pub small_text : List ℕ
small_text = codes "; words of the language are in small letters"

-- of a word in capitals that can stand at a place in small letters
abbrev pub small_hint : Spelling → Expected → List ℕ → Option (List ℕ)
small_hint spelling expected word =
    if can_stand_as spelling expected word (codes "when")
    || can_stand_as spelling expected word (codes "do")
    || can_stand_as spelling expected word (codes "and")
    || can_stand_as spelling expected word (codes "see")
    || can_stand_as spelling expected word (codes "grant") then Some small_text else None

-- a text that is told of a word at a place
abbrev pub fixed_hint : Spelling → Expected → List ℕ → Option (List ℕ)
fixed_hint spelling expected word =
    option_or (comment_hint expected word)
    (option_or (small_hint spelling expected word)
    (option_or (joined_hint spelling expected word) (mark_hint expected word)))

abbrev pub has_capital : List ℕ → Bool
has_capital word = list_any is_ascii_uppercase word

-- whether a word begins a line of a model but for small letters and capitals
abbrev pub is_as_keyword : List ℕ → Bool
is_as_keyword word =
    is_as (codes "bip") word || is_as (codes "component") word || is_as (codes "var") word
    || is_as (codes "loc") word || is_as (codes "port") word || is_as (codes "trans") word
    || is_as (codes "end") word || is_as (codes "interaction") word
    || is_as (codes "priority") word || is_as (codes "class") word

-- or of a trace, or of a schedule
abbrev pub is_as_verb : List ℕ → Bool
is_as_verb word =
    is_as (codes "grant") word || is_as (codes "mail") word || is_as (codes "try") word
    || is_as (codes "serve") word || is_as (codes "deliver") word || is_as (codes "pass") word
    || is_as (codes "ask") word

-- of a word in capitals that begins a line in small letters
abbrev pub first_small_hint : List ℕ → Option (List ℕ)
first_small_hint word =
    if has_capital word && (is_as_keyword word || is_as_verb word) then Some small_text else None

-- of a word that a comment begins with, or the mark between two texts
abbrev pub first_mark_hint : List ℕ → Option (List ℕ)
first_mark_hint word =
    if has_front (codes "//") word then Some (codes "; a comment begins with `#`")
    else (if same_text word (codes "---")
    then Some (codes "; a line `---` and nothing more parts standard input, once, and no file")
    else (if has_front (codes "---") word
    then Some (codes "; a line that is `---` and nothing more parts two texts of standard input")
    else None))

-- what a first word shows that begins no line of its text
abbrev pub first_hint : List ℕ → Option (List ℕ)
first_hint word =
    if same_text word (codes "bip") then Some (codes "; it begins the text of a model")
    else (if same_text word (codes "grant") then Some (codes "; it begins a line of a trace")
    else (if is_verb word then Some (codes "; it begins a line of a schedule")
    else option_or (first_small_hint word) (first_mark_hint word)))

abbrev pub long_part_parts : List ℕ → List (List ℕ)
long_part_parts part =
    codes "; a name has at most 32 bytes, and " ∷ marked part ∷ codes " has "
    ∷ decimal (length part) ∷ []

abbrev pub reserved_part_parts : List ℕ → List (List ℕ)
reserved_part_parts part =
    codes "; " ∷ marked part ∷ codes " is a word of the language, and no name" ∷ []

-- of digits that are no value: they are too many, or the value is too great
abbrev pub bad_value_parts : ℕ → List (List ℕ)
bad_value_parts digits =
    if nat_lt 10 digits
    then codes "; a value is from 0 to 4294967295, in at most 10 digits, and this has "
    ∷ decimal digits ∷ []
    else codes "; the greatest value is 4294967295" ∷ []

-- of digits that are no number
abbrev pub bad_number_parts : List ℕ → List (List ℕ)
bad_number_parts numeral =
    if nat_lt 20 (length numeral)
    then codes "; a number is from 1 to 18446744073709551615, in at most 20 digits, and this has "
    ∷ decimal (length numeral) ∷ []
    else codes "; a number is from 1 to 18446744073709551615" ∷ []

abbrev pub signed_parts : List ℕ → List (List ℕ)
signed_parts term =
    codes "; a term has no sign, but a sum may begin with 0 - " ∷ marked term
    ∷ codes ", modulo 4294967296, and behind a sign the other one stands for both" ∷ []

abbrev pub digit_text : List ℕ
digit_text = codes "; a name begins with a letter or `_`"

-- what is told of a word where a name is wanted
abbrev pub hint_of_name : List ℕ → List (List ℕ)
hint_of_name word =
    if begins_with_digit word then digit_text ∷ []
    else (if not (begins_as_name word) || is_name word then []
    else (if not (is_spelled_as_name word)
    then codes "; a name has letters, digits and `_` alone" ∷ []
    else (if nat_lt 32 (length word) then codes "; a name has at most 32 bytes" ∷ []
    else codes "; it is a word of the language, and no name" ∷ [])))

-- of a part of a word that should be a name
abbrev pub hint_of_part : List ℕ → List (List ℕ)
hint_of_part part =
    if begins_with_digit part then digit_text ∷ []
    else (if not (is_near_name part) then []
    else (if nat_lt 32 (length part) then long_part_parts part else reserved_part_parts part))

-- of the two parts of a word
abbrev pub hint_of_parts : List ℕ → List ℕ → List (List ℕ)
hint_of_parts component inner =
    if is_near_name component then hint_of_part component else hint_of_part inner

-- of a word where `C.v` is wanted
abbrev pub hint_of_pair : List ℕ → List (List ℕ)
hint_of_pair word =
    option_map_or (λ parts. hint_of_parts parts.0 parts.1) (pair_of point word) []

-- whether a word is a name, or begins with one that another mark joins to what follows
abbrev pub is_name_with : List ℕ → List ℕ → Bool
is_name_with mark word =
    option_map_or (λ parts. is_name parts.0 && same_text parts.1 mark) (two_parts word) false

-- of a component and its port without a point between them
abbrev pub point_text : List ℕ
point_text = codes "; a point joins a component and its port, in one word"

abbrev pub unpointed_hint : List ℕ → List (List ℕ)
unpointed_hint word =
    if is_name_with (codes ":") word || is_name_with (codes "->") word then point_text ∷ [] else []

-- of a word where `C.p` is wanted
abbrev pub hint_of_participant : List ℕ → List (List ℕ)
hint_of_participant word =
    option_map_or (λ parts. hint_of_parts parts.0 parts.1) (pair_of point word)
    (unpointed_hint word)

-- of a word where the first participant is wanted: a name may be the component's
abbrev pub hint_of_first_participant : List ℕ → List (List ℕ)
hint_of_first_participant word =
    if is_name word then point_text ∷ [] else hint_of_participant word

-- of a numeral behind a component
abbrev pub hint_of_numbered : List ℕ → List ℕ → List (List ℕ)
hint_of_numbered component numeral =
    if are_digits numeral && is_none (number_of numeral) then bad_number_parts numeral
    else (if is_negative numeral
    then codes "; a number is from 1 to 18446744073709551615" ∷ [] else hint_of_part component)

-- whether a word begins with a name, and a point behind it
abbrev pub is_pointed_name : List ℕ → Bool
is_pointed_name word =
    option_map_or (λ parts. is_name parts.0) (pair_of point word) false

-- of a word without a colon where `C:1` is wanted
abbrev pub uncoloned_hint : List ℕ → List (List ℕ)
uncoloned_hint word =
    if is_name word || is_name_with (codes "=") word || is_name_with (codes "->") word
    || is_pointed_name word
    then codes "; a colon joins a component and its number, in one word" ∷ [] else []

-- whether a comma stands behind `C:1`
abbrev pub is_want_with_comma : List ℕ → Bool
is_want_with_comma word =
    option_map_or (λ parts. is_want parts.0) (pair_of 44 word) false

-- of a word where `C:1` is wanted
abbrev pub hint_of_want : List ℕ → List (List ℕ)
hint_of_want word =
    if is_want_with_comma word then codes "; components are parted by blanks alone" ∷ []
    else option_map_or (λ parts. hint_of_numbered parts.0 parts.1) (pair_of colon word)
    (uncoloned_hint word)

-- of a word where a value is wanted
abbrev pub hint_of_value : List ℕ → List (List ℕ)
hint_of_value word =
    if are_digits word && not (is_value word) then bad_value_parts (length word) else []

-- of a word where a variable is wanted
abbrev pub hint_of_variable : Spelling → List ℕ → List (List ℕ)
hint_of_variable Own word =
    if is_pair word then codes "; a component names its own variables alone, as `v`" ∷ []
    else hint_of_name word
hint_of_variable Shared word = hint_of_pair word

-- of a word where a term is wanted
abbrev pub hint_of_term : Spelling → List ℕ → List (List ℕ)
hint_of_term spelling word =
    if are_digits word then hint_of_value word
    else (if has_front (codes "-") word && is_term spelling (drop 1 word)
    then signed_parts (drop 1 word) else hint_of_variable spelling word)

-- of a word where the name of an interaction is wanted, in front of its participants
abbrev pub hint_of_interaction : List ℕ → List (List ℕ)
hint_of_interaction word =
    if is_pair word
    then codes "; the interaction's name stands in front of its participants" ∷ []
    else hint_of_name word

-- in front of its components with their numbers
abbrev pub hint_of_granted : List ℕ → List (List ℕ)
hint_of_granted word =
    if is_want word then codes "; the interaction's name stands in front of its components" ∷ []
    else hint_of_name word

-- and of a word where the name of a class is, in front of an interaction's
abbrev pub hint_of_class : List ℕ → List (List ℕ)
hint_of_class word =
    if is_pair word then codes "; a class and its interaction are two words, as `try P x`" ∷ []
    else hint_of_name word

-- of a word by the sort of word that is wanted at its place
abbrev pub hint_of_sort : Spelling → Expected → List ℕ → List (List ℕ)
hint_of_sort spelling One word = []
hint_of_sort spelling TransitionEnd word = []
hint_of_sort spelling Below word = []
hint_of_sort spelling LeftMore word = []
hint_of_sort spelling RightMore word = []
hint_of_sort spelling Becomes word = []
hint_of_sort spelling SumMore word = []
hint_of_sort spelling End word = []
hint_of_sort spelling Grant word = text_parts (first_hint word)
hint_of_sort spelling StartValue word = hint_of_value word
hint_of_sort spelling FlightPlace word = hint_of_value word
hint_of_sort spelling InteractionName word = hint_of_interaction word
hint_of_sort spelling FirstParticipant word = hint_of_first_participant word
hint_of_sort spelling MoreParticipants word = hint_of_participant word
hint_of_sort spelling Granted word = hint_of_granted word
hint_of_sort spelling Class word = hint_of_class word
hint_of_sort spelling FirstMoved word = hint_of_want word
hint_of_sort spelling MoreMoved word = hint_of_want word
hint_of_sort spelling FirstSeen word = hint_of_want word
hint_of_sort spelling MoreSeen word = hint_of_want word
hint_of_sort spelling LeftTerm word = hint_of_term spelling word
hint_of_sort spelling RightTerm word = hint_of_term spelling word
hint_of_sort spelling SumTerm word = hint_of_term spelling word
hint_of_sort spelling Target word = hint_of_variable spelling word
hint_of_sort spelling expected word = hint_of_name word

-- what is told of a word that can't stand at a place, behind what is wanted there
abbrev pub hint_for : Spelling → Expected → List ℕ → List (List ℕ)
hint_for spelling expected word =
    option_map_or (λ text. text ∷ []) (fixed_hint spelling expected word)
    (hint_of_sort spelling expected word)

-- how a hint is told
abbrev pub hint_parts : Hint → List (List ℕ)
hint_parts NoHint = []
hint_parts (Text text) = text.now ∷ []
hint_parts (PartTooLong part) = long_part_parts part.now
hint_parts (ReservedPart part) = reserved_part_parts part.now
hint_parts (BadValue digits) = bad_value_parts digits
hint_parts (BadNumber numeral) = bad_number_parts numeral.now
hint_parts (Signed term) = signed_parts term.now
