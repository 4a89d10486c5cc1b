-- What is told of a mark, or of a word, that stands in the place of what is wanted.
use Rattle.std.specs.Prelude.{ℕ, Bool, ◌==◌, ◌||◌, ◌&&◌, not, None, Some, Option, nat_lt}
use Rattle.std.specs.Prelude.{List, [], ◌∷◌, length, slice_index, take, drop, codes, position}
use Rattle.std.specs.Prelude.{if◌then◌else◌, nat_eq}
use Rattle.std.specs.List.{list_any, starts_with}
use Rattle.std.specs.Option.{option_map, option_map_or}
use Rattle.bip_model.specs.Naming.{is_name, same_text}
use Rattle.bip_explain.specs.Words.{is_pair, is_relation, is_sign}
use Rattle.bip_explain.specs.declared.expected.Expected.{Expected}
use Rattle.bip_explain.specs.declared.expected.Expected.TheVariants.{StartValue, TransitionTarget}
use Rattle.bip_explain.specs.declared.expected.Expected.TheVariants.{TransitionEnd}
use Rattle.bip_explain.specs.declared.expected.Expected.TheVariants.{MoreParticipants, Below}
use Rattle.bip_explain.specs.declared.expected.Expected.TheVariants.{MoreMembers}
use Rattle.bip_explain.specs.declared.expected.Expected.TheVariants.{LeftTerm, LeftMore, RightTerm}
use Rattle.bip_explain.specs.declared.expected.Expected.TheVariants.{RightMore, SumTerm, SumMore}
use Rattle.bip_explain.specs.declared.expected.Expected.TheVariants.{MoreMoved, MoreSeen, End}

-- a word begins with the bytes of a text
abbrev pub has_front : List ℕ → List ℕ → Bool
has_front text word = starts_with nat_eq word text

-- a byte of a mark that stands between names and values, or that is taken for one
abbrev pub is_mark_byte : ℕ → Bool
is_mark_byte b =
    b == 43 || b == 45 || b == 61 || b == 33 || b == 60 || b == 62 || b == 59 || b == 58
    || b == 44 || b == 38 || b == 124 || b == 47

abbrev pub begins_marked : List ℕ → Bool
begins_marked word = nat_lt 0 (length word) && is_mark_byte (slice_index word 0)

-- where the first part of a word ends, which has bytes of marks alone, or none of them; none where
-- that is all of the word
abbrev pub part_end : List ℕ → Option ℕ
part_end word =
    if begins_marked word then position (λ byte. not (is_mark_byte byte)) word
    else position is_mark_byte word

abbrev pub first_part : List ℕ → List ℕ
first_part word = option_map_or (λ i. take i word) (part_end word) word

-- the first two parts of a word, if it has two
abbrev pub two_parts : List ℕ → Option (List ℕ × List ℕ)
two_parts word = option_map (λ i. (take i word, first_part (drop i word))) (part_end word)

-- a hint that is a text, or none
abbrev pub text_parts : Option (List ℕ) → List (List ℕ)
text_parts None = []
text_parts (Some text) = text ∷ []

-- whether a word has a round bracket, or a mark of multiplication
abbrev pub has_bracket : List ℕ → Bool
has_bracket word = list_any (λ byte. byte == 40 || byte == 41) word

abbrev pub has_star : List ℕ → Bool
has_star word = list_any (λ byte. byte == 42) word

-- what is told of the marks of other sums
abbrev pub sum_hint : List ℕ → Option (List ℕ)
sum_hint word =
    if has_bracket word then Some (codes "; there are no brackets")
    else (if has_star word then Some (codes "; a sum has `+` and `-` alone") else None)

-- what is told where a relation is wanted
abbrev pub relation_hint : List ℕ → Option (List ℕ)
relation_hint word =
    if same_text word (codes "==") then Some (codes "; equality is `=`")
    else (if same_text word (codes "<>") || same_text word (codes "/=")
    then Some (codes "; unequal is `!=`")
    else (if same_text word (codes "=<") then Some (codes "; at most is `<=`")
    else (if same_text word (codes "=>") then Some (codes "; at least is `>=`")
    else sum_hint word)))

-- what is told behind a comparison
abbrev pub guard_hint : List ℕ → Option (List ℕ)
guard_hint word =
    if same_text word (codes "&&") || same_text word (codes ",") || same_text word (codes "when")
    then Some (codes "; `and` joins comparisons")
    else (if same_text word (codes "or") || same_text word (codes "||")
    then Some (codes "; a guard has no `or`")
    else (if is_relation word
    then Some (codes "; a comparison has one relation, and `and` joins two")
    else (if is_name word || is_pair word
    then Some (codes "; `and` joins comparisons, and assignments begin with `do`")
    else sum_hint word)))

-- what is told behind an assignment
abbrev pub update_hint : List ℕ → Option (List ℕ)
update_hint word =
    if same_text word (codes "when") then Some (codes "; a guard stands in front of `do`")
    else (if same_text word (codes "do") || same_text word (codes ",")
    || same_text word (codes "&&") || same_text word (codes "and")
    then Some (codes "; `;` joins assignments") else sum_hint word)

-- a text, if a word is this mark
abbrev pub if_mark : List ℕ → List ℕ → List ℕ → Option (List ℕ)
if_mark mark text word = if same_text word mark then Some text else None

-- what is told where a term is wanted, of a sign or of `!` in front of one
abbrev pub term_hint : List ℕ → Option (List ℕ)
term_hint word =
    if is_sign word
    then Some (codes "; a sum begins with a term, as `0 - 1`, and has one sign between two")
    else (if has_front (codes "!") word && not (has_front (codes "!=") word)
    then Some (codes "; nothing is negated by `!`, but unequal is `!=`") else sum_hint word)

-- what is told where a guard or a list of assignments may begin
abbrev pub lists_text : List ℕ
lists_text = codes "; a guard begins with `when`, and assignments with `do`"

abbrev pub lists_hint : List ℕ → Option (List ℕ)
lists_hint word = if is_name word then Some lists_text else None

-- what is told behind participants
abbrev pub participants_hint : List ℕ → Option (List ℕ)
participants_hint word =
    if same_text word (codes ",") then Some (codes "; participants are parted by blanks alone")
    else (if same_text word (codes "if") || same_text word (codes ":=") || is_relation word
    then Some lists_text else None)

-- what is told of a priority's mark
abbrev pub priority_hint : List ℕ → Option (List ℕ)
priority_hint word =
    if same_text word (codes ">")
    then Some (codes "; the lower one stands first, as `priority low < high`")
    else (if same_text word (codes ",")
    then Some (codes "; `<` stands between the two, as `priority low < high`") else None)

-- what is told in front of a start value
abbrev pub start_hint : List ℕ → Option (List ℕ)
start_hint word =
    if same_text word (codes "=") || same_text word (codes ":=")
    then Some (codes "; the value stands right behind the name, as `var v 0`") else None

-- what is told where a line ends
abbrev pub end_hint : List ℕ → Option (List ℕ)
end_hint word =
    if same_text word (codes ";") || same_text word (codes ",")
    then Some (codes "; a line says one thing, and no mark ends it") else None

-- what is told of a mark, or of a word, at a place
abbrev pub mark_hint : Expected → List ℕ → Option (List ℕ)
mark_hint LeftMore word = relation_hint word
mark_hint RightMore word = guard_hint word
mark_hint SumMore word = update_hint word
mark_hint LeftTerm word = term_hint word
mark_hint RightTerm word = term_hint word
mark_hint SumTerm word = term_hint word
mark_hint StartValue word = start_hint word
mark_hint TransitionTarget word =
    if_mark (codes "->") (codes "; the locations stand side by side, as `trans p a b`") word
mark_hint TransitionEnd word = lists_hint word
mark_hint MoreParticipants word = participants_hint word
mark_hint MoreMembers word =
    if_mark (codes ",") (codes "; members are parted by blanks alone") word
mark_hint Below word = priority_hint word
mark_hint MoreMoved word =
    if_mark (codes ",") (codes "; components are parted by blanks alone") word
mark_hint MoreSeen word =
    if_mark (codes ",") (codes "; components are parted by blanks alone") word
mark_hint End word = end_hint word
mark_hint expected word = None
