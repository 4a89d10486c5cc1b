-- What can stand at a place of a line: the words that are taken there, and how it is told.
use Rattle.std.specs.Prelude.{ℕ, Bool, true, false, List, [], ◌∷◌, Option, None, Some}
use Rattle.std.specs.Prelude.{codes, if◌then◌else◌, option_and_then}
use Rattle.bip_model.specs.Naming.{is_name, same_text}
use Rattle.bip_model.specs.declared.clauses.Spelling.{Spelling}
use Rattle.bip_model.specs.declared.clauses.Spelling.TheVariants.{Own, Shared}
use Rattle.bip_explain.specs.declared.expected.Expected.{Expected}
use Rattle.bip_explain.specs.declared.expected.Expected.TheVariants.{One, Name, VariableName}
use Rattle.bip_explain.specs.declared.expected.Expected.TheVariants.{StartValue, TransitionPort}
use Rattle.bip_explain.specs.declared.expected.Expected.TheVariants.{TransitionSource}
use Rattle.bip_explain.specs.declared.expected.Expected.TheVariants.{TransitionTarget}
use Rattle.bip_explain.specs.declared.expected.Expected.TheVariants.{TransitionEnd}
use Rattle.bip_explain.specs.declared.expected.Expected.TheVariants.{InteractionName}
use Rattle.bip_explain.specs.declared.expected.Expected.TheVariants.{FirstParticipant}
use Rattle.bip_explain.specs.declared.expected.Expected.TheVariants.{MoreParticipants}
use Rattle.bip_explain.specs.declared.expected.Expected.TheVariants.{LowInteraction, Below}
use Rattle.bip_explain.specs.declared.expected.Expected.TheVariants.{HighInteraction, ClassName}
use Rattle.bip_explain.specs.declared.expected.Expected.TheVariants.{FirstMember, MoreMembers}
use Rattle.bip_explain.specs.declared.expected.Expected.TheVariants.{LeftTerm, LeftMore, RightTerm}
use Rattle.bip_explain.specs.declared.expected.Expected.TheVariants.{RightMore, Target, Becomes}
use Rattle.bip_explain.specs.declared.expected.Expected.TheVariants.{SumTerm, SumMore, Grant}
use Rattle.bip_explain.specs.declared.expected.Expected.TheVariants.{Granted, FirstMoved}
use Rattle.bip_explain.specs.declared.expected.Expected.TheVariants.{MoreMoved, FirstSeen, MoreSeen}
use Rattle.bip_explain.specs.declared.expected.Expected.TheVariants.{FlightPlace, Class, Tried}
use Rattle.bip_explain.specs.declared.expected.Expected.TheVariants.{FirstStation, LastStation, End}
use Rattle.bip_explain.specs.Words.{is_pair, is_relation, is_sign, is_term, is_value, is_variable}
use Rattle.bip_explain.specs.Words.{is_want}

-- a place, where a word is taken
abbrev pub go_on_if : Bool → Expected → Option Expected
go_on_if true next = Some next
go_on_if false next = None

-- what `when` and `do` are followed by
abbrev pub after_head : List ℕ → Option Expected
after_head word =
    if same_text word (codes "when") then Some LeftTerm
    else (if same_text word (codes "do") then Some Target else None)

-- the place behind a word of what a line of a model names or declares
abbrev pub after_declared : Expected → List ℕ → Option Expected
after_declared One word = go_on_if (same_text word (codes "1")) End
after_declared Name word = go_on_if (is_name word) End
after_declared VariableName word = go_on_if (is_name word) StartValue
after_declared StartValue word = go_on_if (is_value word) End
after_declared TransitionPort word = go_on_if (is_name word) TransitionSource
after_declared TransitionSource word = go_on_if (is_name word) TransitionTarget
after_declared TransitionTarget word = go_on_if (is_name word) TransitionEnd
after_declared TransitionEnd word = after_head word
after_declared InteractionName word = go_on_if (is_name word) FirstParticipant
after_declared FirstParticipant word = go_on_if (is_pair word) MoreParticipants
after_declared MoreParticipants word =
    if is_pair word then Some MoreParticipants else after_head word
after_declared LowInteraction word = go_on_if (is_name word) Below
after_declared Below word = go_on_if (same_text word (codes "<")) HighInteraction
after_declared HighInteraction word = go_on_if (is_name word) End
after_declared ClassName word = go_on_if (is_name word) FirstMember
after_declared FirstMember word = go_on_if (is_name word) MoreMembers
after_declared MoreMembers word = go_on_if (is_name word) MoreMembers
after_declared expected word = None

-- the place behind a word of a guard, or of a list of assignments
abbrev pub after_clause : Spelling → Expected → List ℕ → Option Expected
after_clause spelling LeftTerm word = go_on_if (is_term spelling word) LeftMore
after_clause spelling LeftMore word =
    if is_sign word then Some LeftTerm else go_on_if (is_relation word) RightTerm
after_clause spelling RightTerm word = go_on_if (is_term spelling word) RightMore
after_clause spelling RightMore word =
    if is_sign word then Some RightTerm
    else (if same_text word (codes "and") then Some LeftTerm
    else go_on_if (same_text word (codes "do")) Target)
after_clause spelling Target word = go_on_if (is_variable spelling word) Becomes
after_clause spelling Becomes word = go_on_if (same_text word (codes ":=")) SumTerm
after_clause spelling SumTerm word = go_on_if (is_term spelling word) SumMore
after_clause spelling SumMore word =
    if is_sign word then Some SumTerm else go_on_if (same_text word (codes ";")) Target
after_clause spelling expected word = None

-- the place behind a word of a trace's line, or of a schedule's
abbrev pub after_step : Expected → List ℕ → Option Expected
after_step Grant word = go_on_if (same_text word (codes "grant")) Granted
after_step Granted word = go_on_if (is_name word) FirstMoved
after_step FirstMoved word = go_on_if (is_want word) MoreMoved
after_step MoreMoved word =
    if same_text word (codes "see") then Some FirstSeen else go_on_if (is_want word) MoreMoved
after_step FirstSeen word = go_on_if (is_want word) MoreSeen
after_step MoreSeen word = go_on_if (is_want word) MoreSeen
after_step FlightPlace word = go_on_if (is_value word) End
after_step Class word = go_on_if (is_name word) Tried
after_step Tried word = go_on_if (is_name word) End
after_step FirstStation word = go_on_if (is_name word) LastStation
after_step LastStation word = go_on_if (is_name word) End
after_step expected word = None

-- the first place of these
abbrev pub or_else : Option Expected → Option Expected → Option Expected
or_else None other = other
or_else (Some next) other = Some next

-- the place behind a word; none where the word can't stand
abbrev pub after_word : Spelling → Expected → List ℕ → Option Expected
after_word spelling expected word =
    or_else (after_declared expected word)
    (or_else (after_clause spelling expected word) (after_step expected word))

-- the place behind words
abbrev pub after_all : Spelling → Expected → List (List ℕ) → Option Expected
after_all spelling expected [] = Some expected
after_all spelling expected (word ∷ rest) =
    option_and_then (λ next. after_all spelling next rest) (after_word spelling expected word)

-- whether a line can end at a place
abbrev pub can_end : Expected → Bool
can_end TransitionEnd = true
can_end MoreParticipants = true
can_end MoreMembers = true
can_end RightMore = true
can_end SumMore = true
can_end MoreMoved = true
can_end MoreSeen = true
can_end End = true
can_end expected = false

-- whether words are taken from a place on, and a line can end behind them
abbrev pub ends : Option Expected → Bool
ends None = false
ends (Some expected) = can_end expected

abbrev pub takes_all : Spelling → Expected → List (List ℕ) → Bool
takes_all spelling expected ws = ends (after_all spelling expected ws)

-- what is wanted in a line of a trace or of a schedule, in words
abbrev pub wanted_in_step : Expected → List ℕ
wanted_in_step Grant = codes "`grant`"
wanted_in_step FirstMoved = codes "a component with a number from 1 on, as `C:1`,"
wanted_in_step FirstSeen = codes "a component with a number from 1 on, as `C:1`,"
wanted_in_step MoreMoved =
    codes "a component with a number from 1 on, as `C:1`, or `see` or the end of the line"
wanted_in_step MoreSeen =
    codes "a component with a number from 1 on, as `C:1`, or the end of the line"
wanted_in_step FlightPlace = codes "a place from 0 to 4294967295"
wanted_in_step Class = codes "the name of a class"
wanted_in_step FirstStation = codes "the name of a reserved interaction"
wanted_in_step LastStation = codes "the name of a reserved interaction"
wanted_in_step expected = codes "the end of the line"

-- what is wanted in a guard, or in a list of assignments, in words
abbrev pub wanted_in_clause : Spelling → Expected → List ℕ
wanted_in_clause Own LeftTerm = codes "a value or a variable, as `v`,"
wanted_in_clause Own RightTerm = codes "a value or a variable, as `v`,"
wanted_in_clause Own SumTerm = codes "a value or a variable, as `v`,"
wanted_in_clause Shared LeftTerm = codes "a value or a component's variable, as `C.v`,"
wanted_in_clause Shared RightTerm = codes "a value or a component's variable, as `C.v`,"
wanted_in_clause Shared SumTerm = codes "a value or a component's variable, as `C.v`,"
wanted_in_clause Own Target = codes "a variable, as `v`,"
wanted_in_clause Shared Target = codes "a component's variable, as `C.v`,"
wanted_in_clause spelling LeftMore = codes "`+`, `-` or a relation, as `<`,"
wanted_in_clause spelling RightMore = codes "`+`, `-`, `and`, `do` or the end of the line"
wanted_in_clause spelling Becomes = codes "`:=`"
wanted_in_clause spelling SumMore = codes "`+`, `-`, `;` or the end of the line"
wanted_in_clause spelling expected = wanted_in_step expected

-- what is wanted at a place, in words
abbrev pub wanted_text : Spelling → Expected → List ℕ
wanted_text spelling One = codes "`1`"
wanted_text spelling Name = codes "a name"
wanted_text spelling VariableName = codes "a name"
wanted_text spelling InteractionName = codes "a name"
wanted_text spelling ClassName = codes "a name"
wanted_text spelling StartValue = codes "a value from 0 to 4294967295"
wanted_text spelling TransitionPort = codes "the name of a port"
wanted_text spelling TransitionSource = codes "the name of a location"
wanted_text spelling TransitionTarget = codes "the name of a location"
wanted_text spelling TransitionEnd = codes "`when`, `do` or the end of the line"
wanted_text spelling FirstParticipant = codes "a component with its port, as `C.p`,"
wanted_text spelling MoreParticipants =
    codes "a component with its port, as `C.p`, or `when`, `do` or the end of the line"
wanted_text spelling LowInteraction = codes "the name of an interaction"
wanted_text spelling HighInteraction = codes "the name of an interaction"
wanted_text spelling FirstMember = codes "the name of an interaction"
wanted_text spelling Granted = codes "the name of an interaction"
wanted_text spelling Tried = codes "the name of an interaction"
wanted_text spelling Below = codes "`<`"
wanted_text spelling MoreMembers = codes "the name of an interaction or the end of the line"
wanted_text spelling expected = wanted_in_clause spelling expected
