-- Why a line of a schedule says no event, and how it is told.
use Rattle.std.specs.Prelude.{◌≡◌, ◌⊎◌, ℕ, ◌||◌, List, [], ◌∷◌, ◌++◌, codes, position, Option, Bool}
use Rattle.std.specs.Prelude.{All, None, Some, if◌then◌else◌, is_some, not, true, false, ⊤}
use Rattle.std.specs.Prelude.{unwrap_or}
use Rattle.std.specs.Option.{option_map_or}
use Rattle.bip_model.specs.Naming.{IsName, same_text}
use Rattle.bip_model.specs.Texts.{is_plain}
use Rattle.bip_model.specs.declared.clauses.Spelling.TheVariants.{Own}
use Rattle.bip_partition.specs.Plans.{IsReserved, Planned}
use Rattle.bip_replay.specs.declared.faults.TraceFault.{TraceFault}
use Rattle.bip_replay.specs.declared.faults.TraceFault.TheVariants.{Syntax, Unknown, Memory}
use Rattle.bip_explain.specs.Explanations.{placed_parts}
use Rattle.bip_explain.specs.Forms.{IsByteReason, IsFormReason, form_parts}
use Rattle.bip_explain.specs.Expected.{takes_all}
use Rattle.bip_explain.specs.Hints.{first_hint}
use Rattle.bip_explain.specs.Placed.{IsFirstOn, IsNameBehind, said_words}
use Rattle.bip_explain.specs.Words.{HasNot}
use Rattle.bip_explain.specs.declared.expected.Expected.{Expected}
use Rattle.bip_explain.specs.declared.expected.Expected.TheVariants.{FlightPlace, Class}
use Rattle.bip_explain.specs.declared.expected.Expected.TheVariants.{FirstStation, LastStation}
use Rattle.bip_explain.specs.declared.forms.FormReason.{FormReason}
use Rattle.bip_explain.specs.declared.schedules.ScheduleReason.{ScheduleReason}
use Rattle.bip_explain.specs.declared.schedules.ScheduleReason.TheVariants.{Form, Keyword, NoClass}
use Rattle.bip_explain.specs.declared.schedules.ScheduleReason.TheVariants.{NoInteraction}
use Rattle.bip_explain.specs.declared.schedules.ScheduleReason.TheVariants.{NoStation, NoMemory}
use Rattle.bip_explain.specs.declared.schedules.ScheduleReason.TheVariants.{Unexplained}

-- a word is the name of an interaction that its class alone grants
abbrev pub StandsAlone : Planned → List ℕ → Type 0
StandsAlone plan word =
    (a : ℕ) × (position (same_text word) plan.model.interaction_names ≡ Some a)
    × ¬ IsReserved plan a

-- a word behind these, the first words of a line, names what its verb wants: behind `try` a class
-- and then an interaction, and behind another one stations
abbrev pub name_class : List (List ℕ) → Bool
name_class (verb ∷ []) = same_text verb (codes "try")
name_class front = false

abbrev pub name_station : List (List ℕ) → Bool
name_station [] = false
name_station (verb ∷ front) = not (same_text verb (codes "try"))

abbrev pub name_interaction : List (List ℕ) → Bool
name_interaction (verb ∷ class ∷ []) = true
name_interaction front = name_station front

-- what a line goes on with behind its first word; none where no line can begin so
abbrev pub behind_verb : List ℕ → Option Expected
behind_verb verb =
    if same_text verb (codes "mail") || same_text verb (codes "deliver") then Some FlightPlace
    else (if same_text verb (codes "try") then Some Class
    else (if same_text verb (codes "serve") then Some LastStation
    else (if same_text verb (codes "pass") || same_text verb (codes "ask") then Some FirstStation
    else None)))

-- a reason is true of a line's form: a byte can stand in no text; or a word behind the first one
-- can't stand there
abbrev pub IsScheduleForm : List ℕ → FormReason → Type 0
IsScheduleForm line reason =
    IsByteReason line reason
    ⊎ ((verb : List ℕ) × (start : Expected) × (behind_verb verb ≡ Some start)
    × IsFormReason Own start (verb ∷ []) line reason)

-- words are taken one by one behind the verb that begins a line, and it can end behind them
abbrev pub takes_event : List (List ℕ) → Bool
takes_event [] = true
takes_event (verb ∷ rest) =
    option_map_or (λ start. takes_all Own start rest) (behind_verb verb) false

-- a name has a station: it is that of a reserved interaction
abbrev pub HasStation : Planned → List ℕ → Type 0
HasStation plan word =
    (a : ℕ) × (position (same_text word) plan.model.interaction_names ≡ Some a) × IsReserved plan a

-- the first word is a class of the plan, if it is a name, and the next one an interaction
abbrev pub AreTried : Planned → List (List ℕ) → Type 0
AreTried plan [] = ⊤
AreTried plan (class ∷ rest) =
    IsName class → (¬ HasNot plan.classes.names class)
    × ((inter : List ℕ) → (more : List (List ℕ)) → rest ≡ inter ∷ more → IsName inter
    → ¬ HasNot plan.model.interaction_names inter)

-- words name what is wanted behind `try`, or else stations
abbrev pub AreNamesBehind : Planned → List (List ℕ) → Bool → Type 0
AreNamesBehind plan ws true = AreTried plan ws
AreNamesBehind plan ws false = All (λ word. IsName word → HasStation plan word) ws

-- the names of a line are what its verb wants
abbrev pub AreNamesKnown : Planned → List (List ℕ) → Type 0
AreNamesKnown plan [] = ⊤
AreNamesKnown plan (verb ∷ rest) = AreNamesBehind plan rest (same_text verb (codes "try"))

-- where it may be told that no reason is found: where each byte can stand in a text, and the words
-- are taken behind their verb; where the names are those that it wants; of want of memory nowhere
abbrev pub MayLackEvent : Planned → List ℕ → TraceFault → Type 0
MayLackEvent plan line Syntax =
    (is_plain line ≡ true) × (takes_event (said_words line) ≡ true)
MayLackEvent plan line Unknown = AreNamesKnown plan (said_words line)
MayLackEvent plan line Memory = ⊥

-- a reason is true of a line and a plan: the word that is told stands at its column, where a class,
-- an interaction or a station is wanted, and is the name of none
abbrev pub IsScheduleReason : Planned → List ℕ → TraceFault → ScheduleReason → Type 0
IsScheduleReason plan line fault (Form reason) = IsScheduleForm line reason
IsScheduleReason plan line fault (Keyword placed) =
    IsFirstOn line placed × (behind_verb placed.word.now ≡ None)
IsScheduleReason plan line fault (NoClass placed is_interaction) =
    IsNameBehind name_class line placed × HasNot plan.classes.names placed.word.now
    × (is_interaction
    ≡ is_some (position (same_text placed.word.now) plan.model.interaction_names))
IsScheduleReason plan line fault (NoInteraction placed is_class) =
    IsNameBehind name_interaction line placed
    × HasNot plan.model.interaction_names placed.word.now
    × (is_class ≡ is_some (position (same_text placed.word.now) plan.classes.names))
IsScheduleReason plan line fault (NoStation placed) =
    IsNameBehind name_station line placed × StandsAlone plan placed.word.now
IsScheduleReason plan line fault NoMemory = ⊤
IsScheduleReason plan line fault Unexplained = MayLackEvent plan line fault

-- a reason is one of this kind of fault
abbrev pub IsOfEventFault : TraceFault → ScheduleReason → Type 0
IsOfEventFault fault (Form reason) = fault ≡ Syntax
IsOfEventFault fault (Keyword placed) = fault ≡ Syntax
IsOfEventFault fault (NoClass placed is_interaction) = fault ≡ Unknown
IsOfEventFault fault (NoInteraction placed is_class) = fault ≡ Unknown
IsOfEventFault fault (NoStation placed) = fault ≡ Unknown
IsOfEventFault fault NoMemory = fault ≡ Memory
IsOfEventFault fault Unexplained = ⊤

-- what may be told of a line with a fault: a reason that is true of it, and of that kind
abbrev pub IsScheduleReasonOf : Planned → List ℕ → TraceFault → ScheduleReason → Type 0
IsScheduleReasonOf plan line fault reason =
    IsScheduleReason plan line fault reason × IsOfEventFault fault reason

abbrev pub if_interaction : Bool → List ℕ
if_interaction is_interaction =
    if is_interaction then codes ", but an interaction of that name" else []

abbrev pub if_class : Bool → List ℕ
if_class is_class = if is_class then codes ", but a class of that name" else []

-- what a first word shows that begins no line; of another one, what can begin a line
abbrev pub verbs_or_first : List ℕ → List ℕ
verbs_or_first word =
    unwrap_or (first_hint word) (codes "; mail, try, serve, deliver, pass and ask can")

-- how a reason is told
abbrev pub schedule_parts : ScheduleReason → List (List ℕ)
schedule_parts (Form reason) = form_parts reason
schedule_parts (Keyword placed) =
    placed_parts placed ++ codes " can't begin a line" ∷ verbs_or_first placed.word.now ∷ []
schedule_parts (NoClass placed is_interaction) =
    placed_parts placed ++ codes " is no class of the model" ∷ if_interaction is_interaction ∷ []
schedule_parts (NoInteraction placed is_class) =
    placed_parts placed ++ codes " is no interaction of the model" ∷ if_class is_class ∷ []
schedule_parts (NoStation placed) =
    placed_parts placed ++ codes " is granted by its class alone, and has no station" ∷ []
schedule_parts NoMemory = codes "the schedule takes more memory than there is" ∷ []
schedule_parts Unexplained = codes "no reason is found" ∷ []
