-- Why a text is no model, and how it is told.
use Rattle.std.specs.Prelude.{◌≡◌, ◌⊎◌, ℕ, List, [], ◌∷◌, ◌++◌, None, Some, codes}
use Rattle.std.specs.Prelude.{Bool, true, false, IsTrue, ⊤}
use Rattle.bip_model.specs.Texts.{is_plain}
use Rattle.bip_reader.specs.declared.faults.ReadFault.{ReadFault}
use Rattle.bip_reader.specs.declared.faults.Why.{Why}
use Rattle.bip_reader.specs.declared.faults.Why.TheVariants as why
use Rattle.bip_explain.specs.Ends.{IsComplete, IsEndReason, end_parts, why_of_end}
use Rattle.bip_explain.specs.Explanations.{marked, placed_parts}
use Rattle.bip_explain.specs.Forms.{IsByteReason, IsFormReason, IsNoLine, IsWantedThere}
use Rattle.bip_explain.specs.Forms.{form_parts}
use Rattle.bip_explain.specs.Hints.{first_hint}
use Rattle.bip_explain.specs.Marks.{text_parts}
use Rattle.bip_explain.specs.Keywords.{IsModelLine, IsStatedAt, behind_keyword, spelling_behind}
use Rattle.bip_explain.specs.Limits.{AreWithin, IsLimitReason, limit_parts}
use Rattle.bip_model.specs.Texts.{line_at}
use Rattle.bip_explain.specs.Placed.{IsFirstOn, said_words}
use Rattle.bip_explain.specs.Scopes.{IsStandingAt}
use Rattle.bip_explain.specs.Twice.{AreUnsaid, IsTwiceReason, NoSameTransition, twice_parts}
use Rattle.bip_explain.specs.Twice.{why_of_twice}
use Rattle.bip_explain.specs.Unknown.{AreDeclared, IsUnknownReason, named_interactions}
use Rattle.bip_explain.specs.Unknown.{unknown_parts}
use Rattle.bip_explain.specs.declared.expected.Expected.{Expected}
use Rattle.bip_explain.specs.declared.forms.FormReason.{FormReason}
use Rattle.bip_explain.specs.declared.models.ModelReason.{ModelReason}
use Rattle.bip_explain.specs.declared.models.ModelReason.TheVariants.{Form, Keyword, Unknown, Twice}
use Rattle.bip_explain.specs.declared.models.ModelReason.TheVariants.{Limit, End, NoMemory}
use Rattle.bip_explain.specs.declared.models.ModelReason.TheVariants.{NoMemoryToTell, Unexplained}
use Rattle.bip_explain.specs.declared.placed.Placed.{Placed}
use Rattle.bip_explain.specs.declared.scopes.Standing.{Standing}
use Rattle.bip_explain.specs.declared.scopes.Standing.TheVariants.{First, Outside, Inside}

-- a reason is true of the form of a line that stands so, whose first word can begin it: it is one
-- of the words behind that one, no line that states something has these words in front, and what is
-- wanted can stand there
pub record IsFormOf (standing : Standing) (line : List ℕ) (reason : FormReason) : Type 0 where
  pub keyword : List ℕ
  pub start : Expected
  pub begins : behind_keyword standing keyword ≡ Some start
  pub form : IsFormReason (spelling_behind keyword) start (keyword ∷ []) line reason
  pub no_line : IsNoLine IsModelLine line reason
  pub wanted : IsWantedThere IsModelLine line reason

-- a reason is true of a text at its fault: a byte can stand in no text; the form is wrong of a line
-- that stands where it does
abbrev pub IsModelForm : List ℕ → ℕ → FormReason → Type 0
IsModelForm text number reason =
    IsByteReason (line_at text number) reason
    ⊎ ((standing : Standing) × IsStandingAt text number standing
    × IsFormOf standing (line_at text number) reason)

-- the line of a text has a form: each byte can stand in a text, and the words are a line that can
-- stand there
abbrev pub HasForm : List ℕ → ℕ → Type 0
HasForm text number =
    (is_plain (line_at text number) ≡ true)
    × ((standing : Standing) × IsStandingAt text number standing
    × IsStatedAt standing (said_words (line_at text number)))

-- where it may be told that no reason is found, of a kind of fault of a line: where the line has a
-- form, where nothing is missing down to it, where it passes no limit, where no line before has its
-- transition, or says or declares the same, and where the interactions that it names are declared
-- by lines before; of want of memory nowhere
abbrev pub MayLackReason : List ℕ → ℕ → Why → Type 0
MayLackReason text number why.Syntax = HasForm text number
MayLackReason text number why.Missing = IsComplete text number
MayLackReason text number why.TooMany =
    AreWithin text number (said_words (line_at text number))
MayLackReason text number why.TwoTransitions =
    NoSameTransition text number (line_at text number)
MayLackReason text number why.Twice =
    AreUnsaid text number (said_words (line_at text number))
MayLackReason text number why.Unknown =
    AreDeclared text number (named_interactions (said_words (line_at text number)))
MayLackReason text number why.Memory = ⊥
MayLackReason text number kind = ⊤

-- a reason is true of a text at its fault
abbrev pub IsModelReason : List ℕ → ReadFault → ModelReason → Type 0
IsModelReason text fault (Form reason) = IsModelForm text fault.line reason
IsModelReason text fault (Keyword placed standing) =
    IsFirstOn (line_at text fault.line) placed × IsStandingAt text fault.line standing
    × (behind_keyword standing placed.word.now ≡ None)
IsModelReason text fault (Unknown reason) =
    IsUnknownReason text fault.line (line_at text fault.line) reason
IsModelReason text fault (Twice reason) =
    IsTwiceReason text fault.line (line_at text fault.line) reason
IsModelReason text fault (Limit reason) =
    IsLimitReason text fault.line (line_at text fault.line) reason
IsModelReason text fault (End reason) = IsEndReason text fault.line reason
IsModelReason text fault NoMemory = ⊤
IsModelReason text fault NoMemoryToTell = ⊤
IsModelReason text fault Unexplained = MayLackReason text fault.line fault.why

-- a search of this kind of fault keeps the names that are declared, and so takes memory
abbrev pub takes_memory : Why → Bool
takes_memory why.Unknown = true
takes_memory why.Twice = true
takes_memory why.PriorityCycle = true
takes_memory why.NotAPartition = true
takes_memory kind = false

-- a reason is one of this kind of fault; that no memory is left to tell one is said only where the
-- search takes some
abbrev pub IsOfWhy : Why → ModelReason → Type 0
IsOfWhy kind (Form reason) = kind ≡ why.Syntax
IsOfWhy kind (Keyword placed standing) = kind ≡ why.Syntax
IsOfWhy kind (Unknown reason) = kind ≡ why.Unknown
IsOfWhy kind (Twice reason) = kind ≡ why_of_twice reason
IsOfWhy kind (Limit reason) = kind ≡ why.TooMany
IsOfWhy kind (End reason) = kind ≡ why_of_end reason
IsOfWhy kind NoMemory = kind ≡ why.Memory
IsOfWhy kind NoMemoryToTell = IsTrue (takes_memory kind)
IsOfWhy kind Unexplained = ⊤

-- what may be told of a text at its fault: a reason that is true there, and one of its kind
abbrev pub IsReasonOf : List ℕ → ReadFault → ModelReason → Type 0
IsReasonOf text fault reason = IsModelReason text fault reason × IsOfWhy fault.why reason

-- which words can begin a line that stands so
abbrev pub standing_parts : Standing → List (List ℕ)
standing_parts First = codes " stands where `bip 1` is wanted, the first line of a model" ∷ []
standing_parts Outside =
    codes " can't begin a line outside a component; "
    ∷ codes "component, interaction, priority and class can" ∷ []
standing_parts (Inside component) =
    codes " can't begin a line inside component " ∷ marked component.now
    ∷ codes "; var, loc, port, trans and end can" ∷ []

abbrev pub keyword_parts : Placed → Standing → List (List ℕ)
keyword_parts placed standing =
    placed_parts placed ++ standing_parts standing ++ text_parts (first_hint placed.word.now)

-- how a reason is told
abbrev pub model_parts : ModelReason → List (List ℕ)
model_parts (Form reason) = form_parts reason
model_parts (Keyword placed standing) = keyword_parts placed standing
model_parts (Unknown reason) = unknown_parts reason
model_parts (Twice reason) = twice_parts reason
model_parts (Limit reason) = limit_parts reason
model_parts (End reason) = end_parts reason
model_parts NoMemory = codes "the model takes more memory than there is" ∷ []
model_parts NoMemoryToTell = codes "no memory is left to say more" ∷ []
model_parts Unexplained = codes "no reason is found" ∷ []
