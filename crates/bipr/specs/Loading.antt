-- What is answered to the texts that paths name: one text, or a model's and another one.
use Rattle.std.specs.Prelude.{◌≡◌, ◌≢◌, ℕ, Bool, false, true, ◌&&◌, List, [], Result, Ok, Err}
use Rattle.std.specs.Borrow.{Bor}
use Rattle.bip_model.specs.declared.parts.System.{System}
use Rattle.bip_model.specs.declared.partitions.Partition.{Partition}
use Rattle.bip_partition.specs.Plans.{Planned}
use Rattle.bip_reader.specs.Texts.{HasFault, Means}
use Rattle.bip_reader.specs.declared.faults.ReadFault.{ReadFault}
use Rattle.bip_reader.specs.declared.faults.Why.TheVariants.{Memory}
use Rattle.bip_answers.specs.Answers.{HasPlan, IsRefusedModel, complaining}
use Rattle.bipr.specs.Dividing.{after_mark, before_mark}
use Rattle.bipr.specs.Sources.{is_standard_input}
use Rattle.bipr.specs.Stops.{out_of_memory, unread}
use Rattle.bipr.specs.Streams.{Put}
use Rattle.bip_answers.specs.Wording.{model_refusal}
use Rattle.bip_answers.specs.declared.answers.Answer.{Answer}
use Rattle.bip_answers.specs.declared.answers.Status.TheVariants.{Refused}
use Rattle.bipr.specs.declared.inputs.InputFault.{InputFault}
use Rattle.bipr.specs.declared.loading.Loaded.{Loaded}
use Rattle.bipr.specs.declared.loading.Loaded.TheVariants.{Lent, Read}
use Rattle.bipr.specs.declared.loading.Other.{Other}
use Rattle.bipr.specs.declared.loading.Other.TheVariants.{At, Here}

-- nothing is told on the way to an answer
pub data Silently (may_answer : Answer → Type 0) : List Put → Answer → Type 0 where
  silent : (answer : Answer) → may_answer answer → Silently may_answer [] answer

-- ---- one text

-- what may be told on the way and then answered, where reading a path may give these texts, and
-- this is told and answered to the text that the path names
pub data OfText (gives : List ℕ → Result (List ℕ) InputFault → Type 0) (path : List ℕ)
    (says : List ℕ → List Put → Answer → Type 0) : List Put → Answer → Type 0 where
  -- the path names this text
  of_text : (text : List ℕ) (told : List Put) (answer : Answer) → gives path (Ok text)
      → says text told answer → OfText gives path says told answer
  -- the text isn't read
  of_no_text : (fault : InputFault) → gives path (Err fault)
      → OfText gives path says [] (unread path fault)
  -- memory is out
  no_memory : OfText gives path says [] out_of_memory

-- what may be told on the way and then answered to a model's text, where this is told and answered
-- to its plan
pub data OfPlan (model : List ℕ) (says : Planned → List Put → Answer → Type 0) :
    List Put → Answer → Type 0 where
  -- it has a plan
  of_plan : (p : Planned) (told : List Put) (answer : Answer) → HasPlan model p
      → says p told answer → OfPlan model says told answer
  -- it has none
  of_no_plan : (answer : Answer) → IsRefusedModel model answer → OfPlan model says [] answer
  -- memory is out before it has a plan
  no_memory_for_plan : OfPlan model says [] out_of_memory

-- ---- two texts

-- both texts are in standard input
abbrev pub are_joined : List ℕ → List ℕ → Bool
are_joined first second = is_standard_input first && is_standard_input second

-- what may be told on the way and then answered to a model's text and another one, named by two
-- paths; where the first one isn't so that the other is read, it is refused
pub data OfTexts (fits : List ℕ → Type 0) (refuses : List ℕ → Answer → Type 0)
    (says : List ℕ → List ℕ → List Put → Answer → Type 0)
    (gives : List ℕ → Result (List ℕ) InputFault → Type 0) (first second : List ℕ) :
    List Put → Answer → Type 0 where
  -- each path names a text
  of_two : (model other : List ℕ) (told : List Put) (answer : Answer)
      → are_joined first second ≡ false → gives first (Ok model) → fits model
      → gives second (Ok other) → says model other told answer
      → OfTexts fits refuses says gives first second told answer
  -- the text that the first path names is refused, whatever the second path names
  of_first : (model : List ℕ) (answer : Answer) → are_joined first second ≡ false
      → gives first (Ok model) → refuses model answer
      → OfTexts fits refuses says gives first second [] answer
  -- one input has both texts
  of_one : (text : List ℕ) (told : List Put) (answer : Answer) → are_joined first second ≡ true
      → gives first (Ok text) → says (before_mark text) (after_mark text) told answer
      → OfTexts fits refuses says gives first second told answer
  -- the text that the first path names isn't read
  first_unread : (fault : InputFault) → gives first (Err fault)
      → OfTexts fits refuses says gives first second [] (unread first fault)
  -- the text that the second path names isn't read, and the first is none that is refused
  second_unread : (model : List ℕ) (fault : InputFault) → are_joined first second ≡ false
      → gives first (Ok model) → fits model → gives second (Err fault)
      → OfTexts fits refuses says gives first second [] (unread second fault)
  -- memory is out
  lacking : OfTexts fits refuses says gives first second [] out_of_memory

-- a text means a model, or has a fault by which it is refused
abbrev pub IsModelText : List ℕ → Type 0
IsModelText text = (m : System) × (classes : Partition) × Means text m classes

abbrev pub IsNoModel : List ℕ → Answer → Type 0
IsNoModel text answer =
    (fault : ReadFault) × (fault.why ≢ Memory) × HasFault text fault
    × (answer ≡ complaining Refused (model_refusal fault))

-- it has a plan
abbrev pub IsPlannedText : List ℕ → Type 0
IsPlannedText text = (p : Planned) × HasPlan text p

-- What contracts of private functions say.

-- a text that was lent or read
abbrev pub bytes_in : Loaded → List ℕ
bytes_in (Lent text) = text.now
bytes_in (Read text) = text

-- reading the other text may give this
abbrev pub GivesOther : (List ℕ → Result (List ℕ) InputFault → Type 0) → Other
    → Result (List ℕ) InputFault → Type 0
GivesOther gives (Here text) given = given ≡ Ok text.now
GivesOther gives (At path) given = gives path.now given

-- where a model's text and another one are, of two paths, the first of which gives a text: there
-- and at the second path, or both in that text
pub data AreTextsAt (first second text model : List ℕ) : Other → Type 0 where
  apart : (path : Bor (List ℕ)) → path.now ≡ second → are_joined first second ≡ false
      → model ≡ text → AreTextsAt first second text model (At path)
  joined : (rest : Bor (List ℕ)) → are_joined first second ≡ true → model ≡ before_mark text
      → rest.now ≡ after_mark text → AreTextsAt first second text model (Here rest)
