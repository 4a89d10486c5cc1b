-- How a command ends: what is written of its answer, and its status.
use Rattle.std.specs.Prelude.{◌≡◌, ◌⊎◌, ℕ, Bool, false, true, List, [], ◌∷◌, Result, Ok, Err}
use Rattle.std.specs.Prelude.{◌≤◌, None, Option, Some, length}
use Rattle.std.specs.List.{list_all}
use Rattle.bip_explain.specs.Explanations.{is_shown}
use Rattle.bip_answers.specs.Answers.{complaining}
use Rattle.bipr.specs.Stops.{answer_of_stop, out_of_memory, unread_text, unwritten_text}
use Rattle.bipr.specs.Streams.{Put, Puts, PutsEach}
use Rattle.bip_answers.specs.Wording.{complaint_text}
use Rattle.bip_answers.specs.declared.answers.Answer.{Answer}
use Rattle.bip_answers.specs.declared.answers.FileText.{FileText}
use Rattle.bip_answers.specs.declared.answers.Status.{Status}
use Rattle.bip_answers.specs.declared.answers.Status.TheVariants.{Done, Refused}
use Rattle.bipr.specs.declared.stops.Stop.TheVariants as stop
use Rattle.bipr.specs.declared.stops.Stop.{Stop}

-- the status of an answer whose complaint was put: what is done is so only where that is out too
abbrev pub told_status : Bool → Status → Status
told_status false Done = Refused
told_status is_told status = status

-- what becomes of texts that are kept in files, by their paths: all of one is out there, or not
abbrev pub Keeping : Type 1
Keeping = List ℕ → List ℕ → Bool → Type 0

-- whether all that is to be kept in a file, if anything is, is out there
abbrev pub IsFileKept : Keeping → Option FileText → Bool → Type 0
IsFileKept keeps None is_kept = is_kept ≡ true
IsFileKept keeps (Some file) is_kept = keeps file.path file.text is_kept

-- nothing is kept in any file
abbrev pub nothing_kept : Keeping
nothing_kept path text is_kept = ⊥

-- the end of a command that has an answer, by what was put on standard output and on standard error
-- and what was kept in a file
pub data IsEnd (says : List ℕ → Bool → Type 0) (keeps : Keeping)
    (complains : List ℕ → Bool → Type 0) (answer : Answer) : Status → Type 0 where
  -- the output is out, and so is what is kept in a file; the complaint, or the report, was put, and
  -- where that isn't out, the status alone tells
  written : (is_told : Bool) → says answer.output true → IsFileKept keeps answer.file true
      → complains answer.complaint is_told
      → IsEnd says keeps complains answer (told_status is_told answer.status)
  -- the output is out, and not all that is kept in a file, and that is complained of
  unkept : (is_told : Bool) → says answer.output true → IsFileKept keeps answer.file false
      → complains unwritten_text is_told → IsEnd says keeps complains answer Refused
  -- the output isn't out, and that is complained of
  unwritten : (is_told : Bool) → says answer.output false → complains unwritten_text is_told
      → IsEnd says keeps complains answer Refused

-- the end of a command with one of these answers
abbrev pub Ends : (Answer → Type 0) → (List ℕ → Bool → Type 0) → Keeping
    → (List ℕ → Bool → Type 0) → Status → Type 0
Ends may_answer says keeps complains status =
    (answer : Answer) × may_answer answer × IsEnd says keeps complains answer status

-- the end of a command that tells lines on its way: these were put on standard error, and then the
-- command ended with an answer that it may have with them
pub record EndsTelling {S : Type 0} (may_answer : List Put → Answer → Type 0)
    (says : List ℕ → Bool → Type 0) (keeps : Keeping) (writes : S → List ℕ → Bool → S → Type 0)
    (before after : S) (status : Status) : Type 0 where
  pub told : List Put
  pub middle : S
  pub on_the_way : PutsEach writes before told middle
  pub ends : Ends (may_answer told) says keeps (Puts writes middle after) status

-- the line of what is said of a fault
abbrev pub why_line : List ℕ → List ℕ
why_line [] = []
why_line (b ∷ why) = complaint_text (b ∷ why)

-- what is put on standard error behind all else, to explain a fault: nothing where all is done
abbrev pub explaining : Status → List ℕ → List ℕ
explaining Done why = []
explaining status why = why_line why

abbrev pub Explains : {S : Type 0} → (S → List ℕ → Bool → S → Type 0) → S → S → Status → List ℕ
    → Type 0
Explains writes before after status why =
    (is_out : Bool) × Puts writes before after (explaining status why) is_out

-- the end of a command that may be asked to explain: it ended, and then a fault was explained, by
-- 480 bytes at most that a terminal shows as they are; where that isn't asked, nothing more was put
pub record EndsExplaining {S : Type 0} (may_answer : Bool → List Put → Answer → Type 0)
    (says : List ℕ → Bool → Type 0) (keeps : Keeping) (writes : S → List ℕ → Bool → S → Type 0)
    (before after : S) (status : Status) : Type 0 where
  pub is_asked : Bool
  pub last : S
  pub ends : EndsTelling (may_answer is_asked) says keeps writes before last status
  pub why : List ℕ
  pub shown : list_all is_shown why ≡ true
  pub short : length why ≤ 480
  pub explained : Explains writes last after status why
  pub unasked : is_asked ≡ false → why ≡ []

-- what is said of a text that can't be read: its path is complained of, which takes memory
abbrev pub IsUnread : List ℕ → Answer → Type 0
IsUnread path answer =
    (answer ≡ complaining Refused (unread_text path)) ⊎ (answer ≡ out_of_memory)

-- what a command says that has an answer, or was stopped
abbrev pub IsOutcome : Result Answer Stop → Answer → Type 0
IsOutcome (Ok given) answer = answer ≡ given
IsOutcome (Err (stop.CannotRead path)) answer = IsUnread path.now answer
IsOutcome (Err why) answer = answer ≡ answer_of_stop why

-- a fact of whatever a command says that has an answer, or was stopped
abbrev pub AllOutcomes : Result Answer Stop → (Answer → Type 0) → Type 0
AllOutcomes given holds = (answer : Answer) → IsOutcome given answer → holds answer

-- the same, where lines were told on the way
pub record AllOutcomesTelling {S : Type 0} (writes : S → List ℕ → Bool → S → Type 0)
    (before after : S) (given : Result Answer Stop) (holds : List Put → Answer → Type 0)
    : Type 0 where
  pub told : List Put
  pub on_the_way : PutsEach writes before told after
  pub outcomes : AllOutcomes given (holds told)
