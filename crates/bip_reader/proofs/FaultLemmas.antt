-- The faults that a statement can have in its place.
use Rattle.std.proofs.Common.{◌≡◌, ◌≢◌, None, ℕ, Bool, true, false, List, [], ◌∷◌, ◌++◌, Option}
use Rattle.std.proofs.Common.{Some, Result, Ok, Err, refl, sym, arith, subst, ◌∙◌}
use Rattle.std.proofs.lemmas.Grind.{common_steps}
use Rattle.std.specs.Prelude.{IsOk}
use Rattle.std.specs.Option.{ok_or}
use Rattle.bip_model.specs.Faults.{◌>>=◌, Answers}
use Rattle.bip_model.specs.Scopes.{assignment_said, shared, transfer_said}
use Rattle.bip_model.specs.declared.expressions.Assignment.{Assignment}
use Rattle.bip_model.specs.declared.expressions.Comparison.{Comparison}
use Rattle.bip_model.specs.declared.expressions.Variable.{Variable}
use Rattle.bip_model.specs.declared.scopes.VariableName.{VariableName}
use Rattle.bip_model.specs.Drafts.{interaction_line, interaction_over, participant_named}
use Rattle.bip_model.specs.Drafts.{participants_named}
use Rattle.bip_model.specs.Parts.{Participant}
use Rattle.bip_model.specs.declared.drafts.Draft.{Draft}
use Rattle.bip_model.specs.declared.faults.BuildFault.{BuildFault}
use Rattle.bip_model.specs.declared.faults.BuildFault.TheVariants as build_fault
use Rattle.bip_model.specs.declared.parts.System.{System}
use Rattle.bip_reader.specs.Faults.{why_of_build}
use Rattle.bip_model.specs.Texts.{words_said}
use Rattle.bip_reader.specs.Reading.{class_line, draft_of, draft_with, reading_after}
use Rattle.bip_reader.specs.Reading.{reading_after_words, reading_with, statement_in}
use Rattle.bip_reader.specs.declared.faults.Why.{Why}
use Rattle.bip_reader.specs.declared.faults.Why.TheVariants.{Syntax, PriorityCycle, NotAPartition}
use Rattle.bip_reader.specs.declared.faults.Why.TheVariants.{Memory}
use Rattle.bip_reader.specs.declared.reading.Reading.{Reading}
use Rattle.bip_reader.specs.declared.statements.Statement.{Statement}
use Rattle.bip_reader.specs.declared.statements.Statement.TheVariants as statement

-- it is no fault, or a fault of these
abbrev pub is_among : {A E : Type 0} → (E → Bool) → Result A E → Bool
is_among p (Ok x) = true
is_among p (Err fault) = p fault

-- the faults that a statement can have in its place
abbrev pub is_of_statement : Why → Bool
is_of_statement Syntax = false
is_of_statement PriorityCycle = false
is_of_statement NotAPartition = false
is_of_statement Memory = false
is_of_statement why = true

abbrev is_of_line : BuildFault → Bool
is_of_line fault = is_of_statement (why_of_build fault)

participant_faults : (m : System) (word : List ℕ × List ℕ)
    → is_among is_of_line (participant_named m word) ≡ true
participant_faults m word = grind arith

participants_faults : (m : System) (before : List Participant) (words : List (List ℕ × List ℕ))
    → is_among is_of_line (participants_named m before words) ≡ true
participants_faults m before [] = refl
participants_faults m before (word ∷ words) =
    let first = participant_faults m word in
    let rest : (more : List Participant) → is_among is_of_line (participants_named m more words)
    ≡ true = λ more. participants_faults m more words in
    grind (arith, rest)

assignment_faults : (find : VariableName → Option Variable)
    (before : List (Assignment VariableName)) (a : Assignment VariableName)
    → is_among is_of_line (assignment_said find before a) ≡ true
assignment_faults find before a = grind (arith, common_steps)

transfer_faults : (find : VariableName → Option Variable)
    (before rest : List (Assignment VariableName))
    → is_among is_of_line (transfer_said find before rest) ≡ true
transfer_faults find before [] = refl
transfer_faults find before (a ∷ rest) = by_first (assignment_said find before a)
    (assignment_faults find before a) (transfer_faults find (before ++ a ∷ []) rest)
  where
    by_first : (said : Result (Unit {0}) BuildFault) → is_among is_of_line said ≡ true
        → is_among is_of_line (transfer_said find (before ++ a ∷ []) rest) ≡ true
        → is_among is_of_line (said >>= λ _. transfer_said find (before ++ a ∷ []) rest) ≡ true
    by_first (Ok u) first later = later
    by_first (Err fault) first later = first

joined_faults : (name : List ℕ) (qs : List Participant) (guard : List (Comparison VariableName))
    (transfer : List (Assignment VariableName)) (m : System)
    → is_among is_of_line (interaction_over name qs guard transfer m) ≡ true
joined_faults name qs guard transfer m = let said = transfer_faults (shared m qs) [] transfer in
    grind (arith, common_steps)

interaction_faults : (d : Draft) (name : List ℕ) (words : List (List ℕ × List ℕ))
    (guard : List (Comparison VariableName)) (transfer : List (Assignment VariableName))
    → is_among is_of_line (interaction_line d name words guard transfer) ≡ true
interaction_faults d name words guard transfer =
    let named = participants_faults d.system [] words in
    let joined : (qs : List Participant) → is_among is_of_line
    (interaction_over name qs guard transfer d.system) ≡ true =
    λ qs. joined_faults name qs guard transfer d.system in
    grind (arith, joined)

-- the faults that a line can have that is said to the draft
pub draft_faults : (s : Statement) (d : Draft) → is_among is_of_line (draft_with s d) ≡ true
draft_faults (statement.Interaction name participants guard transfer) d =
    interaction_faults d name participants guard transfer
draft_faults s d = grind (arith, common_steps)

class_faults : (name : List ℕ) (interactions : List (List ℕ)) (r : Reading)
    → is_among is_of_statement (class_line name interactions r) ≡ true
unfolding class_line
class_faults name interactions r = grind arith

-- a statement in its place has only such faults
pub reading_faults : (s : Statement) (r : Reading)
    → is_among is_of_statement (reading_with s r) ≡ true
reading_faults (statement.Class name interactions) r = class_faults name interactions r
reading_faults s r = let said = draft_faults s (draft_of r) in grind arith

-- none of them is want of memory
abbrev pub is_of_text : Why → Bool
is_of_text Memory = false
is_of_text why = true

pub fair_more : (why : Why) → is_of_statement why ≡ true → is_of_text why ≡ true
fair_more Memory h = h
fair_more why h = refl

-- a fault of a statement in its place is none of syntax
pub not_of_syntax : (s : Statement) (r : Reading) (why : Why) → reading_with s r ≡ Err why
    → why ≢ Syntax
not_of_syntax s r why is = let fair = rw is at (reading_faults s r) in λ e. let wrong =
    rw e at fair in cc

-- want of memory is no fault of a line
pub line_fair : (line : List ℕ) (r : Reading) → is_among is_of_text (reading_after line r) ≡ true
unfolding reading_after
line_fair line r = by_words (words_said line)
  where
    by_result : (said : Result Reading Why) → is_among is_of_statement said ≡ true
        → is_among is_of_text said ≡ true
    by_result (Ok new) fair = refl
    by_result (Err why) fair = fair_more why fair

    by_statement : (o : Option Statement) → is_among is_of_text
        (ok_or o Syntax >>= λ s. reading_with s r) ≡ true
    by_statement None = refl
    by_statement (Some s) = by_result (reading_with s r) (reading_faults s r)

    by_words : (words : Option (List (List ℕ)))
        → is_among is_of_text (reading_after_words words r) ≡ true
    by_words None = refl
    by_words (Some []) = refl
    by_words (Some (word ∷ rest)) = by_statement (statement_in word rest r)

-- so memory is wanting only where a line has no fault
pub lacks_fairly : (said : Result Reading Why) (why : Why) → is_among is_of_text said ≡ true
    → Answers Memory said (Err why) → why ≡ Memory → IsOk said
lacks_fairly (Ok r) why fair h is = refl
lacks_fairly (Err fault) why fair h is = let wrong : is_of_text Memory ≡ true =
    subst (λ (w : Why). is_of_text w ≡ true) (sym h ∙ is) fair in cc
