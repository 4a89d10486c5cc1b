-- Lines lead to a draft of the builder's or to a fault that a text can have, so what a text means
-- is a valid model.
use Rattle.std.proofs.Common.{rules, ◌≡◌, ℕ, ◌+◌, Bool, true, false, not, cond, ◌==◌, List, [], ◌∷◌}
use Rattle.std.proofs.Common.{length, Option, None, Some, Result, Ok, Err, refl, ap, ◌∙◌, subst}
use Rattle.std.proofs.Common.{sym, arith, inl, inr, option_and_then}
use Rattle.std.specs.Prelude.{IsNone, MatchResult, is_some, nat_lt, unwrap_or}
use Rattle.std.specs.Option.{IsSomeAnd, ok_or, option_map, option_zip}
use Rattle.std.proofs.lemmas.Bool.Decides.{nat_tests}
use Rattle.bip_model.specs.Components.{loc_line, port_line, trans_line, var_line}
use Rattle.bip_model.specs.Drafts.{IsDraft, IsWhole, empty_draft}
use Rattle.bip_model.specs.Faults.{◌>>=◌}
use Rattle.bip_model.specs.Partitions.{IsClasses}
use Rattle.bip_model.specs.Parts.{IsSystem}
use Rattle.bip_model.specs.Texts.{lines, words_said}
use Rattle.bip_model.specs.declared.drafts.Draft.{Draft}
use Rattle.bip_model.specs.declared.faults.BuildFault.{BuildFault}
use Rattle.bip_model.specs.declared.numbering.InterId.{InterId}
use Rattle.bip_model.specs.declared.partitions.Partition.{Partition}
use Rattle.bip_model.specs.declared.parts.System.{System}
use Rattle.bip_model.specs.Priorities.{IsCyclic}
use Rattle.bip_model.proofs.DraftLemmas.{component_keeps, end_keeps, inside_keeps}
use Rattle.bip_model.proofs.DraftLemmas.{interaction_keeps, loc_keeps, port_keeps, priority_keeps}
use Rattle.bip_model.proofs.DraftLemmas.{trans_keeps, var_keeps}
use Rattle.std.proofs.lemmas.Bool.{false≢true}
use Rattle.bip_model.proofs.PartitionLemmas.{classes_of_partition}
use Rattle.bip_model.proofs.WordLemmas.{as_many}
use Rattle.bip_reader.proofs.FaultLemmas.{fair_more, is_of_text, reading_faults}
use Rattle.bip_model.specs.Clauses.{ClauseList, clauses_form, head_of}
use Rattle.bip_model.specs.declared.clauses.Spelling.TheVariants.{Own, Shared}
use Rattle.bip_reader.specs.declared.faults.ReadFault.{ReadFault}
use Rattle.bip_reader.specs.Laws.{MeansValid, NoWantOfMemory}
use Rattle.bip_model.specs.Words.{each_of, name_of, participant_of}
use Rattle.bip_reader.specs.Reading.{at_line, can_follow, class_line, draft_of, draft_with}
use Rattle.bip_reader.specs.Reading.{empty_reading, has_place, is_of_header, reading_after}
use Rattle.bip_reader.specs.Reading.{reading_after_lines, reading_after_words, reading_with}
use Rattle.bip_reader.specs.Reading.{statement_in, with_draft}
use Rattle.bip_reader.specs.Statements.{class_form, end_form, header_form, interaction_form}
use Rattle.bip_reader.specs.Statements.{keyword_in, keyword_of, name_and_words, one_name}
use Rattle.bip_reader.specs.Statements.{priority_form, statement_of, three_names, trans_form}
use Rattle.bip_reader.specs.Statements.{var_form}
use Rattle.bip_reader.specs.Texts.{HasFault, IsFaultAtEnd, classes_of, reading_of, system_of}
use Rattle.bip_reader.specs.declared.faults.Why.{Why}
use Rattle.bip_reader.specs.declared.faults.Why.TheVariants.{Syntax, Missing, PriorityCycle}
use Rattle.bip_reader.specs.declared.faults.Why.TheVariants.{NotAPartition}
use Rattle.bip_reader.specs.declared.reading.Reading.{Reading}
use Rattle.bip_reader.specs.declared.statements.Keyword.{Keyword}
use Rattle.bip_reader.specs.declared.statements.Keyword.TheVariants as keyword
use Rattle.bip_reader.specs.declared.statements.Statement.{Statement}
use Rattle.bip_reader.specs.declared.statements.Statement.TheVariants as statement

-- an interaction has a participant
abbrev is_filled : Statement → Bool
is_filled (statement.Interaction name participants guard transfer) = nat_lt 0 (length participants)
is_filled s = true

-- what a line states is of its keyword
kept_by : {A : Type 0} (f : A → Statement) (k : Keyword) (o : Option A) (s : Statement)
    → ((x : A) → keyword_in (f x) ≡ k) → option_map f o ≡ Some s → keyword_in s ≡ k
kept_by f k None s each e = cc
kept_by f k (Some x) s each e = let same : f x ≡ s = cc in rw (← same) (each x)

keyword_kept : (k : Keyword) (ws : List (List ℕ)) (s : Statement) → statement_of k ws ≡ Some s
    → keyword_in s ≡ k
unfolding header_form var_form trans_form end_form interaction_form priority_form class_form
keyword_kept keyword.Component ws s e = kept_by statement.Component keyword.Component
    (one_name ws) s (λ x. refl) e
keyword_kept keyword.Loc ws s e = kept_by statement.Loc keyword.Loc (one_name ws) s (λ x. refl) e
keyword_kept keyword.Port ws s e = kept_by statement.Port keyword.Port (one_name ws) s (λ x. refl) e
keyword_kept keyword.Trans ws s e =
    kept_by (λ t. statement.Trans t.0.0 t.0.1.0 t.0.1.1 t.1.0 t.1.1) keyword.Trans
    (option_zip (three_names (head_of ws)) (clauses_form Own ws)) s (λ x. refl) e
keyword_kept keyword.Interaction ws s e =
    kept_by (λ i. statement.Interaction i.0.0 i.0.1 i.1.0 i.1.1) keyword.Interaction
    (option_zip (name_and_words participant_of (head_of ws)) (clauses_form Shared ws)) s
    (λ x. refl) e
keyword_kept keyword.Class ws s e = kept_by (λ c. statement.Class c.0 c.1) keyword.Class
    (name_and_words name_of ws) s (λ x. refl) e
keyword_kept k ws s e = grind arith

some_named : {A : Type 0} (f : List ℕ → Option A) (ws : List (List ℕ)) (n : List ℕ × List A)
    → name_and_words f ws ≡ Some n → nat_lt 0 (length n.1) ≡ true
unfolding name_and_words
some_named f [] n e = cc
some_named {A} f (w ∷ ws) n e = by_parts (name_of w) (each_of f ws) refl e
  where
    by_parts : (name : Option (List ℕ)) (all : Option (List A)) → each_of f ws ≡ all
        → option_zip name (cond (length ws == 0) None all) ≡ Some n → nat_lt 0 (length n.1) ≡ true
    by_parts name None are e' = grind (arith, nat_tests)
    by_parts name (Some all) are e' = let many = as_many f ws all are in grind (arith, nat_tests)

filled : (k : Keyword) (ws : List (List ℕ)) (s : Statement) → statement_of k ws ≡ Some s
    → is_filled s ≡ true
unfolding header_form one_name var_form trans_form end_form interaction_form priority_form
    class_form
filled keyword.Interaction ws s e = by_named (name_and_words participant_of (head_of ws)) refl
    (clauses_form Shared ws) e
  where
    by_named : (named : Option (List ℕ × List (List ℕ × List ℕ)))
        → name_and_words participant_of (head_of ws) ≡ named → (clauses : Option ClauseList)
        → option_map (λ i. statement.Interaction i.0.0 i.0.1 i.1.0 i.1.1) (option_zip named clauses)
        ≡ Some s → is_filled s ≡ true
    by_named None is clauses e' = cc
    by_named (Some n) is None e' = cc
    by_named (Some n) is (Some c) e' =
        let same : s ≡ statement.Interaction n.0 n.1 c.0 c.1 = cc in
        rw same (some_named participant_of (head_of ws) n is)
filled k ws s e = grind (arith, nat_tests)

-- what is stated in its place
abbrev IsInPlace : Reading → Statement → Type 0
IsInPlace r s = (has_place (keyword_in s) r ≡ true) × (is_filled s ≡ true)

in_place : (found : Option Keyword) (rest : List (List ℕ)) (r : Reading) (s : Statement)
    → option_and_then (λ k. cond (has_place k r) (statement_of k rest) None) found ≡ Some s
    → IsInPlace r s
in_place None rest r s e = absurd (cc)
in_place (Some k) rest r s e = by_place (has_place k r) refl e
  where
    by_place : (place : Bool) → has_place k r ≡ place
        → cond place (statement_of k rest) None ≡ Some s → IsInPlace r s
    by_place true is e' = (rw (keyword_kept k rest s e') is, filled k rest s e')
    by_place false is e' = absurd (cc)

not_begun : {A : Type 0} (o : Option A) → not (is_some o) ≡ true → IsNone o
not_begun None h = refl
not_begun (Some x) h = absurd (cc)

draft_keeps : (s : Statement) (d e : Draft) → can_follow (keyword_in s) d ≡ true
    → is_filled s ≡ true → IsDraft d → draft_with s d ≡ Ok e → IsDraft e
draft_keeps statement.Header d e place some valid is = absurd (cc)
draft_keeps (statement.Component name) d e place some valid is =
    component_keeps d e name valid (not_begun d.begun place) is
draft_keeps (statement.Var name value) d e place some valid is =
    inside_keeps (var_line name value) d e valid place (var_keeps name value) is
draft_keeps (statement.Loc name) d e place some valid is =
    inside_keeps (loc_line name) d e valid place (loc_keeps name) is
draft_keeps (statement.Port name) d e place some valid is =
    inside_keeps (port_line name) d e valid place (port_keeps name) is
draft_keeps (statement.Trans port source target guard update) d e place some valid is =
    inside_keeps (trans_line port source target guard update) d e valid place
    (trans_keeps port source target guard update) is
draft_keeps statement.End d e place some valid is = end_keeps d e valid place is
draft_keeps (statement.Interaction name participants guard transfer) d e place some valid is =
    interaction_keeps d e name participants guard transfer valid (grind (arith, nat_tests)) is
draft_keeps (statement.Priority low high) d e place some valid is =
    priority_keeps d e low high valid is
draft_keeps (statement.Class name interactions) d e place some valid is = let same : d ≡ e = cc in
    subst IsDraft same valid

empty_is : IsDraft empty_draft
empty_is = search rules

-- behind `bip 1`, what is said to the reading is said to its draft
follows : (s : Statement) (r : Reading) → has_place (keyword_in s) r ≡ true
    → is_of_header (keyword_in s) ≡ false → can_follow (keyword_in s) (draft_of r) ≡ true
follows s r place no_header = grind arith

said_draft : (r new : Reading) (said : Result Draft BuildFault) → with_draft r said ≡ Ok new
    → said ≡ Ok (draft_of new)
said_draft r new said e = grind arith

class_keeps : (name : List ℕ) (interactions : List (List ℕ)) (r new : Reading)
    → class_line name interactions r ≡ Ok new → draft_of new ≡ draft_of r
unfolding class_line
class_keeps name interactions r new e = grind arith

-- what a statement leads to in its place
keeps : (s : Statement) (r new : Reading) → IsInPlace r s → IsDraft (draft_of r)
    → reading_with s r ≡ Ok new → IsDraft (draft_of new)
keeps statement.Header r new place valid e = let same : draft_of new ≡ empty_draft = grind arith in
    rw same empty_is
keeps (statement.Class name interactions) r new place valid e =
    rw (class_keeps name interactions r new e) valid
keeps s r new place valid e =
    draft_keeps s (draft_of r) (draft_of new) (follows s r place.0 refl) place.1 valid
    (said_draft r new (draft_with s (draft_of r)) e)

-- what is read is a draft of the builder's, or a fault that a text can have
abbrev Leads : Result Reading Why → Type 0
Leads said = MatchResult said (λ r. IsDraft (draft_of r)) (λ why. is_of_text why ≡ true)

words_lead : (ws : Option (List (List ℕ))) (r : Reading) → IsDraft (draft_of r)
    → Leads (reading_after_words ws r)
words_lead None r valid = refl
words_lead (Some []) r valid = valid
words_lead (Some (word ∷ rest)) r valid = stated (statement_in word rest r)
    (in_place (keyword_of word) rest r)
  where
    said_leads : (s : Statement) (said : Result Reading Why) → reading_with s r ≡ said
        → IsInPlace r s → Leads said
    said_leads s (Ok new) e place = keeps s r new place valid e
    said_leads s (Err why) e place = fair_more why (rw e at (reading_faults s r))

    stated : (o : Option Statement) → ((s : Statement) → o ≡ Some s → IsInPlace r s)
        → Leads (ok_or o Syntax >>= λ s. reading_with s r)
    stated None places = refl
    stated (Some s) places = said_leads s (reading_with s r) refl (places s refl)

lines_lead : (n : ℕ) (ls : List (List ℕ)) (r : Reading) → IsDraft (draft_of r)
    → MatchResult (reading_after_lines n ls r) (λ new. IsDraft (draft_of new))
    (λ fault. is_of_text fault.why ≡ true)
unfolding reading_after
lines_lead n [] r valid = valid
lines_lead n (line ∷ ls) r valid = first (reading_after_words (words_said line) r)
    (words_lead (words_said line) r valid) (lines_lead (n + 1) ls)
  where
    first : (said : Result Reading Why) → Leads said
        → ((s : Reading) → IsDraft (draft_of s)
        → MatchResult (reading_after_lines (n + 1) ls s) (λ new. IsDraft (draft_of new))
        (λ fault. is_of_text fault.why ≡ true))
        → MatchResult (at_line n said >>= reading_after_lines (n + 1) ls)
        (λ new. IsDraft (draft_of new)) (λ fault. is_of_text fault.why ≡ true)
    first (Ok s) h later = later s h
    first (Err why) h later = h

read_keeps : (text : List ℕ) (r : Reading) → reading_of text ≡ Ok r → IsDraft (draft_of r)
unfolding reading_of
read_keeps text r e = rw e at (lines_lead 1 (lines text) empty_reading empty_is)

fair_end : (r : Reading) (why : Why) → IsFaultAtEnd r why → is_of_text why ≡ true
fair_end r Missing h = refl
fair_end r PriorityCycle h = refl
fair_end r NotAPartition h = refl
fair_end r why h = absurd h

fair : (text : List ℕ) (fault : ReadFault) → HasFault text fault → is_of_text fault.why ≡ true
unfolding reading_of
fair text fault (inl e) = rw e at (lines_lead 1 (lines text) empty_reading empty_is)
fair text fault (inr h) = fair_end h.read fault.why h.at_end

pub no_want_of_memory : NoWantOfMemory
no_want_of_memory text fault h = λ wants. false≢true (rw wants at (fair text fault h))

whole_draft : (o : Option Draft) → IsSomeAnd o IsWhole → IsWhole (unwrap_or o empty_draft)
whole_draft None h = absurd h
whole_draft (Some d) h = h

whole_system : (d : Draft) → IsDraft d → IsWhole d → ¬ IsCyclic d.system.priorities
    → IsSystem d.system
whole_system d valid whole acyclic =
    let none : ◌≡◌ {A = ℕ} (cond (is_some d.begun) 1 0) 0 = rw whole.ended refl in
    let named : length d.system.component_names ≡ length d.system.components + cond
    (is_some d.begun) 1 0 = valid.named in
    record {
      so_far = valid.so_far;
      some = whole.some;
      components_named = omega arith;
      acyclic = acyclic;
    }

pub means_valid : MeansValid
means_valid text m classes h =
    let r = h.read in
    let system : IsSystem (system_of r) = whole_system (draft_of r) (read_keeps text r h.said)
    (whole_draft r.builder h.declares.whole) h.declares.acyclic in
    let made : Partition = classes_of (system_of r) r.classes in
    let parted : IsClasses made = classes_of_partition (λ (c : List ℕ × List InterId). c.0)
    (λ c. c.1) (length (system_of r).interactions) r.classes made h.declares.parted refl refl
    refl in (
      subst IsSystem (sym h.declares.model) system,
      subst IsClasses (sym h.declares.ordered) parted,
      ap (λ (p : Partition). p.count) h.declares.ordered
          ∙ ap (λ (n : System). length n.interactions) (sym h.declares.model),
    )
