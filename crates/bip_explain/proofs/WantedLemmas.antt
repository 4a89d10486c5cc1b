-- What is wanted at a place of a line: each line of the grammar is taken word by word, so no line
-- has
-- words in front behind which a word can't stand.
use Rattle.std.proofs.Common.{◌≡◌, inl, inr, ◌⊎◌, ℕ, ◌<◌, ◌||◌, Bool, true, false, cond, List, []}
use Rattle.std.proofs.Common.{◌∷◌, ◌++◌, length, map, Option, None, Some, Ok, eqb, suc, refl, sym}
use Rattle.std.proofs.Common.{ap, ◌∙◌, subst, arith, append_assoc}
use Rattle.std.specs.Prelude.{All, codes, is_some, nat_le, option_and_then}
use Rattle.std.specs.Option.{option_map, option_zip}
use Rattle.std.specs.List.{AllZip, flat_map}
use Rattle.std.proofs.Math.Bool.{or-true}
use Rattle.std.proofs.Math.Dec.{eqb-suc-zero}
use Rattle.std.proofs.lemmas.Bool.{false≢true}
use Rattle.std.proofs.lemmas.List.Elements.{All-head, All-tail}
use Rattle.bip_model.specs.Clauses.{clauses_form, head_of}
use Rattle.bip_model.specs.Naming.{IsName, is_name, same_text}
use Rattle.bip_model.specs.Words.{name_of, participant_of, two_names}
use Rattle.bip_model.specs.Texts.{value_said}
use Rattle.bip_model.specs.declared.clauses.Spelling.{Spelling}
use Rattle.bip_model.specs.declared.clauses.Spelling.TheVariants.{Own, Shared}
use Rattle.bip_model.specs.declared.expressions.Assignment.{Assignment}
use Rattle.bip_model.specs.declared.expressions.Comparison.{Comparison}
use Rattle.bip_model.specs.declared.expressions.Expr.{Expr}
use Rattle.bip_model.specs.declared.expressions.Relation.{Relation}
use Rattle.bip_model.specs.declared.expressions.Relation.TheVariants as relation
use Rattle.bip_model.specs.declared.expressions.Sign.{Sign}
use Rattle.bip_model.specs.declared.expressions.Sign.TheVariants.{Plus, Minus}
use Rattle.bip_model.specs.declared.expressions.Term.{Term}
use Rattle.bip_model.specs.declared.expressions.Term.TheVariants.{Value, Of}
use Rattle.bip_model.specs.declared.scopes.VariableName.{VariableName}
use Rattle.bip_model.proofs.WrittenLemmas.{is_name-from, pair_of-name}
use Rattle.bip_reader.specs.Grammar.{AreTwoNames, SpellsAssignment, SpellsComparison, SpellsSigned}
use Rattle.bip_reader.specs.Grammar.{SpellsSum, SpellsTerm, SpellsVariable}
use Rattle.bip_reader.specs.Writing.{pair_word, relation_word, sign_word, words_of_list}
use Rattle.bip_reader.specs.Statements.{class_form, end_form, header_form, interaction_form}
use Rattle.bip_reader.specs.Statements.{keyword_of, name_and_words, one_name, priority_form}
use Rattle.bip_reader.specs.Statements.{three_names, trans_form, var_form}
use Rattle.bip_reader.proofs.GrammarLemmas.{clauses_are}
use Rattle.bip_reader.proofs.SpellingLemmas.{first_some, name_is, pair_is, same_word}
use Rattle.bip_reader.proofs.StatementLemmas.{named_is}
use Rattle.std.proofs.lemmas.Option.{option_and_then_some}
use Rattle.std.specs.Cmp.Lexicographic as texts
use Rattle.bip_model.specs.Texts.{number_of, pair_of}
use Rattle.bip_model.specs.declared.wants.Role.{Role}
use Rattle.bip_model.specs.declared.wants.Role.TheVariants.{Moved, Seen}
use Rattle.bip_replay.specs.Lines.{NamedGrant, colon, is_named, said, want_of, want_said}
use Rattle.bip_replay.specs.Lines.{wants_said, with_want}
use Rattle.bip_explain.specs.Traces.{IsGrantWords}
use Rattle.bip_explain.specs.Expected.{after_word, after_all, can_end, ends, takes_all}
use Rattle.bip_explain.specs.Words.{is_pair, is_sign, is_term, is_value, is_variable, is_want}
use Rattle.bip_model.specs.Texts.{words}
use Rattle.bip_explain.specs.Forms.{IsFormReason, IsNoLine, LeadsTo, NoLineBegins}
use Rattle.bip_explain.specs.Placed.{IsPlacedOn}
use Rattle.bip_explain.specs.declared.placed.Placed.{Placed}
use Rattle.bip_explain.specs.Keywords.{behind_inside, behind_keyword, behind_outside}
use Rattle.bip_explain.specs.Keywords.{spelling_behind, states_something}
use Rattle.bip_explain.specs.declared.forms.FormReason.{FormReason}
use Rattle.bip_explain.specs.declared.forms.FormReason.TheVariants.{Byte, Word, End as LineEnd}
use Rattle.bip_explain.specs.declared.scopes.Standing.{Standing}
use Rattle.bip_explain.specs.declared.scopes.Standing.TheVariants.{First, Outside, Inside}
use Rattle.bip_explain.specs.declared.expected.Expected.{Expected}
use Rattle.bip_explain.specs.declared.expected.Expected.TheVariants.{One, Name}
use Rattle.bip_explain.specs.declared.expected.Expected.TheVariants.{VariableName as NewVariable}
use Rattle.bip_explain.specs.declared.expected.Expected.TheVariants.{TransitionPort, TransitionEnd}
use Rattle.bip_explain.specs.declared.expected.Expected.TheVariants.{InteractionName}
use Rattle.bip_explain.specs.declared.expected.Expected.TheVariants.{FirstParticipant}
use Rattle.bip_explain.specs.declared.expected.Expected.TheVariants.{MoreParticipants}
use Rattle.bip_explain.specs.declared.expected.Expected.TheVariants.{LowInteraction, ClassName}
use Rattle.bip_explain.specs.declared.expected.Expected.TheVariants.{FirstMember, MoreMembers}
use Rattle.bip_explain.specs.declared.expected.Expected.TheVariants.{LeftTerm, LeftMore, RightTerm}
use Rattle.bip_explain.specs.declared.expected.Expected.TheVariants.{RightMore, Target, SumTerm}
use Rattle.bip_explain.specs.declared.expected.Expected.TheVariants.{SumMore, Grant, FirstMoved}
use Rattle.bip_explain.specs.declared.expected.Expected.TheVariants.{MoreMoved, FirstSeen, MoreSeen}
use Rattle.bip_explain.specs.declared.expected.Expected.TheVariants.{End}

-- words behind words
pub behind : (spelling : Spelling) (e n : Expected) (xs ys : List (List ℕ))
    → after_all spelling e xs ≡ Some n → after_all spelling e (xs ++ ys) ≡ after_all spelling n ys
behind spelling e n [] ys at = let same : e ≡ n = cc in
    ap (λ (k : Expected). after_all spelling k ys) same
behind spelling e n (x ∷ xs) ys at = option_and_then_some (λ k. after_all spelling k xs)
    (after_word spelling e x) n at (λ k is led. rw is (behind spelling k n xs ys led))

-- a word in front
step : (spelling : Spelling) (e n : Expected) (x : List ℕ) (xs : List (List ℕ))
    → after_word spelling e x ≡ Some n → after_all spelling e (x ∷ xs) ≡ after_all spelling n xs
step spelling e n x xs at = rw at refl

-- names, pairs, variables and terms
pair_taken : (a b : List ℕ) → IsName a → IsName b → is_pair (pair_word a b) ≡ true
pair_taken a b named other = rw (
  pair_of-name 46 a b refl named,
  is_name-from a named,
  is_name-from b other,
) refl

variable_taken : (spelling : Spelling) (word : List ℕ) (v : VariableName)
    → SpellsVariable spelling word v → is_variable spelling word ≡ true
variable_taken Own word v spells = rw spells.2 (is_name-from v.name spells.1)
variable_taken Shared word v spells = rw spells.4 (pair_taken spells.0 v.name spells.2 spells.3)

term_taken : (spelling : Spelling) (word : List ℕ) (t : Term VariableName)
    → SpellsTerm spelling word t → is_term spelling word ≡ true
term_taken spelling word (Value n) spells = rw spells refl
term_taken spelling word (Of v) spells = rw (variable_taken spelling word v spells)
    (or-true (is_value word))

-- sums, from the place of a term to the one behind it
module _ (spelling : Spelling) (term more : Expected)
    (takes : (word : List ℕ) → is_term spelling word ≡ true
    → after_word spelling term word ≡ Some more)
    (signs : (s : Sign) → after_word spelling more (sign_word s) ≡ Some term) where
  signed_taken : (parts : List (List (List ℕ))) (ts : List (Sign × Term VariableName))
      → AllZip (SpellsSigned spelling) parts ts
      → after_all spelling more (flat_map (λ part. part) parts) ≡ Some more
  signed_taken [] [] spell = refl
  signed_taken (part ∷ parts) (t ∷ ts) spell =
      let s = spell.0 in
      rw (s.says, signs t.0, takes s.term (term_taken spelling s.term t.1 s.spells))
      (signed_taken parts ts spell.1)
  signed_taken parts ts spell = absurd (search)

  sum_taken : (ws : List (List ℕ)) (e : Expr VariableName) → SpellsSum spelling ws e
      → after_all spelling term ws ≡ Some more
  sum_taken ws e s = rw (s.says, takes s.first (term_taken spelling s.first e.first s.begins))
      (signed_taken s.rest e.rest s.goes_on)

sign_taken : (s : Sign) → is_sign (sign_word s) ≡ true
sign_taken Plus = refl
sign_taken Minus = refl

relation_taken : (spelling : Spelling) (r : Relation)
    → after_word spelling LeftMore (relation_word r) ≡ Some RightTerm
relation_taken spelling relation.Equal = refl
relation_taken spelling relation.NotEqual = refl
relation_taken spelling relation.Less = refl
relation_taken spelling relation.LessOrEqual = refl
relation_taken spelling relation.Greater = refl
relation_taken spelling relation.GreaterOrEqual = refl

-- guards and assignments
module _ (spelling : Spelling) where
  left_taken : (ws : List (List ℕ)) (e : Expr VariableName) → SpellsSum spelling ws e
      → after_all spelling LeftTerm ws ≡ Some LeftMore
  left_taken ws e s = sum_taken spelling LeftTerm LeftMore (λ word is. rw is refl)
      (λ sign. rw (sign_taken sign) refl) ws e s

  right_taken : (ws : List (List ℕ)) (e : Expr VariableName) → SpellsSum spelling ws e
      → after_all spelling RightTerm ws ≡ Some RightMore
  right_taken ws e s = sum_taken spelling RightTerm RightMore (λ word is. rw is refl)
      (λ sign. rw (sign_taken sign) refl) ws e s

  assigned_taken : (ws : List (List ℕ)) (e : Expr VariableName) → SpellsSum spelling ws e
      → after_all spelling SumTerm ws ≡ Some SumMore
  assigned_taken ws e s = sum_taken spelling SumTerm SumMore (λ word is. rw is refl)
      (λ sign. rw (sign_taken sign) refl) ws e s

  comparison_taken : (ws : List (List ℕ)) (c : Comparison VariableName)
      → SpellsComparison spelling ws c → after_all spelling LeftTerm ws ≡ Some RightMore
  comparison_taken ws c s =
      rw (
        s.says,
        behind spelling LeftTerm LeftMore s.left (relation_word c.relation
            ∷ s.right) (left_taken s.left c.left s.on_left),
        relation_taken spelling c.relation,
      )
      (right_taken s.right c.right s.on_right)

  assignment_taken : (ws : List (List ℕ)) (a : Assignment VariableName)
      → SpellsAssignment spelling ws a → after_all spelling Target ws ≡ Some SumMore
  assignment_taken ws a s = rw (s.says, variable_taken spelling s.target a.target s.on_left)
      (assigned_taken s.sum a.sum s.on_right)

  -- parts behind their marks
  marked_taken : {P : Type 0} (R : List (List ℕ) → P → Type 0) (first more : Expected)
      (mark : List ℕ) → after_word spelling more mark ≡ Some first
      → ((ws : List (List ℕ)) (p : P) → R ws p → after_all spelling first ws ≡ Some more)
      → (parts : List (List (List ℕ))) (ps : List P) → AllZip R parts ps
      → after_all spelling more (flat_map (λ part. mark ∷ part) parts) ≡ Some more
  marked_taken R first more mark at each [] [] are = refl
  marked_taken R first more mark at each (ws ∷ parts) (p ∷ ps) are =
      step spelling more first mark (ws ++ flat_map (λ part. mark ∷ part) parts) at
      ∙ (behind spelling first more ws (flat_map (λ part. mark ∷ part) parts) (each ws p are.0)
      ∙ marked_taken R first more mark at each parts ps are.1)
  marked_taken R first more mark at each parts ps are = absurd (search)

  -- behind a place at which a line can end
  assigns_taken : (head : Expected) → after_word spelling head (codes "do") ≡ Some Target
      → can_end head ≡ true → (parts : List (List (List ℕ)))
      (assigned : List (Assignment VariableName))
      → AllZip (SpellsAssignment spelling) parts assigned
      → takes_all spelling head (words_of_list (codes "do") (codes ";") (λ part. part) parts) ≡ true
  assigns_taken head goes last [] [] are = last
  assigns_taken head goes last (ws ∷ parts) (a ∷ assigned) are =
      let rest = flat_map (λ (part : List (List ℕ)). codes ";" ∷ part) parts in
      ap ends (step spelling head Target (codes "do") (ws ++ rest) goes
      ∙ (behind spelling Target SumMore ws rest (assignment_taken ws a are.0)
      ∙ marked_taken (SpellsAssignment spelling) Target SumMore
      (codes ";") refl assignment_taken parts assigned are.1))
  assigns_taken head goes last parts assigned are = absurd (search)

  clauses_taken : (head : Expected) → after_word spelling head (codes "when") ≡ Some LeftTerm
      → after_word spelling head (codes "do") ≡ Some Target → can_end head ≡ true
      → (comparing assigning : List (List (List ℕ))) (cs : List (Comparison VariableName))
      (assigned : List (Assignment VariableName))
      → AllZip (SpellsComparison spelling) comparing cs
      → AllZip (SpellsAssignment spelling) assigning assigned
      → takes_all spelling head (words_of_list (codes "when") (codes "and") (λ part. part) comparing
      ++ words_of_list (codes "do") (codes ";") (λ part. part) assigning) ≡ true
  clauses_taken head guards goes last [] assigning [] assigned are also =
      assigns_taken head goes last assigning assigned also
  clauses_taken head guards goes last (ws ∷ comparing) assigning (c ∷ cs) assigned are also =
      let rest = flat_map (λ (part : List (List ℕ)). codes "and" ∷ part) comparing in
      let more = words_of_list (codes "do") (codes ";") (λ part. part) assigning in
      let guard : after_all spelling head (codes "when" ∷ (ws ++ rest)) ≡ Some RightMore
      = step spelling head LeftTerm (codes "when") (ws ++ rest) guards
      ∙ (behind spelling LeftTerm RightMore ws rest (comparison_taken ws c are.0)
      ∙ marked_taken (SpellsComparison spelling) LeftTerm RightMore
      (codes "and") refl comparison_taken comparing cs are.1) in
      ap ends (behind spelling head RightMore (codes "when" ∷ (ws ++ rest)) more guard)
      ∙ assigns_taken RightMore refl refl assigning assigned also
  clauses_taken head guards goes last comparing assigning cs assigned are also = absurd (search)

-- participants and members
pairs_taken : (pairs : List (List ℕ × List ℕ)) → All AreTwoNames pairs
    → after_all Shared MoreParticipants (map (λ pair. pair_word pair.0 pair.1) pairs)
    ≡ Some MoreParticipants
pairs_taken [] all = refl
pairs_taken (pair ∷ pairs) all =
    let named = All-head AreTwoNames pair pairs all in
    rw (pair_taken pair.0 pair.1 named.0 named.1)
    (pairs_taken pairs (All-tail AreTwoNames pair pairs all))

participants_taken : (pairs : List (List ℕ × List ℕ)) → 0 < length pairs → All AreTwoNames pairs
    → after_all Shared FirstParticipant (map (λ pair. pair_word pair.0 pair.1) pairs)
    ≡ Some MoreParticipants
participants_taken [] some all = absurd (omega arith)
participants_taken (pair ∷ pairs) some all =
    let named = All-head AreTwoNames pair pairs all in
    rw (pair_taken pair.0 pair.1 named.0 named.1)
    (pairs_taken pairs (All-tail AreTwoNames pair pairs all))

names_taken : (names : List (List ℕ)) → All IsName names → takes_all Own MoreMembers names ≡ true
names_taken [] all = refl
names_taken (name ∷ names) all = rw (is_name-from name (All-head IsName name names all))
    (names_taken names (All-tail IsName name names all))

members_taken : (names : List (List ℕ)) → 0 < length names → All IsName names
    → takes_all Own FirstMember names ≡ true
members_taken [] some all = absurd (omega arith)
members_taken (name ∷ names) some all = rw (is_name-from name (All-head IsName name names all))
    (names_taken names (All-tail IsName name names all))

-- what is there, by parts
some_there : {A : Type 0} (o : Option A) → is_some o ≡ true → (x : A) × (o ≡ Some x)
some_there None is = absurd (false≢true is)
some_there (Some x) is = (x, refl)

some_mapped : {A B : Type 0} (f : A → B) (o : Option A) → is_some (option_map f o) ≡ true
    → is_some o ≡ true
some_mapped f None is = is
some_mapped f (Some x) is = refl

some_zipped : {A B : Type 0} (a : Option A) (b : Option B) → is_some (option_zip a b) ≡ true
    → (is_some a ≡ true) × (is_some b ≡ true)
some_zipped None b is = absurd (false≢true is)
some_zipped (Some x) None is = absurd (false≢true is)
some_zipped (Some x) (Some y) is = (refl, refl)

some_if : {A : Type 0} (b : Bool) (o : Option A) → is_some (cond b o None) ≡ true → (b ≡ true)
    × (is_some o ≡ true)
some_if true o is = (refl, is)
some_if false o is = absurd (false≢true is)

name_there : (word : List ℕ) → is_some (name_of word) ≡ true → is_name word ≡ true
unfolding name_of
name_there word is = (some_if (is_name word) (Some word) is).0

-- the lines of each form
header_taken : (rest : List (List ℕ)) → is_some (header_form rest) ≡ true
    → takes_all Own One rest ≡ true
unfolding header_form
header_taken (version ∷ []) is = rw (some_if (same_text version (codes "1")) _ is).0 refl
header_taken rest is = absurd (false≢true is)

name_taken : (rest : List (List ℕ)) → is_some (one_name rest) ≡ true
    → takes_all Own Name rest ≡ true
unfolding one_name
name_taken (word ∷ []) is = rw (name_there word is) refl
name_taken rest is = absurd (false≢true is)

var_taken : (rest : List (List ℕ)) → is_some (var_form rest) ≡ true
    → takes_all Own NewVariable rest ≡ true
unfolding var_form
var_taken (name ∷ value ∷ []) is =
    let both = some_zipped (name_of name) (value_said value) (some_mapped _ _ is) in
    rw (name_there name both.0, both.1) refl
var_taken rest is = absurd (false≢true is)

end_taken : (rest : List (List ℕ)) → is_some (end_form rest) ≡ true → takes_all Own End rest ≡ true
unfolding end_form
end_taken [] is = refl
end_taken (word ∷ rest) is = absurd (false≢true is)

priority_taken : (rest : List (List ℕ)) → is_some (priority_form rest) ≡ true
    → takes_all Own LowInteraction rest ≡ true
unfolding priority_form
priority_taken (low ∷ below ∷ high ∷ []) is =
    let parts = some_if (same_text below (codes "<")) _ is in
    let both = some_zipped (name_of low) (name_of high) (some_mapped _ _ parts.1) in
    rw (name_there low both.0, parts.0, name_there high both.1) refl
priority_taken rest is = absurd (false≢true is)

same_names : (names : List (List ℕ)) → map (λ (n : List ℕ). n) names ≡ names
same_names [] = refl
same_names (n ∷ names) = ap (λ (l : List (List ℕ)). n ∷ l) (same_names names)

class_taken : (rest : List (List ℕ)) → is_some (class_form rest) ≡ true
    → takes_all Own ClassName rest ≡ true
unfolding class_form
class_taken rest is =
    let line = some_there (name_and_words name_of rest) (some_mapped _ _ is) in
    let named = named_is name_of (λ (n : List ℕ). n) IsName name_is rest line.0 line.1 in
    rw (named.3, is_name-from line.0.0 named.0)
    (rw (same_names line.0.1) (members_taken line.0.1 named.1 named.2))

-- three names, and what follows them
three_taken : (front more : List (List ℕ)) → is_some (three_names front) ≡ true
    → takes_all Own TransitionEnd more ≡ true → takes_all Own TransitionPort (front ++ more) ≡ true
unfolding three_names
three_taken (first ∷ second ∷ third ∷ []) more is taken =
    let both = some_zipped (name_of first) (two_names (second, third)) is in
    let ends = some_zipped (name_of second) (name_of third) both.1 in
    rw (name_there first both.0, name_there second ends.0, name_there third ends.1) taken
three_taken front more is taken = absurd (false≢true is)

trans_taken : (rest : List (List ℕ)) → is_some (trans_form rest) ≡ true
    → takes_all Own TransitionPort rest ≡ true
unfolding trans_form
trans_taken rest is =
    let both = some_zipped (three_names (head_of rest)) (clauses_form Own rest)
    (some_mapped _ _ is) in
    let clauses = some_there (clauses_form Own rest) both.1 in
    let w = clauses_are Own rest clauses.0 clauses.1 in
    let taken = clauses_taken Own TransitionEnd refl refl refl w.comparing w.assigning clauses.0.0
    clauses.0.1 w.compares w.assigns in
    subst (λ (ws : List (List ℕ)). takes_all Own TransitionPort ws ≡ true) (sym w.says)
    (three_taken (head_of rest) _ both.0 taken)

interaction_taken : (rest : List (List ℕ)) → is_some (interaction_form rest) ≡ true
    → takes_all Shared InteractionName rest ≡ true
unfolding interaction_form
interaction_taken rest is =
    let both = some_zipped (name_and_words participant_of (head_of rest)) (clauses_form Shared rest)
    (some_mapped _ _ is) in
    let line = some_there (name_and_words participant_of (head_of rest)) both.0 in
    let clauses = some_there (clauses_form Shared rest) both.1 in
    let named = named_is participant_of (λ (pair : List ℕ × List ℕ). pair_word pair.0 pair.1)
    AreTwoNames (λ word p h. let pair = pair_is word p h in ((pair.0, pair.1), pair.2))
    (head_of rest) line.0 line.1 in
    let w = clauses_are Shared rest clauses.0 clauses.1 in
    let more : List (List ℕ) = words_of_list (codes "when") (codes "and") (λ part. part) w.comparing
    ++ words_of_list (codes "do") (codes ";") (λ part. part) w.assigning in
    let pairs : List (List ℕ) = map (λ (pair : List ℕ × List ℕ). pair_word pair.0 pair.1)
    line.0.1 in
    let whole : rest ≡ line.0.0 ∷ (pairs ++ more) = w.says
    ∙ ap (λ (ws : List (List ℕ)). ws ++ more) named.3 in
    let along : after_all Shared FirstParticipant (pairs ++ more)
    ≡ after_all Shared MoreParticipants more =
    behind Shared FirstParticipant MoreParticipants pairs more
    (participants_taken line.0.1 named.1 named.2) in
    let taken = clauses_taken Shared MoreParticipants refl refl refl w.comparing w.assigning
    clauses.0.0 clauses.0.1 w.compares w.assigns in
    subst (λ (ws : List (List ℕ)). takes_all Shared InteractionName ws ≡ true) (sym whole)
    (rw (is_name-from line.0.0 named.0) (ap ends along ∙ taken))

either : (a b : Bool) → (a || b) ≡ true → (a ≡ true) ⊎ (b ≡ true)
either true b e = inl refl
either false b e = inr e

-- a line that states something is taken behind its keyword
module _ (keyword : List ℕ) (rest : List (List ℕ)) (start : Expected)
    (states : states_something (keyword ∷ rest) ≡ true) where
  abbrev IsTaken : Type 0
  IsTaken = takes_all (spelling_behind keyword) start rest ≡ true

  by_keyword : (word : List ℕ) (n : Expected) → same_text keyword word ≡ true → n ≡ start
      → (states_something (word ∷ rest) ≡ true → takes_all (spelling_behind word) n rest ≡ true)
      → IsTaken
  by_keyword word n same at taken =
      let first : keyword ≡ word = same_word keyword word same in
      rw (first, sym at) (taken (subst (λ (w : List ℕ). states_something (w ∷ rest) ≡ true) first
      states))

  outside_taken : behind_outside keyword ≡ Some start → IsTaken
  unfolding keyword_of
  outside_taken is = elim (first_some (same_text keyword (codes "component")) Name start _ is) [
    | inl at ↦ by_keyword (codes "component") Name at.0 at.1
        (λ said. name_taken rest (some_mapped _ _ said))
    | inr is1 ↦ elim (first_some (same_text keyword (codes "interaction")) InteractionName start _
        is1) [
          | inl at ↦ by_keyword (codes "interaction") InteractionName at.0 at.1
              (interaction_taken rest)
          | inr is2 ↦ elim (first_some (same_text keyword (codes "priority")) LowInteraction start _
              is2) [
                | inl at ↦ by_keyword (codes "priority") LowInteraction at.0 at.1
                    (priority_taken rest)
                | inr is3 ↦ elim (first_some (same_text keyword (codes "class")) ClassName start
                    None is3) [
                      | inl at ↦ by_keyword (codes "class") ClassName at.0 at.1 (class_taken rest)
                      | inr none ↦ cc
                    ]
              ]
        ]
  ]

  inside_taken : behind_inside keyword ≡ Some start → IsTaken
  unfolding keyword_of
  inside_taken is = elim (first_some (same_text keyword (codes "var")) NewVariable start _ is) [
    | inl at ↦ by_keyword (codes "var") NewVariable at.0 at.1 (var_taken rest)
    | inr is1 ↦ elim (first_some (same_text keyword (codes "loc") || same_text keyword
        (codes "port")) Name start _ is1) [
          | inl at ↦ elim (either (same_text keyword (codes "loc"))
              (same_text keyword (codes "port")) at.0) [
                | inl loc ↦ by_keyword (codes "loc") Name loc at.1
                    (λ said. name_taken rest (some_mapped _ _ said))
                | inr port ↦ by_keyword (codes "port") Name port at.1
                    (λ said. name_taken rest (some_mapped _ _ said))
              ]
          | inr is2 ↦ elim (first_some (same_text keyword (codes "trans")) TransitionPort start _
              is2) [
                | inl at ↦ by_keyword (codes "trans") TransitionPort at.0 at.1 (trans_taken rest)
                | inr is3 ↦ elim (first_some (same_text keyword (codes "end")) End start None is3) [
                  | inl at ↦ by_keyword (codes "end") End at.0 at.1 (end_taken rest)
                  | inr none ↦ cc
                ]
              ]
        ]
  ]

  pub line_taken : (standing : Standing) → behind_keyword standing keyword ≡ Some start → IsTaken
  unfolding keyword_of
  line_taken First is = elim (first_some (same_text keyword (codes "bip")) One start None is) [
    | inl at ↦ by_keyword (codes "bip") One at.0 at.1 (header_taken rest)
    | inr none ↦ cc
  ]
  line_taken Outside is = outside_taken is
  line_taken (Inside component) is = inside_taken is

-- words that lead to a place where a word can't stand, or none can end, are no line
stuck : (spelling : Spelling) (start expected : Expected) (front rest : List (List ℕ))
    (word : List ℕ) → after_all spelling start front ≡ Some expected
    → after_word spelling expected word ≡ None
    → takes_all spelling start (front ++ word ∷ rest) ≡ false
stuck spelling start expected front rest word leads none =
    ap ends (behind spelling start expected front (word ∷ rest) leads) ∙ rw none refl

-- a language whose lines are taken from a place on, behind words in front
module _ (IsLine : List (List ℕ) → Type 0) (spelling : Spelling) (start : Expected)
    (first : List (List ℕ)) (takes : (ws : List (List ℕ)) → IsLine (first ++ ws)
    → takes_all spelling start ws ≡ true) where
  stops_there : (line : List ℕ) (placed : Placed) (expected : Expected)
      (at : IsPlacedOn line placed) → LeadsTo spelling start first at.front expected
      → after_word spelling expected placed.word.now ≡ None
      → NoLineBegins IsLine (at.front ++ placed.word.now ∷ [])
  stops_there line placed expected at (more, split, leads) none rest is =
      let whole : (at.front ++ placed.word.now ∷ []) ++ rest ≡ first
      ++ (more ++ placed.word.now ∷ rest) = rw split (simp append_assoc) in
      false≢true (sym (stuck spelling start expected more rest placed.word.now leads none)
      ∙ takes (more ++ placed.word.now ∷ rest) (subst IsLine whole is))

  ends_there : (line : List ℕ) (expected : Expected)
      → LeadsTo spelling start first (words line) expected → can_end expected ≡ false
      → ¬ IsLine (words line)
  ends_there line expected (more, split, leads) none is =
      false≢true (sym none ∙ (ap ends (sym leads) ∙ takes more (subst IsLine split is)))

  pub no_line : (line : List ℕ) (reason : FormReason)
      → IsFormReason spelling start first line reason → IsNoLine IsLine line reason
  no_line line (Byte column byte) is = tt
  no_line line (Word placed other expected) is =
      (is.0, stops_there line placed expected is.0 is.2 is.3)
  no_line line (LineEnd column other expected) is = ends_there line expected is.2 is.3

suc_eqb : (n : ℕ) → eqb (suc n) 0 ≡ false
suc_eqb n = eqb-suc-zero n

-- the lines of a trace that say a grant
want_taken : (role : Role) (word : List ℕ) (v : _) → want_said role word ≡ Some v
    → is_want word ≡ true
want_taken role word v says = option_and_then_some (want_of role)
    (pair_of colon word) v says by_parts
  where
    by_parts : (parts : List ℕ × List ℕ) → pair_of colon word ≡ Some parts
        → want_of role parts ≡ Some v → is_want word ≡ true
    by_parts parts split of =
        let both = some_if (is_name parts.0) (option_map _ (number_of parts.1)) (ap is_some of) in
        rw (split, both.0, some_mapped _ (number_of parts.1) both.1) refl

-- the first of words of wants, with those before it
want_first : (role : Role) (before : _) (word : List ℕ) (rest : List (List ℕ)) (named : _)
    → option_and_then (λ wants. wants_said role wants rest)
    (option_and_then (with_want before) (want_said role word)) ≡ Some named
    → (is_want word ≡ true) × ((v : _) × (wants_said role (before ++ v ∷ []) rest ≡ Some named))
want_first role before word rest named says =
    option_and_then_some (λ wants. wants_said role wants rest)
    (option_and_then (with_want before) (want_said role word)) named says (λ wants joins later.
    option_and_then_some (with_want before) (want_said role word) wants joins (λ v said joined.
    let parts = some_else (is_named v.name before || nat_le 32 (length before))
    (before ++ v ∷ []) wants joined in
    (want_taken role word v said, (v, rw (← parts) at later))))
  where
    some_else : {A : Type 0} (b : Bool) (x y : A) → cond b None (Some x) ≡ Some y → x ≡ y
    some_else true x y e = cc
    some_else false x y e = cc

seen_taken : (before : _) (ws : List (List ℕ)) (named : _) → wants_said Seen before ws ≡ Some named
    → takes_all Own MoreSeen ws ≡ true
seen_taken before [] named says = refl
seen_taken before (word ∷ rest) named says =
    let first = want_first Seen before word rest named says in
    rw first.0 (seen_taken (before ++ first.1.0 ∷ []) rest named first.1.1)

first_seen_taken : (before : _) (word : List ℕ) (rest : List (List ℕ)) (named : _)
    → wants_said Seen before (word ∷ rest) ≡ Some named
    → takes_all Own FirstSeen (word ∷ rest) ≡ true
first_seen_taken before word rest named says =
    let first = want_first Seen before word rest named says in
    rw first.0 (seen_taken (before ++ first.1.0 ∷ []) rest named first.1.1)

moved_taken : (b : _) (before : _) (ws : List (List ℕ)) (named : _)
    → wants_said Moved (b ∷ before) ws ≡ Some named → takes_all Own MoreMoved ws ≡ true
moved_taken b before [] named says = refl
moved_taken b before (word ∷ rest) named says =
    by_see (same_text word (codes "see")) refl
    (λ v is. moved_taken b (before ++ v ∷ []) rest named is)
  where
    behind_see : (more : List (List ℕ)) → cond (eqb (length more) 0) None
        (wants_said Seen (b ∷ before) more) ≡ Some named → takes_all Own FirstSeen more ≡ true
    behind_see [] says' = cc
    behind_see (w ∷ ws) says' = first_seen_taken (b ∷ before) w ws named
        (rw (suc_eqb (length ws)) at says')

    by_see : (t : Bool) → same_text word (codes "see") ≡ t
        → ((v : _) → wants_said Moved (b ∷ (before ++ v ∷ [])) rest ≡ Some named
        → takes_all Own MoreMoved rest ≡ true) → takes_all Own MoreMoved (word ∷ rest) ≡ true
    by_see true e later = rw e (behind_see rest (rw (e, suc_eqb (length before)) at says))
    by_see false e later =
        let first = want_first Moved (b ∷ before) word rest named (rw e at says) in
        rw (e, first.0) (later first.1.0 first.1.1)

first_moved_taken : (ws : List (List ℕ)) (named : _) → wants_said Moved [] ws ≡ Some named
    → takes_all Own FirstMoved ws ≡ true
first_moved_taken [] named says = cc
first_moved_taken (word ∷ rest) named says = by_see (same_text word (codes "see")) refl
  where
    by_see : (t : Bool) → same_text word (codes "see") ≡ t
        → takes_all Own FirstMoved (word ∷ rest) ≡ true
    by_see true e = let none : None ≡ Some named = rw e at says in cc
    by_see false e =
        let first = want_first Moved [] word rest named (rw e at says) in
        rw first.0 (moved_taken first.1.0 [] rest named first.1.1)

grant_parts : (ws : List (List ℕ)) (h : NamedGrant) → said ws ≡ Ok (Some h) → (more : List (List ℕ))
    × (ws ≡ codes "grant" ∷ h.inter ∷ more) × (is_name h.inter ≡ true)
    × (wants_said Moved [] more ≡ Some h.wants)
grant_parts (word ∷ inter ∷ more) h is = grind (arith, texts.same_text word (codes "grant"))
grant_parts ws h is = cc

pub grant_taken : (ws : List (List ℕ)) → IsGrantWords ws → takes_all Own Grant ws ≡ true
grant_taken ws (g, says) =
    let parts = grant_parts ws g says in
    rw (parts.1, parts.2) (first_moved_taken parts.0 g.wants parts.3)
