-- Sums, guards and lists of assignments that are written, read again.
use Rattle.std.proofs.Common.{◌≡◌, ℕ, true, false, List, [], ◌∷◌, ◌++◌, get_or, map, Option, None}
use Rattle.std.proofs.Common.{Some, refl, sym, arith, append_assoc, append-nil}
use Rattle.std.specs.Prelude.{All, codes, is_some}
use Rattle.std.specs.List.{flat_map}
use Rattle.std.proofs.lemmas.List.Elements.{All-append, All-cons, All-head, All-tail, All-weaker}
use Rattle.std.proofs.lemmas.List.Splits.{slice_split_at, slice_split_none}
use Rattle.bip_model.specs.Expressions.{AreAssignmentsIn, AreComparisonsIn, IsAssignmentIn}
use Rattle.bip_model.specs.Expressions.{IsComparisonIn, IsExprIn, IsTermIn, IsVariableIn}
use Rattle.bip_model.specs.Scopes.{assignment_with, comparison_with, sum_with, term_with}
use Rattle.bip_model.specs.declared.expressions.Assignment.{Assignment}
use Rattle.bip_model.specs.declared.expressions.Comparison.{Comparison}
use Rattle.bip_model.specs.declared.expressions.Expr.{Expr}
use Rattle.bip_model.specs.declared.expressions.Relation.{Relation}
use Rattle.bip_model.specs.declared.expressions.Relation.TheVariants as relation
use Rattle.bip_model.specs.declared.expressions.Sign.{Sign}
use Rattle.bip_model.specs.declared.expressions.Sign.TheVariants.{Plus, Minus}
use Rattle.bip_model.specs.declared.expressions.Term.{Term}
use Rattle.bip_model.specs.declared.expressions.Term.TheVariants.{Value, Of}
use Rattle.bip_model.specs.declared.expressions.Variable.{Variable}
use Rattle.bip_model.specs.declared.scopes.VariableName.{VariableName}
use Rattle.bip_model.proofs.WrittenLemmas.{IsWord, decimal-word, value_said-decimal}
use Rattle.bip_model.specs.Clauses.{assignment_form, clauses_form, comparison_form, head_of}
use Rattle.bip_model.specs.Clauses.{list_form, pairs_form, parts_at, relation_of, sign_of}
use Rattle.bip_model.specs.Clauses.{signed_term_form, sum_form, term_form, words_after}
use Rattle.bip_model.specs.Clauses.{words_before}
use Rattle.bip_model.specs.Words.{and_of, cut_at, do_of, each_of, semicolon_of, when_of}
use Rattle.bip_reader.specs.Writing.{AreSpelledAssignments, IsSpelledComparison, IsSpelledGuard}
use Rattle.bip_reader.specs.Writing.{IsSpelledSum, IsSpelledTerm, relation_word, sign_word}
use Rattle.bip_reader.specs.Writing.{term_word, words_of_assignment, words_of_assignments}
use Rattle.bip_reader.specs.Writing.{words_of_comparison, words_of_guard, words_of_list}
use Rattle.bip_reader.specs.Writing.{words_of_signed, words_of_sum}
use Rattle.bip_model.specs.declared.clauses.Spelling.{Spelling}
use Rattle.bip_reader.proofs.SpelledLemmas.{IsNoMark, IsVariableWord, value_no_mark}

-- cuts
pub cut_front : {M : Type 0} (f : List ℕ → Option M) (front : List (List ℕ)) (word : List ℕ)
    (mark : M) (back : List (List ℕ)) → All (λ w. f w ≡ None) front → f word ≡ Some mark
    → cut_at f (front ++ word ∷ back) ≡ Some (front, mark, back)
cut_front f [] word mark back none is = rw is refl
cut_front f (w ∷ front) word mark back none is =
    rw (
      All-head (λ v. f v ≡ None) w front none,
      cut_front f front word mark back (All-tail (λ v. f v ≡ None) w front none) is,
    ) refl

pub cut_none : {M : Type 0} (f : List ℕ → Option M) (words : List (List ℕ))
    → All (λ w. f w ≡ None) words → cut_at f words ≡ None
cut_none f [] none = refl
cut_none f (w ∷ words) none = rw (
  All-head (λ v. f v ≡ None) w words none,
  cut_none f words (All-tail (λ v. f v ≡ None) w words none),
) refl

-- signs and relations
pub sign_read : (s : Sign) → sign_of (sign_word s) ≡ Some s
sign_read Plus = refl
sign_read Minus = refl

pub relation_read : (r : Relation) → relation_of (relation_word r) ≡ Some r
relation_read relation.Equal = refl
relation_read relation.NotEqual = refl
relation_read relation.Less = refl
relation_read relation.LessOrEqual = refl
relation_read relation.Greater = refl
relation_read relation.GreaterOrEqual = refl

-- words within parts
pub record IsInner (word : List ℕ) : Type 0 where
  pub no_when : when_of word ≡ None
  pub no_do : do_of word ≡ None
  pub no_and : and_of word ≡ None
  pub no_semicolon : semicolon_of word ≡ None
  pub is_word : IsWord word

pub inner : (word : List ℕ) → IsNoMark word → IsWord word → IsInner word
inner word is word' = record {
  no_when = is.no_when;
  no_do = is.no_do;
  no_and = is.no_and;
  no_semicolon = is.no_semicolon;
  is_word = word';
}

inner_sign : (s : Sign) → IsInner (sign_word s)
inner_sign Plus = record {
  no_when = refl;
  no_do = refl;
  no_and = refl;
  no_semicolon = refl;
  is_word = (refl, refl);
}
inner_sign Minus = record {
  no_when = refl;
  no_do = refl;
  no_and = refl;
  no_semicolon = refl;
  is_word = (refl, refl);
}

inner_relation : (r : Relation) → IsInner (relation_word r)
inner_relation relation.Equal = record {
  no_when = refl;
  no_do = refl;
  no_and = refl;
  no_semicolon = refl;
  is_word = (refl, refl);
}
inner_relation relation.NotEqual = record {
  no_when = refl;
  no_do = refl;
  no_and = refl;
  no_semicolon = refl;
  is_word = (refl, refl);
}
inner_relation relation.Less = record {
  no_when = refl;
  no_do = refl;
  no_and = refl;
  no_semicolon = refl;
  is_word = (refl, refl);
}
inner_relation relation.LessOrEqual = record {
  no_when = refl;
  no_do = refl;
  no_and = refl;
  no_semicolon = refl;
  is_word = (refl, refl);
}
inner_relation relation.Greater = record {
  no_when = refl;
  no_do = refl;
  no_and = refl;
  no_semicolon = refl;
  is_word = (refl, refl);
}
inner_relation relation.GreaterOrEqual = record {
  no_when = refl;
  no_do = refl;
  no_and = refl;
  no_semicolon = refl;
  is_word = (refl, refl);
}

inner_becomes : IsInner (codes ":=")
inner_becomes = record {
  no_when = refl;
  no_do = refl;
  no_and = refl;
  no_semicolon = refl;
  is_word = (refl, refl);
}

pub sign_unrelated : (s : Sign) → relation_of (sign_word s) ≡ None
sign_unrelated Plus = refl
sign_unrelated Minus = refl

-- words of a list of parts
list_words : {P : Type 0} (Q : List ℕ → Type 0) (first mark : List ℕ) (f : P → List (List ℕ))
    (ps : List P) → Q first → Q mark → All (λ p. All Q (f p)) ps
    → All Q (words_of_list first mark f ps)
list_words {P} Q first mark f [] is marks all = λ k d within. absurd (omega arith)
list_words {P} Q first mark f (p ∷ ps) is marks all =
    All-cons Q first (f p ++ flat_map (λ r. mark ∷ f r) ps) is
    (All-append Q (f p) (flat_map (λ r. mark ∷ f r) ps) (All-head (λ q. All Q (f q)) p ps all)
    (later ps (All-tail (λ q. All Q (f q)) p ps all)))
  where
    later : (qs : List P) → All (λ q. All Q (f q)) qs → All Q (flat_map (λ r. mark ∷ f r) qs)
    later [] each = λ k d within. absurd (omega arith)
    later (q ∷ qs) each =
        All-append Q (mark ∷ f q) (flat_map (λ r. mark ∷ f r) qs)
        (All-cons Q mark (f q) marks (All-head (λ r. All Q (f r)) q qs each))
        (later qs (All-tail (λ r. All Q (f r)) q qs each))

-- parts with a mark between are read as what each part is read as
parts_read : {P B M : Type 0} (part : List (List ℕ) → Option B) (marks : List ℕ → Option M)
    (f : P → List (List ℕ)) (g : P → B) (mark : List ℕ) (p : P) (ps : List P)
    → is_some (marks mark) ≡ true → All (λ q. (part (f q) ≡ Some (g q))
    × All (λ w. is_some (marks w) ≡ false) (f q)) (p ∷ ps)
    → each_of part (parts_at marks (f p ++ flat_map (λ r. mark ∷ f r) ps)) ≡ Some (map g (p ∷ ps))
parts_read {P} part marks f g mark p [] is all =
    let first = All-head (λ q. (part (f q) ≡ Some (g q))
    × All (λ w. is_some (marks w) ≡ false) (f q)) p [] all in
    rw (append-nil (f p), slice_split_none (λ w. is_some (marks w)) (f p) first.1, first.0) refl
parts_read {P} part marks f g mark p (q ∷ qs) is all =
    let first = All-head (λ q. (part (f q) ≡ Some (g q))
    × All (λ w. is_some (marks w) ≡ false) (f q)) p (q ∷ qs) all in
    let later = parts_read part marks f g mark q qs is
    (All-tail (λ q. (part (f q) ≡ Some (g q)) × All (λ w. is_some (marks w) ≡ false) (f q)) p
    (q ∷ qs) all) in
    rw (
      slice_split_at (λ w. is_some (marks w)) (f p) mark (f q ++ flat_map
          (λ r. mark ∷ f r) qs) first.1 is,
      first.0,
      later,
    ) refl

-- the list behind its first word, and what stands before it
list_read : {P B M N : Type 0} (part : List (List ℕ) → Option B) (begins : List ℕ → Option N)
    (marks : List ℕ → Option M) (f : P → List (List ℕ)) (g : P → B) (first mark : List ℕ) (n : N)
    (front : List (List ℕ)) (ps : List P)
    → begins first ≡ Some n → is_some (marks mark) ≡ true → All (λ w. begins w ≡ None) front
    → All (λ q. (part (f q) ≡ Some (g q)) × All (λ w. is_some (marks w) ≡ false) (f q)) ps
    → (words_before begins (front ++ words_of_list first mark f ps) ≡ front)
    × (list_form part marks (words_after begins (front ++ words_of_list first mark f ps))
    ≡ Some (map g ps))
list_read part begins marks f g first mark n front [] is marked none all =
    let no_cut : cut_at begins (front ++ []) ≡ None =
    rw (append-nil front) (cut_none begins front none) in
    (rw no_cut (append-nil front), rw no_cut refl)
list_read part begins marks f g first mark n front (p ∷ ps) is marked none all =
    let cut = cut_front begins front first n (f p ++ flat_map (λ r. mark ∷ f r) ps) none is in
    (rw cut refl, rw cut (parts_read part marks f g mark p ps marked all))

-- expressions over variables that are spelled and read
module _ (spelling : Spelling) (counts : List ℕ) (spell : Variable → List ℕ)
    (name : Variable → VariableName)
    (is : (v : Variable) → IsVariableIn counts v → IsVariableWord spelling (spell v) (name v)) where
  term_read : (t : Term Variable) → IsTermIn counts t → IsSpelledTerm t
      → term_form spelling (term_word spell t) ≡ Some (term_with name t)
  term_read (Value n) there small = rw (value_said-decimal n small) refl
  term_read (Of v) there small = rw ((is v there).no_value, (is v there).read) refl

  term_no_mark : (t : Term Variable) → IsTermIn counts t → IsSpelledTerm t
      → IsNoMark (term_word spell t) × IsWord (term_word spell t)
  term_no_mark (Value n) there small = (value_no_mark n (omega arith), decimal-word n (omega arith))
  term_no_mark (Of v) there small = ((is v there).no_mark, (is v there).is_word)

  pairs_read : (ts : List (Sign × Term Variable))
      → All (λ (t : Sign × Term Variable). IsTermIn counts t.1) ts
      → All (λ (t : Sign × Term Variable). IsSpelledTerm t.1) ts
      → pairs_form (signed_term_form spelling) (flat_map (words_of_signed spell) ts)
      ≡ Some (map (λ t. (t.0, term_with name t.1)) ts)
  pairs_read [] there small = refl
  pairs_read (t ∷ ts) there small =
      let later = pairs_read ts (All-tail (λ (u : Sign × Term Variable). IsTermIn counts u.1) t ts
      there) (All-tail (λ (u : Sign × Term Variable). IsSpelledTerm u.1) t ts small) in
      rw (
        sign_read t.0,
        term_read t.1 (All-head
            (λ (u : Sign × Term Variable). IsTermIn counts u.1) t ts there)
            (All-head (λ (u : Sign × Term Variable). IsSpelledTerm u.1) t ts small),
        later,
      ) refl

  sum_read : (e : Expr Variable) → IsExprIn counts e → IsSpelledSum e
      → sum_form spelling (words_of_sum spell e) ≡ Some (sum_with name e)
  sum_read e there small = rw (
    term_read e.first there.first small.first,
    pairs_read e.rest there.rest small.rest,
  ) refl

  pairs_words : (Q : List ℕ → Type 0) → ((s : Sign) → Q (sign_word s))
      → ((t : Term Variable) → IsTermIn counts t → IsSpelledTerm t → Q (term_word spell t))
      → (ts : List (Sign × Term Variable)) → All
      (λ (t : Sign × Term Variable). IsTermIn counts t.1) ts
      → All (λ (t : Sign × Term Variable). IsSpelledTerm t.1) ts
      → All Q (flat_map (words_of_signed spell) ts)
  pairs_words Q signs terms [] there small = λ k d within. absurd (omega arith)
  pairs_words Q signs terms (t ∷ ts) there small =
      let later = pairs_words Q signs terms ts
      (All-tail (λ (u : Sign × Term Variable). IsTermIn counts u.1) t ts there)
      (All-tail (λ (u : Sign × Term Variable). IsSpelledTerm u.1) t ts small) in
      All-cons Q (sign_word t.0) (term_word spell t.1 ∷ flat_map (words_of_signed spell) ts)
      (signs t.0)
      (All-cons Q (term_word spell t.1) (flat_map (words_of_signed spell) ts)
      (terms t.1 (All-head (λ (u : Sign × Term Variable). IsTermIn counts u.1) t ts there)
      (All-head (λ (u : Sign × Term Variable). IsSpelledTerm u.1) t ts small)) later)

  sum_words : (Q : List ℕ → Type 0) → ((s : Sign) → Q (sign_word s))
      → ((t : Term Variable) → IsTermIn counts t → IsSpelledTerm t → Q (term_word spell t))
      → (e : Expr Variable) → IsExprIn counts e → IsSpelledSum e → All Q (words_of_sum spell e)
  sum_words Q signs terms e there small =
      All-cons Q (term_word spell e.first) (flat_map (words_of_signed spell) e.rest)
      (terms e.first there.first small.first)
      (pairs_words Q signs terms e.rest there.rest small.rest)

  sum_inner : (e : Expr Variable) → IsExprIn counts e → IsSpelledSum e
      → All IsInner (words_of_sum spell e)
  sum_inner = sum_words IsInner inner_sign (λ t there small. inner (term_word spell t)
      (term_no_mark t there small).0 (term_no_mark t there small).1)

  sum_unrelated : (e : Expr Variable) → IsExprIn counts e → IsSpelledSum e
      → All (λ w. relation_of w ≡ None) (words_of_sum spell e)
  sum_unrelated = sum_words (λ w. relation_of w ≡ None) sign_unrelated
      (λ t there small. (term_no_mark t there small).0.no_relation)

  comparison_read : (c : Comparison Variable) → IsComparisonIn counts c → IsSpelledComparison c
      → comparison_form spelling (words_of_comparison spell c) ≡ Some (comparison_with name c)
  comparison_read c there small =
      rw (cut_front relation_of (words_of_sum spell c.left) (relation_word c.relation) c.relation
      (words_of_sum spell c.right) (sum_unrelated c.left there.left small.left)
      (relation_read c.relation))
      (rw (sum_read c.left there.left small.left, sum_read c.right there.right small.right) refl)

  comparison_inner : (c : Comparison Variable) → IsComparisonIn counts c → IsSpelledComparison c
      → All IsInner (words_of_comparison spell c)
  comparison_inner c there small =
      All-append IsInner (words_of_sum spell c.left)
      (relation_word c.relation ∷ words_of_sum spell c.right)
      (sum_inner c.left there.left small.left)
      (All-cons IsInner (relation_word c.relation) (words_of_sum spell c.right)
      (inner_relation c.relation) (sum_inner c.right there.right small.right))

  assignment_read : (a : Assignment Variable) → IsAssignmentIn counts a → IsSpelledSum a.sum
      → assignment_form spelling (words_of_assignment spell a) ≡ Some (assignment_with name a)
  assignment_read a there small = rw (
    (is a.target there.target).read,
    sum_read a.sum there.sum small,
  ) refl

  assignment_inner : (a : Assignment Variable) → IsAssignmentIn counts a → IsSpelledSum a.sum
      → All IsInner (words_of_assignment spell a)
  assignment_inner a there small =
      let target = is a.target there.target in
      All-cons IsInner (spell a.target) (codes ":=" ∷ words_of_sum spell a.sum)
      (inner (spell a.target) target.no_mark target.is_word)
      (All-cons IsInner (codes ":=") (words_of_sum spell a.sum) inner_becomes
      (sum_inner a.sum there.sum small))

  module _ (front : List (List ℕ)) (guard : List (Comparison Variable))
      (update : List (Assignment Variable)) (all : All IsInner front)
      (guard_in : AreComparisonsIn counts guard) (guard_small : IsSpelledGuard guard)
      (update_in : AreAssignmentsIn counts update)
      (update_small : AreSpelledAssignments update) where
    guard_inner : All (λ c. All IsInner (words_of_comparison spell c)) guard
    guard_inner = λ k d within. comparison_inner _ (guard_in k d within) (guard_small k d within)

    update_inner : All (λ a. All IsInner (words_of_assignment spell a)) update
    update_inner = λ k d within. assignment_inner _ (update_in k d within) (update_small k d within)

    -- all can stand as words
    pub clause_words : All IsWord (front ++ (words_of_guard spell guard
        ++ words_of_assignments spell update))
    clause_words =
        let plain : (ws : List (List ℕ)) → All IsInner ws → All IsWord ws =
        λ ws each. All-weaker IsInner IsWord (λ w i. i.is_word) ws each in
        All-append IsWord front (words_of_guard spell guard ++ words_of_assignments spell update)
        (plain front all)
        (All-append IsWord (words_of_guard spell guard) (words_of_assignments spell update)
        (list_words IsWord (codes "when") (codes "and") (words_of_comparison spell) guard
        (refl, refl) (refl, refl) (All-weaker (λ c. All IsInner (words_of_comparison spell c))
        (λ c. All IsWord (words_of_comparison spell c))
        (λ c each. plain (words_of_comparison spell c) each) guard guard_inner))
        (list_words IsWord (codes "do") (codes ";") (words_of_assignment spell) update (refl, refl)
        (refl, refl) (All-weaker (λ a. All IsInner (words_of_assignment spell a))
        (λ a. All IsWord (words_of_assignment spell a))
        (λ a each. plain (words_of_assignment spell a) each) update update_inner)))

    no_do : All (λ w. do_of w ≡ None) (front ++ words_of_guard spell guard)
    no_do =
        let quiet : (ws : List (List ℕ)) → All IsInner ws → All (λ w. do_of w ≡ None) ws =
        λ ws each. All-weaker IsInner (λ w. do_of w ≡ None) (λ w i. i.no_do) ws each in
        All-append (λ w. do_of w ≡ None) front (words_of_guard spell guard) (quiet front all)
        (list_words (λ w. do_of w ≡ None) (codes "when") (codes "and")
        (words_of_comparison spell) guard refl refl
        (All-weaker (λ c. All IsInner (words_of_comparison spell c))
        (λ c. All (λ w. do_of w ≡ None) (words_of_comparison spell c))
        (λ c each. quiet (words_of_comparison spell c) each) guard guard_inner))

    -- the words before them are cut off, and they are read again
    pub clauses_read : (head_of (front ++ (words_of_guard spell guard
        ++ words_of_assignments spell update)) ≡ front)
        × (clauses_form spelling (front ++ (words_of_guard spell guard
        ++ words_of_assignments spell update))
        ≡ Some (map (comparison_with name) guard, map (assignment_with name) update))
    clauses_read =
        let parts : front ++ (words_of_guard spell guard ++ words_of_assignments spell update)
        ≡ (front ++ words_of_guard spell guard) ++ words_of_assignments spell update =
        sym (append_assoc front (words_of_guard spell guard) (words_of_assignments spell update))
        in
        let outer = list_read (assignment_form spelling) do_of semicolon_of
        (words_of_assignment spell) (assignment_with name) (codes "do") (codes ";") (record {})
        (front ++ words_of_guard spell guard) update refl refl no_do
        (λ k d within. (
          assignment_read _ (update_in k d within) (update_small k d within),
          All-weaker IsInner (λ w. is_some (semicolon_of w) ≡ false)
              (λ w i. rw i.no_semicolon refl) (words_of_assignment spell (get_or update k d))
              (update_inner k d within),
        )) in
        let within = list_read (comparison_form spelling) when_of and_of (words_of_comparison spell)
        (comparison_with name) (codes "when") (codes "and") (record {}) front guard refl refl
        (All-weaker IsInner (λ w. when_of w ≡ None) (λ w i. i.no_when) front all)
        (λ k d below. (
          comparison_read _ (guard_in k d below) (guard_small k d below),
          All-weaker IsInner (λ w. is_some (and_of w) ≡ false) (λ w i. rw i.no_and refl)
              (words_of_comparison spell (get_or guard k d)) (guard_inner k d below),
        )) in
        (rw (parts, outer.0) within.0, rw (parts, outer.0, outer.1, within.1) refl)
