-- The words of lines: what is read of them is what they are a line of.
use Rattle.std.proofs.lemmas.List.Splits.{length-slice_split, slice_split_at, slice_split_none}
use Rattle.std.proofs.Common.{◌≡◌, ℕ, ◌<◌, Bool, true, false, cond, List, [], ◌∷◌, ◌++◌, length}
use Rattle.std.proofs.Common.{Option, None, Some, refl, sym, ap, ◌∙◌, subst, arith, append_assoc}
use Rattle.std.proofs.Common.{append-nil}
use Rattle.std.specs.Prelude.{All, codes, is_some}
use Rattle.std.specs.List.{AllZip, flat_map, join_by, onto_first}
use Rattle.std.specs.Option.{option_map, option_map_or, option_zip}
use Rattle.std.proofs.lemmas.List.Elements.{All-append, All-cons, All-nil, All-weaker}
use Rattle.bip_model.specs.declared.expressions.Assignment.{Assignment}
use Rattle.bip_model.specs.declared.expressions.Comparison.{Comparison}
use Rattle.bip_model.specs.declared.scopes.VariableName.{VariableName}
use Rattle.bip_model.specs.Clauses.{ClauseList, assignment_form, assignment_words, clauses_form}
use Rattle.bip_model.specs.Clauses.{comparison_form, guard_words, head_of, list_form, parts_at}
use Rattle.bip_model.specs.Clauses.{words_after, words_before}
use Rattle.bip_reader.specs.Grammar.{IsWithClauses, SpellsAssignment, SpellsComparison}
use Rattle.bip_model.specs.Words.{and_of, cut_at, do_of, each_of, semicolon_of, when_of}
use Rattle.bip_reader.specs.Writing.{words_of_list}
use Rattle.bip_model.specs.declared.clauses.Spelling.{Spelling}
use Rattle.bip_model.specs.declared.words.Do.{Do}
use Rattle.bip_model.specs.declared.words.When.{When}
use Rattle.bip_reader.proofs.ReadBackLemmas.{cut_front, cut_none}
use Rattle.bip_reader.proofs.SpellingLemmas.{IsUnmarked, assignment_back, assignment_is}
use Rattle.bip_reader.proofs.SpellingLemmas.{assignment_unmarked, both_some, comparison_back}
use Rattle.bip_reader.proofs.SpellingLemmas.{comparison_is, comparison_unmarked, cut_says}
use Rattle.bip_reader.proofs.SpellingLemmas.{made_some, same_word}

-- words in parts
abbrev Parts : Type 0
Parts = List (List (List ℕ))

-- parts with a mark between
abbrev joined : List ℕ → Parts → List (List ℕ)
joined mark parts = join_by (λ part. part) (mark ∷ []) parts

-- the parts of words, joined again
parts_join : {M : Type 0} (f : List ℕ → Option M) (mark : List ℕ)
    → ((w : List ℕ) → is_some (f w) ≡ true → w ≡ mark) → (words : List (List ℕ))
    → words ≡ joined mark (parts_at f words)
parts_join f mark is [] = refl
parts_join {M} f mark is (word ∷ rest) =
    by_mark (is_some (f word)) refl (parts_at f rest)
    (rw (length-slice_split (λ w. is_some (f w)) rest) (omega arith))
    (parts_join f mark is rest)
  where
    by_mark : (b : Bool) → is_some (f word) ≡ b → (parts : Parts) → 0 < length parts
        → rest ≡ joined mark parts → word ∷ rest ≡ joined mark
        (cond b ([] ∷ parts) (onto_first word parts))
    by_mark b e [] some same = absurd (omega arith)
    by_mark true e (part ∷ parts) some same = ap (λ (w : List ℕ). w ∷ rest) (is word e)
        ∙ ap (λ (ws : List (List ℕ)). mark ∷ ws) same
    by_mark false e (part ∷ parts) some same = ap (λ (ws : List (List ℕ)). word ∷ ws) same

-- what things are, each by itself
pub each_is : {A P : Type 0} (f : A → Option P) (R : A → P → Type 0)
    → ((x : A) (p : P) → f x ≡ Some p → R x p) → (xs : List A) (ps : List P)
    → each_of f xs ≡ Some ps → AllZip R xs ps
each_is f R reads [] ps e = let same : [] ≡ ps = cc in subst (AllZip R []) same tt
each_is {A} {P} f R reads (x ∷ xs) ps e =
    let made = made_some {B = List P} (λ p. p.0 ∷ p.1) (option_zip (f x) (each_of f xs)) ps e in
    let both = both_some (f x) (each_of f xs) made.0 made.1 in
    subst (AllZip R (x ∷ xs)) made.2 (reads x made.0.0 both.0, each_is f R reads xs made.0.1 both.1)

-- lists, whose parts are read as what they spell
module _ {P M N : Type 0} (part : List (List ℕ) → Option P) (begins : List ℕ → Option N)
    (marks : List ℕ → Option M) (first mark : List ℕ) (R : List (List ℕ) → P → Type 0) where
  abbrev IsListBehind : List (List ℕ) → List (List ℕ) → List P → Type 0
  IsListBehind front words ps = (parts : Parts)
      × (words ≡ front ++ words_of_list first mark (λ part. part) parts) × AllZip R parts ps

  -- what is read as a list is its words
  list_is : ((w : List ℕ) (n : N) → begins w ≡ Some n → w ≡ first)
      → ((w : List ℕ) → is_some (marks w) ≡ true → w ≡ mark)
      → ((ws : List (List ℕ)) (p : P) → part ws ≡ Some p → R ws p)
      → (words : List (List ℕ)) (ps : List P)
      → list_form part marks (words_after begins words) ≡ Some ps
      → IsListBehind (words_before begins words) words ps
  list_is is_first is_mark reads words ps = by_cut (cut_at begins words) refl
    where
      behind : (front after : List (List ℕ)) (parts : Parts) → 0 < length parts
          → after ≡ joined mark parts → front ++ first ∷ after ≡ front ++ words_of_list first mark
          (λ part. part) parts
      behind front after [] some e = absurd (omega arith)
      behind front after (ws ∷ parts) some e = ap (λ (l : List (List ℕ)). front ++ first ∷ l) e

      by_cut : (cut : Option (List (List ℕ) × N × List (List ℕ))) → cut_at begins words ≡ cut
          → list_form part marks (option_map (λ (c : List (List ℕ) × N × List (List ℕ)). c.2) cut)
          ≡ Some ps
          → IsListBehind (option_map_or {U = List (List ℕ)}
          (λ (c : List (List ℕ) × N × List (List ℕ)). c.0) cut words) words ps
      by_cut None at e = let same : [] ≡ ps = cc in
          ([], sym (append-nil words), subst (AllZip R []) same tt)
      by_cut (Some c) at e =
          let says = cut_says begins words c at in
          let parts : Parts = parts_at marks c.2 in
          let some : 0 < length parts = rw (length-slice_split (λ w. is_some (marks w)) c.2)
          (omega arith) in (
            parts,
            says.1 ∙ ap (λ (w : List ℕ). c.0 ++ w ∷ c.2) (is_first says.0 c.1 says.2)
                ∙ behind c.0 c.2 parts some (parts_join marks mark is_mark c.2),
            each_is part R reads parts ps e,
          )

  -- the words of a list are read as it
  module _ (n : N) (starts : begins first ≡ Some n) (parted : is_some (marks mark) ≡ true)
      (back : (ws : List (List ℕ)) (p : P) → R ws p → (part ws ≡ Some p)
      × All (λ w. is_some (marks w) ≡ false) ws) where
    parts_back : (ws : List (List ℕ)) (parts : Parts) (p : P) (ps : List P) → R ws p
        → AllZip R parts ps → each_of part (parts_at marks (ws ++ flat_map (λ r. mark ∷ r) parts))
        ≡ Some (p ∷ ps)
    parts_back ws [] p [] is are =
        let read = back ws p is in
        rw (append-nil ws, slice_split_none (λ w. is_some (marks w)) ws read.1, read.0) refl
    parts_back ws (next ∷ parts) p (q ∷ qs) is are =
        let read = back ws p is in
        rw (
          slice_split_at (λ w. is_some (marks w)) ws mark (next ++ flat_map
              (λ r. mark ∷ r) parts) read.1 parted,
          read.0,
          parts_back next parts q qs are.0 are.1,
        )
        refl
    parts_back ws parts p ps is are = absurd (search)

    list_back : (front : List (List ℕ)) (parts : Parts) (ps : List P)
        → All (λ w. begins w ≡ None) front → AllZip R parts ps
        → (words_before begins (front ++ words_of_list first mark (λ part. part) parts) ≡ front)
        × (list_form part marks (words_after begins
        (front ++ words_of_list first mark (λ part. part) parts)) ≡ Some ps)
    list_back front [] [] none are =
        let no_cut : cut_at begins (front ++ []) ≡ None =
        rw (append-nil front) (cut_none begins front none) in
        (rw no_cut (append-nil front), rw no_cut refl)
    list_back front (ws ∷ parts) (p ∷ ps) none are =
        let cut = cut_front begins front first n
        (ws ++ flat_map (λ r. mark ∷ r) parts) none starts in
        (rw cut refl, rw cut (parts_back ws parts p ps are.0 are.1))
    list_back front parts ps none are = absurd (search)

  -- what holds of a list's words
  list_words : (Q : List ℕ → Type 0) → Q first → Q mark
      → ((ws : List (List ℕ)) (p : P) → R ws p → All Q ws) → (parts : Parts) (ps : List P)
      → AllZip R parts ps → All Q (words_of_list first mark (λ part. part) parts)
  list_words Q at_first at_mark each [] [] are = All-nil Q
  list_words Q at_first at_mark each (ws ∷ parts) (p ∷ ps) are =
      All-cons Q first (ws ++ flat_map (λ r. mark ∷ r) parts) at_first
      (All-append Q ws (flat_map (λ r. mark ∷ r) parts) (each ws p are.0)
      (later parts ps are.1))
    where
      later : (parts : Parts) (ps : List P) → AllZip R parts ps
          → All Q (flat_map (λ r. mark ∷ r) parts)
      later [] [] are = All-nil Q
      later (ws ∷ parts) (p ∷ ps) are = All-append Q (mark ∷ ws) (flat_map (λ r. mark ∷ r) parts)
          (All-cons Q mark ws at_mark (each ws p are.0)) (later parts ps are.1)
      later parts ps are = absurd (search)
  list_words Q at_first at_mark each parts ps are = absurd (search)

-- marks
when_is : (w : List ℕ) (n : When) → when_of w ≡ Some n → w ≡ codes "when"
when_is w n e = grind (arith, same_word w (codes "when"))

do_is : (w : List ℕ) (n : Do) → do_of w ≡ Some n → w ≡ codes "do"
do_is w n e = grind (arith, same_word w (codes "do"))

and_is : (w : List ℕ) → is_some (and_of w) ≡ true → w ≡ codes "and"
and_is w e = grind (arith, same_word w (codes "and"))

semicolon_is : (w : List ℕ) → is_some (semicolon_of w) ≡ true → w ≡ codes ";"
semicolon_is w e = grind (arith, same_word w (codes ";"))

-- what is read as clauses is words and then theirs
pub clauses_are : (spelling : Spelling) (rest : List (List ℕ)) (clauses : ClauseList)
    → clauses_form spelling rest ≡ Some clauses
    → IsWithClauses spelling (head_of rest) rest clauses.0 clauses.1
clauses_are spelling rest clauses e =
    let both = both_some (list_form (comparison_form spelling) and_of (guard_words rest))
    (list_form (assignment_form spelling) semicolon_of (assignment_words rest)) clauses e in
    let outer = list_is (assignment_form spelling) do_of semicolon_of (codes "do") (codes ";")
    (SpellsAssignment spelling) do_is semicolon_is
    (assignment_is spelling) rest clauses.1 both.1 in
    let within = list_is (comparison_form spelling) when_of and_of (codes "when") (codes "and")
    (SpellsComparison spelling) when_is and_is (comparison_is spelling)
    (words_before do_of rest) clauses.0 both.0 in
    record {
      comparing = within.0;
      assigning = outer.0;
      says = outer.1 ∙ ap (λ (ws : List (List ℕ)). ws ++ words_of_list (codes "do") (codes ";")
          (λ part. part) outer.0) within.1
          ∙ append_assoc (head_of rest) (words_of_list (codes "when") (codes "and")
          (λ part. part) within.0) (words_of_list (codes "do") (codes ";")
          (λ part. part) outer.0);
      compares = within.2;
      assigns = outer.2;
    }

-- words that part nothing, and then clauses, are read as these
pub clauses_back : (spelling : Spelling) (first rest : List (List ℕ))
    (guard : List (Comparison VariableName)) (assignments : List (Assignment VariableName))
    → All IsUnmarked first → IsWithClauses spelling first rest guard assignments
    → (head_of rest ≡ first) × (clauses_form spelling rest ≡ Some (guard, assignments))
clauses_back spelling first rest guard assignments plain is =
    let guards : List (List ℕ) = words_of_list (codes "when") (codes "and")
    (λ part. part) is.comparing in
    let settings : List (List ℕ) = words_of_list (codes "do") (codes ";")
    (λ part. part) is.assigning in
    let parts : rest ≡ (first ++ guards) ++ settings = is.says
    ∙ sym (append_assoc first guards settings) in
    let no_do : All (λ w. do_of w ≡ None) (first ++ guards) =
    All-append (λ w. do_of w ≡ None) first guards
    (All-weaker IsUnmarked (λ w. do_of w ≡ None) (λ w u. u.no_do) first plain)
    (list_words (comparison_form spelling) when_of and_of (codes "when") (codes "and")
    (SpellsComparison spelling) (λ w. do_of w ≡ None) refl refl
    (λ ws c spells. All-weaker IsUnmarked (λ w. do_of w ≡ None) (λ w u. u.no_do) ws
    (comparison_unmarked spelling ws c spells)) is.comparing guard is.compares)
    in
    let outer = list_back (assignment_form spelling) do_of semicolon_of (codes "do") (codes ";")
    (SpellsAssignment spelling) (record {}) refl refl
    (λ ws a spells. (
      assignment_back spelling ws a spells,
      All-weaker IsUnmarked (λ w. is_some (semicolon_of w) ≡ false)
          (λ w u. rw u.no_semicolon refl) ws (assignment_unmarked spelling ws a spells),
    ))
    (first ++ guards) is.assigning assignments no_do is.assigns
    in
    let within = list_back (comparison_form spelling) when_of and_of (codes "when") (codes "and")
    (SpellsComparison spelling) (record {}) refl refl
    (λ ws c spells. (
      comparison_back spelling ws c spells,
      All-weaker IsUnmarked (λ w. is_some (and_of w) ≡ false) (λ w u. rw u.no_and refl) ws
          (comparison_unmarked spelling ws c spells),
    ))
    first is.comparing guard (All-weaker IsUnmarked (λ w. when_of w ≡ None)
    (λ w u. u.no_when) first plain) is.compares
    in
    (rw (parts, outer.0) within.0, rw (parts, outer.0, outer.1, within.1) refl)
