-- Lines that state something: what is read of their words is what they are a line of.
use Rattle.std.proofs.lemmas.Bool.Decides.{nat_tests}
use Rattle.std.proofs.Common.{◌≡◌, ℕ, ◌<◌, Bool, true, false, cond, eqb, List, [], ◌∷◌, length, map}
use Rattle.std.proofs.Common.{Option, None, Some, refl, sym, ap, ◌∙◌, subst, arith}
use Rattle.std.specs.Prelude.{All, codes}
use Rattle.std.specs.List.{AllZip}
use Rattle.std.specs.Option.{option_map, option_zip}
use Rattle.std.proofs.lemmas.List.Elements.{All-cons, All-head, All-nil, All-tail}
use Rattle.std.proofs.lemmas.Option.{cond_some}
use Rattle.bip_model.specs.Naming.{IsName, same_text}
use Rattle.bip_model.specs.Texts.{value_said}
use Rattle.bip_model.specs.declared.expressions.Assignment.{Assignment}
use Rattle.bip_model.specs.declared.expressions.Comparison.{Comparison}
use Rattle.bip_model.specs.declared.scopes.VariableName.{VariableName}
use Rattle.bip_model.specs.Clauses.{ClauseList, clauses_form, head_of}
use Rattle.bip_reader.specs.Grammar.{AreTwoNames, IsLineOf, IsWithClauses}
use Rattle.bip_reader.specs.Statements.{class_form, end_form, header_form, interaction_form}
use Rattle.bip_reader.specs.Statements.{keyword_in, keyword_of, name_and_words, one_name}
use Rattle.bip_reader.specs.Statements.{priority_form, statement_of, three_names, trans_form}
use Rattle.bip_reader.specs.Statements.{var_form}
use Rattle.bip_model.specs.Words.{each_of, name_of, participant_of, two_names}
use Rattle.bip_reader.specs.Writing.{pair_word}
use Rattle.bip_model.specs.declared.clauses.Spelling.{Spelling}
use Rattle.bip_model.specs.declared.clauses.Spelling.TheVariants.{Own, Shared}
use Rattle.bip_reader.specs.declared.statements.Keyword.{Keyword}
use Rattle.bip_reader.specs.declared.statements.Keyword.TheVariants as keyword
use Rattle.bip_reader.specs.declared.statements.Statement.{Statement}
use Rattle.bip_reader.specs.declared.statements.Statement.TheVariants as statement
use Rattle.bip_reader.proofs.GrammarLemmas.{clauses_are, clauses_back, each_is}
use Rattle.bip_reader.proofs.SpelledLemmas.{name_no_mark, name_read, pair_no_mark, pair_read}
use Rattle.bip_model.proofs.WordLemmas.{as_many}
use Rattle.bip_reader.proofs.SpellingLemmas.{IsUnmarked, both_some, made_some, name_is, pair_is}
use Rattle.bip_reader.proofs.SpellingLemmas.{passed_some, same_word, unmarked}

-- the word of a keyword
abbrev pub word_of : Keyword → List ℕ
word_of keyword.Bip = codes "bip"
word_of keyword.Component = codes "component"
word_of keyword.Var = codes "var"
word_of keyword.Loc = codes "loc"
word_of keyword.Port = codes "port"
word_of keyword.Trans = codes "trans"
word_of keyword.End = codes "end"
word_of keyword.Interaction = codes "interaction"
word_of keyword.Priority = codes "priority"
word_of keyword.Class = codes "class"

pub keyword_read : (k : Keyword) → keyword_of (word_of k) ≡ Some k
unfolding keyword_of
keyword_read keyword.Bip = refl
keyword_read keyword.Component = refl
keyword_read keyword.Var = refl
keyword_read keyword.Loc = refl
keyword_read keyword.Port = refl
keyword_read keyword.Trans = refl
keyword_read keyword.End = refl
keyword_read keyword.Interaction = refl
keyword_read keyword.Priority = refl
keyword_read keyword.Class = refl

pub keyword_is : (word : List ℕ) (k : Keyword) → keyword_of word ≡ Some k → word ≡ word_of k
unfolding keyword_of
keyword_is word k =
    or keyword.Bip (or keyword.Component (or keyword.Var
    (or keyword.Loc (or keyword.Port (or keyword.Trans
    (or keyword.End (or keyword.Interaction
    (or keyword.Priority (or keyword.Class (λ e. cc))))))))))
  where
    or : (j : Keyword) {rest : Option Keyword} → (rest ≡ Some k → word ≡ word_of k)
        → cond (same_text word (word_of j)) (Some j) rest ≡ Some k → word ≡ word_of k
    or j {rest} else e = by_test (same_text word (word_of j)) refl e
      where
        by_test : (b : Bool) → same_text word (word_of j) ≡ b → cond b (Some j) rest ≡ Some k
            → word ≡ word_of k
        by_test true is e' = let same : j ≡ k = cc in same_word word (word_of j) is
            ∙ ap word_of same
        by_test false is e' = else e'

-- words that are names, or participants
zip_all : {A P : Type 0} (g : P → A) (Q : P → Type 0) (xs : List A) (ps : List P)
    → AllZip (λ x p. Q p × (x ≡ g p)) xs ps → All Q ps × (xs ≡ map g ps)
zip_all g Q [] [] are = (All-nil Q, refl)
zip_all g Q (x ∷ xs) (p ∷ ps) are =
    let later = zip_all g Q xs ps are.1 in
    (All-cons Q p ps are.0.0 later.0, ap (λ y. y ∷ xs) are.0.1 ∙ ap (λ ys. g p ∷ ys) later.1)
zip_all g Q xs ps are = absurd (search)

same_names : (names : List (List ℕ)) → map (λ (n : List ℕ). n) names ≡ names
same_names [] = refl
same_names (n ∷ names) = ap (λ (l : List (List ℕ)). n ∷ l) (same_names names)

each_back : {A P : Type 0} (f : A → Option P) (g : P → A) (Q : P → Type 0)
    → ((p : P) → Q p → f (g p) ≡ Some p) → (ps : List P) → All Q ps → each_of f (map g ps) ≡ Some ps
each_back f g Q read [] all = refl
each_back f g Q read (p ∷ ps) all = rw (
  read p (All-head Q p ps all),
  each_back f g Q read ps (All-tail Q p ps all),
) refl

-- a name, and words behind it
module _ {P : Type 0} (f : List ℕ → Option P) (g : P → List ℕ) (Q : P → Type 0) where
  pub named_is : ((word : List ℕ) (p : P) → f word ≡ Some p → Q p × (word ≡ g p))
      → (rest : List (List ℕ)) (line : List ℕ × List P) → name_and_words f rest ≡ Some line
      → IsName line.0 × (0 < length line.1) × All Q line.1 × (rest ≡ line.0 ∷ map g line.1)
  unfolding name_and_words
  named_is is [] line e = cc
  named_is is (name ∷ []) line e = let both = both_some (name_of name) None line e in cc
  named_is is (name ∷ word ∷ rest) line e =
      let some : eqb (length (word ∷ rest)) 0 ≡ false = grind (arith, nat_tests) in
      let both = both_some (name_of name) (each_of f (word ∷ rest)) line (rw some at e) in
      let named = name_is name line.0 both.0 in
      let words = zip_all g Q (word ∷ rest) line.1
      (each_is f (λ w p. Q p × (w ≡ g p)) is (word ∷ rest) line.1 both.1) in (
        named.0,
        rw (as_many f (word ∷ rest) line.1 both.1) (omega arith),
        words.0,
        ap (λ (w : List ℕ). w ∷ word ∷ rest) named.1
            ∙ ap (λ (ws : List (List ℕ)). line.0 ∷ ws) words.1,
      )

  pub named_back : ((p : P) → Q p → f (g p) ≡ Some p) → (name : List ℕ) (ps : List P) → IsName name
      → 0 < length ps → All Q ps → name_and_words f (name ∷ map g ps) ≡ Some (name, ps)
  unfolding name_and_words
  named_back read name [] named some all = absurd (omega arith)
  named_back read name (p ∷ ps) named some all =
      let more : eqb (length (map g (p ∷ ps))) 0 ≡ false = grind (arith, nat_tests) in
      rw (name_read name named, more) (rw (each_back f g Q read (p ∷ ps) all) refl)

cons_is : (x y : List ℕ) (xs ys : List (List ℕ)) → x ∷ xs ≡ y ∷ ys → (x ≡ y) × (xs ≡ ys)
cons_is x y xs ys e = (cc, cc)

-- one name, and three
one_is : (rest : List (List ℕ)) (name : List ℕ) → one_name rest ≡ Some name → IsName name
    × (rest ≡ name ∷ [])
unfolding one_name
one_is (word ∷ []) name e = let is = name_is word name e in (is.0, ap (λ (w : List ℕ). w ∷ []) is.1)
one_is rest name e = cc

one_back : (rest : List (List ℕ)) (name : List ℕ) → IsName name → rest ≡ name ∷ []
    → one_name rest ≡ Some name
unfolding one_name
one_back rest name named is = rw is (name_read name named)

abbrev Three : Type 0
Three = List ℕ × (List ℕ × List ℕ)

abbrev words_of_three : Three → List (List ℕ)
words_of_three t = t.0 ∷ t.1.0 ∷ t.1.1 ∷ []

three_are : (rest : List (List ℕ)) (t : Three) → three_names rest ≡ Some t
    → All IsName (words_of_three t) × (rest ≡ words_of_three t)
unfolding three_names
three_are (first ∷ second ∷ third ∷ []) t e =
    let both = both_some (name_of first) (two_names (second, third)) t e in
    let ends = both_some (name_of second) (name_of third) t.1 both.1 in
    let one = name_is first t.0 both.0 in
    let two = name_is second t.1.0 ends.0 in
    let three = name_is third t.1.1 ends.1 in (
      All-cons IsName t.0 (t.1.0 ∷ t.1.1 ∷ []) one.0
          (All-cons IsName t.1.0 (t.1.1 ∷ []) two.0
          (All-cons IsName t.1.1 [] three.0 (All-nil IsName))),
      ap (λ (w : List ℕ). w ∷ second ∷ third ∷ []) one.1
          ∙ ap (λ (w : List ℕ). t.0 ∷ w ∷ third ∷ []) two.1
          ∙ ap (λ (w : List ℕ). t.0 ∷ t.1.0 ∷ w ∷ []) three.1,
    )
three_are rest t e = cc

three_back : (t : Three) → All IsName (words_of_three t) → three_names (words_of_three t) ≡ Some t
unfolding three_names
three_back t all =
    let first = All-head IsName t.0 (t.1.0 ∷ t.1.1 ∷ []) all in
    let rest = All-tail IsName t.0 (t.1.0 ∷ t.1.1 ∷ []) all in
    let second = All-head IsName t.1.0 (t.1.1 ∷ []) rest in
    let third = All-head IsName t.1.1 [] (All-tail IsName t.1.0 (t.1.1 ∷ []) rest) in
    rw (name_read t.0 first, name_read t.1.0 second, name_read t.1.1 third) refl

names_unmarked : (names : List (List ℕ)) → All IsName names → All IsUnmarked names
names_unmarked [] all = All-nil IsUnmarked
names_unmarked (n ∷ names) all = All-cons IsUnmarked n names
    (unmarked n (name_no_mark n (All-head IsName n names all)))
    (names_unmarked names (All-tail IsName n names all))

abbrev word_of_pair : List ℕ × List ℕ → List ℕ
word_of_pair pair = pair_word pair.0 pair.1

pairs_unmarked : (pairs : List (List ℕ × List ℕ)) → All AreTwoNames pairs
    → All IsUnmarked (map word_of_pair pairs)
pairs_unmarked [] all = All-nil IsUnmarked
pairs_unmarked (p ∷ pairs) all =
    All-cons IsUnmarked (word_of_pair p) (map word_of_pair pairs)
    (unmarked (word_of_pair p) (pair_no_mark p.0 p.1 (All-head AreTwoNames p pairs all).0))
    (pairs_unmarked pairs (All-tail AreTwoNames p pairs all))

-- words with clauses, behind a keyword
module _ (spelling : Spelling) (word : List ℕ) (guard : List (Comparison VariableName))
    (assignments : List (Assignment VariableName)) where
  behind : (first front rest : List (List ℕ)) → first ≡ front
      → IsWithClauses spelling first rest guard assignments
      → IsWithClauses spelling (word ∷ front) (word ∷ rest) guard assignments
  behind first front rest e is =
      subst (λ (ws : List (List ℕ)). IsWithClauses spelling (word ∷ ws)
      (word ∷ rest) guard assignments) e
      (record {
        comparing = is.comparing;
        assigning = is.assigning;
        says = ap (λ (ws : List (List ℕ)). word ∷ ws) is.says;
        compares = is.compares;
        assigns =
            is.assigns;
      })

  without : (begins : List ℕ) (front rest : List (List ℕ))
      → IsWithClauses spelling (word ∷ front) (begins ∷ rest) guard assignments → (begins ≡ word)
      × IsWithClauses spelling front rest guard assignments
  without begins front rest is =
      let says = cons_is begins word rest _ is.says in (
        says.0,
        record {
          comparing = is.comparing;
          assigning = is.assigning;
          says = says.1;
          compares = is.compares;
          assigns = is.assigns;
        },
      )

-- what is read of a line is what it is a line of
header_is : (rest : List (List ℕ)) (s : Statement) → header_form rest ≡ Some s
    → IsLineOf s (codes "bip" ∷ rest)
unfolding header_form
header_is (version ∷ []) s e =
    let parts = cond_some (same_text version (codes "1")) statement.Header s e in
    subst (λ (t : Statement). IsLineOf t (codes "bip" ∷ version ∷ [])) parts.1
    (ap (λ (w : List ℕ). codes "bip" ∷ w ∷ []) (same_word version (codes "1") parts.0))
header_is rest s e = cc

var_is : (rest : List (List ℕ)) (s : Statement) → var_form rest ≡ Some s
    → IsLineOf s (codes "var" ∷ rest)
unfolding var_form
var_is (name ∷ value ∷ []) s e =
    let made = made_some {B = Statement} (λ v. statement.Var v.0 v.1)
    (option_zip (name_of name) (value_said value)) s e in
    let both = both_some (name_of name) (value_said value) made.0 made.1 in
    let named = name_is name made.0.0 both.0 in
    subst (λ (t : Statement). IsLineOf t (codes "var" ∷ name ∷ value ∷ [])) made.2
    (value, named.0, both.1, ap (λ (w : List ℕ). codes "var" ∷ w ∷ value ∷ []) named.1)
var_is rest s e = cc

trans_is : (rest : List (List ℕ)) (s : Statement) → trans_form rest ≡ Some s
    → IsLineOf s (codes "trans" ∷ rest)
unfolding trans_form
trans_is rest s e =
    let made = made_some {A = Three × ClauseList} {B = Statement}
    (λ t. statement.Trans t.0.0 t.0.1.0 t.0.1.1 t.1.0 t.1.1)
    (option_zip (three_names (head_of rest)) (clauses_form Own rest)) s e in
    let both = both_some (three_names (head_of rest)) (clauses_form Own rest) made.0 made.1 in
    let three = three_are (head_of rest) made.0.0 both.0 in
    let clauses = clauses_are Own rest made.0.1 both.1 in
    subst (λ (t : Statement). IsLineOf t (codes "trans" ∷ rest)) made.2 (
      three.0,
      behind Own (codes "trans") made.0.1.0 made.0.1.1 (head_of rest) (words_of_three
          made.0.0) rest three.1 clauses,
    )

interaction_is : (rest : List (List ℕ)) (s : Statement) → interaction_form rest ≡ Some s
    → IsLineOf s (codes "interaction" ∷ rest)
unfolding interaction_form
interaction_is rest s e =
    let made = made_some {A = (List ℕ × List (List ℕ × List ℕ)) × ClauseList} {B = Statement}
    (λ i. statement.Interaction i.0.0 i.0.1 i.1.0 i.1.1)
    (option_zip (name_and_words participant_of (head_of rest)) (clauses_form Shared rest)) s
    e in
    let both = both_some (name_and_words participant_of (head_of rest))
    (clauses_form Shared rest) made.0 made.1 in
    let named = named_is participant_of word_of_pair AreTwoNames
    (λ word p h. let is = pair_is word p h in ((is.0, is.1), is.2))
    (head_of rest) made.0.0 both.0 in
    let clauses = clauses_are Shared rest made.0.1 both.1 in
    subst (λ (t : Statement). IsLineOf t (codes "interaction" ∷ rest)) made.2 (
      named.0,
      named.1,
      named.2,
      behind Shared (codes "interaction") made.0.1.0 made.0.1.1 (head_of
          rest) (made.0.0.0 ∷ map word_of_pair made.0.0.1) rest named.3 clauses,
    )

priority_is : (rest : List (List ℕ)) (s : Statement) → priority_form rest ≡ Some s
    → IsLineOf s (codes "priority" ∷ rest)
unfolding priority_form
priority_is (low ∷ below ∷ high ∷ []) s e =
    let passed = passed_some (same_text below (codes "<"))
    (option_map {U = Statement} (λ p. statement.Priority p.0 p.1) (two_names (low, high))) s
    e in
    let made = made_some {B = Statement} (λ p. statement.Priority p.0 p.1)
    (two_names (low, high)) s passed.1 in
    let both = both_some (name_of low) (name_of high) made.0 made.1 in
    let one = name_is low made.0.0 both.0 in
    let two = name_is high made.0.1 both.1 in
    let words = ap (λ (w : List ℕ). codes "priority" ∷ w ∷ below ∷ high ∷ []) one.1
    ∙ ap (λ (w : List ℕ). codes "priority" ∷ made.0.0 ∷ w ∷ high ∷ [])
    (same_word below (codes "<") passed.0)
    ∙ ap (λ (w : List ℕ). codes "priority" ∷ made.0.0 ∷ codes "<" ∷ w ∷ []) two.1 in
    subst (λ (t : Statement). IsLineOf t (codes "priority" ∷ low ∷ below ∷ high ∷ [])) made.2
    (one.0, two.0, words)
priority_is rest s e = cc

class_is : (rest : List (List ℕ)) (s : Statement) → class_form rest ≡ Some s
    → IsLineOf s (codes "class" ∷ rest)
unfolding class_form
class_is rest s e =
    let made = made_some {B = Statement} (λ c. statement.Class c.0 c.1)
    (name_and_words name_of rest) s e in
    let named = named_is name_of (λ (n : List ℕ). n) IsName name_is rest made.0 made.1 in
    subst (λ (t : Statement). IsLineOf t (codes "class" ∷ rest)) made.2 (
      named.0,
      named.1,
      named.2,
      ap (λ (ws : List (List ℕ)). codes "class" ∷ ws) (named.3
          ∙ ap (λ (ns : List (List ℕ)). made.0.0 ∷ ns) (same_names made.0.1)),
    )

end_is : (rest : List (List ℕ)) (s : Statement) → end_form rest ≡ Some s
    → IsLineOf s (codes "end" ∷ rest)
unfolding end_form
end_is [] s e = let same : statement.End ≡ s = cc in
    subst (λ (t : Statement). IsLineOf t (codes "end" ∷ [])) same refl
end_is (word ∷ rest) s e = cc

one_line : (word : List ℕ) (f : List ℕ → Statement)
    → ((name : List ℕ) → IsName name → IsLineOf (f name) (word ∷ name ∷ []))
    → (rest : List (List ℕ)) (s : Statement) → option_map f (one_name rest) ≡ Some s
    → IsLineOf s (word ∷ rest)
one_line word f line rest s e =
    let made = made_some f (one_name rest) s e in
    let is = one_is rest made.0 made.1 in
    subst (λ (t : Statement). IsLineOf t (word ∷ rest)) made.2
    (subst (λ (ws : List (List ℕ)). IsLineOf (f made.0) (word ∷ ws)) (sym is.1)
    (line made.0 is.0))

pub statement_is : (k : Keyword) (rest : List (List ℕ)) (s : Statement)
    → statement_of k rest ≡ Some s → IsLineOf s (word_of k ∷ rest)
statement_is keyword.Bip rest s e = header_is rest s e
statement_is keyword.Component rest s e = one_line (codes "component") statement.Component
    (λ name is. (is, refl)) rest s e
statement_is keyword.Var rest s e = var_is rest s e
statement_is keyword.Loc rest s e = one_line (codes "loc") statement.Loc
    (λ name is. (is, refl)) rest s e
statement_is keyword.Port rest s e = one_line (codes "port") statement.Port
    (λ name is. (is, refl)) rest s e
statement_is keyword.Trans rest s e = trans_is rest s e
statement_is keyword.End rest s e = end_is rest s e
statement_is keyword.Interaction rest s e = interaction_is rest s e
statement_is keyword.Priority rest s e = priority_is rest s e
statement_is keyword.Class rest s e = class_is rest s e

-- a line is read as what it is a line of
abbrev IsRead : Statement → List ℕ → List (List ℕ) → Type 0
IsRead s word rest = (word ≡ word_of (keyword_in s)) × (statement_of (keyword_in s) rest ≡ Some s)

pub statement_back : (s : Statement) (word : List ℕ) (rest : List (List ℕ))
    → IsLineOf s (word ∷ rest) → IsRead s word rest
unfolding header_form var_form trans_form end_form interaction_form priority_form class_form
statement_back statement.Header word rest is = let says =
    cons_is word (codes "bip") rest (codes "1" ∷ []) is in (says.0, rw says.1 refl)
statement_back (statement.Component name) word rest is =
    let says = cons_is word (codes "component") rest (name ∷ []) is.1 in
    (says.0, rw (one_back rest name is.0 says.1) refl)
statement_back (statement.Var name value) word rest is =
    let says = cons_is word (codes "var") rest (name ∷ is.0 ∷ []) is.3 in
    (says.0, rw says.1 (rw (name_read name is.1, is.2) refl))
statement_back (statement.Loc name) word rest is =
    let says = cons_is word (codes "loc") rest (name ∷ []) is.1 in
    (says.0, rw (one_back rest name is.0 says.1) refl)
statement_back (statement.Port name) word rest is =
    let says = cons_is word (codes "port") rest (name ∷ []) is.1 in
    (says.0, rw (one_back rest name is.0 says.1) refl)
statement_back (statement.Trans port source target guard update) word rest is =
    let three : Three = (port, (source, target)) in
    let parts = without Own (codes "trans") guard update word (words_of_three three) rest is.1 in
    let read = clauses_back Own (words_of_three three) rest guard update
    (names_unmarked (words_of_three three) is.0) parts.1 in
    (parts.0, rw (read.0, read.1) (rw (three_back three is.0) refl))
statement_back statement.End word rest is = let says = cons_is word (codes "end") rest [] is in
    (says.0, rw says.1 refl)
statement_back (statement.Interaction name participants guard transfer) word rest is =
    let front : List (List ℕ) = name ∷ map word_of_pair participants in
    let parts = without Shared (codes "interaction") guard transfer word front rest is.3 in
    let plain : All IsUnmarked front = All-cons IsUnmarked name (map word_of_pair participants)
    (unmarked name (name_no_mark name is.0)) (pairs_unmarked participants is.2) in
    let read = clauses_back Shared front rest guard transfer plain parts.1 in
    let named = named_back participant_of word_of_pair AreTwoNames
    (λ p two. pair_read p.0 p.1 two.0 two.1) name participants is.0 is.1 is.2 in
    (parts.0, rw (read.0, read.1) (rw named refl))
statement_back (statement.Priority low high) word rest is =
    let says = cons_is word (codes "priority") rest (low ∷ codes "<" ∷ high ∷ []) is.2 in
    (says.0, rw says.1 (rw (name_read low is.0, name_read high is.1) refl))
statement_back (statement.Class name interactions) word rest is =
    let says = cons_is word (codes "class") rest (name ∷ interactions) is.3 in
    let named = named_back name_of (λ (n : List ℕ). n) IsName name_read name interactions is.0 is.1
    is.2 in
    (says.0, rw says.1 (rw (rw (same_names interactions) at named) refl))
