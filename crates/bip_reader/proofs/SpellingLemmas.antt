-- Words that spell terms, sums and clauses: what is read of them, and that nothing else is.
use Rattle.std.proofs.Common.{◌≡◌, ℕ, ◌+◌, Bool, true, false, cond, eqb, eqb-true, List, [], ◌∷◌}
use Rattle.std.proofs.Common.{◌++◌, take, drop, get_or, position, Option, None, Some, refl, sym, ap}
use Rattle.std.proofs.Common.{◌∙◌, subst, inl, inr, arith}
use Rattle.std.specs.Prelude.{◌⊎◌, All, codes}
use Rattle.std.specs.List.{AllZip, flat_map}
use Rattle.std.specs.Option.{option_map, option_map_or, option_zip}
use Rattle.std.specs.Cmp.Lexicographic as texts
use Rattle.std.proofs.lemmas.List.{drop_more, take-append-drop}
use Rattle.std.proofs.lemmas.List.Quantifiers.{position-Some}
use Rattle.std.proofs.lemmas.List.Elements.{All-append, All-cons, All-nil}
use Rattle.std.proofs.lemmas.Option.{cond_some, option_and_then_some}
use Rattle.bip_model.specs.Naming.{IsName, is_name, same_text}
use Rattle.bip_model.specs.Texts.{pair_of, value_said}
use Rattle.bip_model.specs.declared.expressions.Assignment.{Assignment}
use Rattle.bip_model.specs.declared.expressions.Comparison.{Comparison}
use Rattle.bip_model.specs.declared.expressions.Expr.{Expr}
use Rattle.bip_model.specs.declared.expressions.Relation.{Relation}
use Rattle.bip_model.specs.declared.expressions.Relation.TheVariants as relation
use Rattle.bip_model.specs.declared.expressions.Sign.{Sign}
use Rattle.bip_model.specs.declared.expressions.Sign.TheVariants.{Plus, Minus}
use Rattle.bip_model.specs.declared.expressions.Term.{Term}
use Rattle.bip_model.specs.declared.expressions.Term.TheVariants.{Value, Of}
use Rattle.bip_model.specs.declared.scopes.VariableName.{VariableName}
use Rattle.bip_model.specs.Clauses.{assignment_form, comparison_form, pairs_form, relation_of}
use Rattle.bip_model.specs.Clauses.{sign_of, signed_term_form, sum_form, term_form, variable_form}
use Rattle.bip_reader.specs.Grammar.{SpellsAssignment, SpellsComparison, SpellsSigned, SpellsSum}
use Rattle.bip_reader.specs.Grammar.{SpellsTerm, SpellsVariable}
use Rattle.bip_model.specs.Words.{and_of, cut_at, do_of, dot, name_of, participant_of, semicolon_of}
use Rattle.bip_model.specs.Words.{two_names, when_of}
use Rattle.bip_reader.specs.Writing.{pair_word, relation_word, sign_word}
use Rattle.bip_model.specs.declared.clauses.Spelling.{Spelling}
use Rattle.bip_model.specs.declared.clauses.Spelling.TheVariants.{Own, Shared}
use Rattle.bip_reader.proofs.ReadBackLemmas.{cut_front, relation_read, sign_read, sign_unrelated}
use Rattle.bip_reader.proofs.SpelledLemmas.{IsNoMark, IsVariableWord, digits_no_mark, own_spelled}
use Rattle.bip_reader.proofs.SpelledLemmas.{shared_spelled}

-- what was read in two parts, or made of another thing
pub both_some : {A B : Type 0} (a : Option A) (b : Option B) (p : A × B) → option_zip a b ≡ Some p
    → (a ≡ Some p.0) × (b ≡ Some p.1)
both_some None b p e = cc
both_some (Some x) None p e = cc
both_some (Some x) (Some y) p e = let same : (x, y) ≡ p = cc in
    (ap (λ q. Some q.0) same, ap (λ q. Some q.1) same)

pub made_some : {A B : Type 0} (f : A → B) (a : Option A) (y : B) → option_map f a ≡ Some y
    → (x : A) × (a ≡ Some x) × (f x ≡ y)
made_some f None y e = cc
made_some f (Some x) y e = (x, refl, cc)

pub passed_some : {A : Type 0} (b : Bool) (o : Option A) (y : A) → cond b o None ≡ Some y
    → (b ≡ true) × (o ≡ Some y)
passed_some true o y e = (refl, e)
passed_some false o y e = cc

pub first_some : {A : Type 0} (b : Bool) (x y : A) (rest : Option A) → cond b (Some x) rest ≡ Some y
    → ((b ≡ true) × (x ≡ y)) ⊎ (rest ≡ Some y)
first_some true x y rest e = inl (refl, cc)
first_some false x y rest e = inr e

pub same_word : (word text : List ℕ) → same_text word text ≡ true → word ≡ text
same_word word text e = texts.same_text word text (sym e)

-- names
passes_name : (word : List ℕ) → is_name word ≡ true → IsName word
passes_name word e = grind arith

pub name_is : (word name : List ℕ) → name_of word ≡ Some name → IsName name × (word ≡ name)
unfolding name_of
name_is word name e = let parts = cond_some (is_name word) word name e in
    (subst IsName parts.1 (passes_name word parts.0), parts.1)

dotted_at : (word : List ℕ) (i : ℕ) → position (λ b. eqb b 46) word ≡ Some i
    → word ≡ take i word ++ 46 ∷ drop (i + 1) word
dotted_at word i at =
    let here = position-Some (λ b. eqb b 46) word i 0 at in
    let dot_is : drop i word ≡ 46 ∷ drop (i + 1) word =
    rw (eqb-true (get_or word i 0) 46 here.1) at (drop_more word i 0 here.0) in
    sym (take-append-drop i word) ∙ ap (λ (bs : List ℕ). take i word ++ bs) dot_is

parts_of : (word : List ℕ) (parts : List ℕ × List ℕ) → pair_of dot word ≡ Some parts
    → word ≡ pair_word parts.0 parts.1
parts_of word parts is =
    let at : (i : ℕ) × (position (λ b. eqb b 46) word ≡ Some i)
    × ((take i word, drop (i + 1) word) ≡ parts) = grind arith in
    rw (← at.2) (dotted_at word at.0 at.1)

pub pair_is : (word : List ℕ) (pair : List ℕ × List ℕ) → participant_of word ≡ Some pair
    → IsName pair.0 × IsName pair.1 × (word ≡ pair_word pair.0 pair.1)
pair_is word pair e =
    option_and_then_some two_names (pair_of dot word) pair e (λ parts split named.
    let both = both_some (name_of parts.0) (name_of parts.1) pair named in
    let first = name_is parts.0 pair.0 both.0 in
    let second = name_is parts.1 pair.1 both.1 in (
      first.0,
      second.0,
      parts_of word parts split ∙ ap (λ (c : List ℕ). pair_word c
          parts.1) first.1 ∙ ap (λ (p : List ℕ). pair_word pair.0 p) second.1,
    ))

-- variables
variable_is : (spelling : Spelling) (word : List ℕ) (v : VariableName)
    → variable_form spelling word ≡ Some v → SpellsVariable spelling word v
variable_is Own word v e =
    let made = made_some {B = VariableName} (λ name. record { owner = None; name = name })
    (name_of word) v e in
    let is = name_is word made.0 made.1 in
    subst (SpellsVariable Own word) made.2 (refl, is.0, is.1)
variable_is Shared word v e =
    let made = made_some {B = VariableName} (λ (pair : List ℕ × List ℕ).
    record { owner = Some pair.0; name = pair.1 }) (participant_of word) v e in
    let is = pair_is word made.0 made.1 in
    subst (SpellsVariable Shared word) made.2 (made.0.0, refl, is.0, is.1, is.2)

variable_word : (spelling : Spelling) (word : List ℕ) (v : VariableName)
    → SpellsVariable spelling word v → IsVariableWord spelling word v
variable_word Own word v is =
    let same : ◌≡◌ {A = VariableName} (record { owner = None; name = v.name }) v =
    ap (λ (o : Option (List ℕ)). record { owner = o; name = v.name }) (sym is.0) in
    subst (λ (w : List ℕ). IsVariableWord Own w v) (sym is.2)
    (subst (IsVariableWord Own v.name) same (own_spelled v.name is.1))
variable_word Shared word v is =
    let same : ◌≡◌ {A = VariableName} (record { owner = Some is.0; name = v.name }) v =
    ap (λ (o : Option (List ℕ)). record { owner = o; name = v.name }) (sym is.1) in
    subst (λ (w : List ℕ). IsVariableWord Shared w v) (sym is.4)
    (subst (IsVariableWord Shared (pair_word is.0 v.name)) same
    (shared_spelled is.0 v.name is.2 is.3))

-- terms
term_is : (spelling : Spelling) (word : List ℕ) (t : Term VariableName)
    → term_form spelling word ≡ Some t → SpellsTerm spelling word t
term_is spelling word t = by_value (value_said word) refl
  where
    by_value : (o : Option ℕ) → value_said word ≡ o
        → option_map_or {U = Option (Term VariableName)} (λ (n : ℕ). Some (Value n)) o
        (option_map Of (variable_form spelling word)) ≡ Some t → SpellsTerm spelling word t
    by_value (Some n) is e = let same : Value n ≡ t = cc in subst (SpellsTerm spelling word) same is
    by_value None is e = let made = made_some Of (variable_form spelling word) t e in
        subst (SpellsTerm spelling word) made.2 (variable_is spelling word made.0 made.1)

term_back : (spelling : Spelling) (word : List ℕ) (t : Term VariableName)
    → SpellsTerm spelling word t → term_form spelling word ≡ Some t
term_back spelling word (Value n) is = rw is refl
term_back spelling word (Of v) is = let spelled = variable_word spelling word v is in
    rw (spelled.no_value, spelled.read) refl

numeral_no_mark : (word : List ℕ) (n : ℕ) → value_said word ≡ Some n → IsNoMark word
numeral_no_mark word n is = digits_no_mark word (grind arith) (grind arith)

term_no_mark : (spelling : Spelling) (word : List ℕ) (t : Term VariableName)
    → SpellsTerm spelling word t → IsNoMark word
term_no_mark spelling word (Value n) is = numeral_no_mark word n is
term_no_mark spelling word (Of v) is = (variable_word spelling word v is).no_mark

-- signs and relations
sign_is : (word : List ℕ) (s : Sign) → sign_of word ≡ Some s → word ≡ sign_word s
sign_is word s e = grind (arith, same_word word (codes "+"), same_word word (codes "-"))

relation_is : (word : List ℕ) (r : Relation) → relation_of word ≡ Some r → word ≡ relation_word r
relation_is word r e = grind (
  arith,
  same_word word (codes "="),
  same_word word (codes "!="),
  same_word word (codes "<"),
  same_word word (codes "<="),
  same_word word (codes ">"),
  same_word word (codes ">="),
)

-- sums
abbrev AreSigned : Spelling → List (List ℕ) → List (Sign × Term VariableName) → Type 0
AreSigned spelling words ts = (parts : List (List (List ℕ)))
    × (words ≡ flat_map (λ part. part) parts) × AllZip (SpellsSigned spelling) parts ts

pairs_are : (spelling : Spelling) (words : List (List ℕ)) (ts : List (Sign × Term VariableName))
    → pairs_form (signed_term_form spelling) words ≡ Some ts → AreSigned spelling words ts
pairs_are spelling [] ts e = let same : [] ≡ ts = cc in
    subst (AreSigned spelling []) same ([], refl, tt)
pairs_are spelling (sign ∷ []) ts e = cc
pairs_are spelling (sign ∷ term ∷ rest) ts e =
    let made = made_some {B = List (Sign × Term VariableName)} (λ p. p.0 ∷ p.1)
    (option_zip (signed_term_form spelling sign term)
    (pairs_form (signed_term_form spelling) rest)) ts e in
    let both = both_some (signed_term_form spelling sign term)
    (pairs_form (signed_term_form spelling) rest) made.0 made.1 in
    let first = both_some (sign_of sign) (term_form spelling term) made.0.0 both.0 in
    let later = pairs_are spelling rest made.0.1 both.1 in
    subst (AreSigned spelling (sign ∷ term ∷ rest)) made.2 (
      (sign ∷ term ∷ []) ∷ later.0,
      ap (λ (ws : List (List ℕ)). sign ∷ term ∷ ws) later.1,
      (
        record {
          term = term;
          says = ap (λ (w : List ℕ). w ∷ term
              ∷ []) (sign_is sign made.0.0.0 first.0);
          spells =
              term_is spelling term made.0.0.1 first.1;
        },
        later.2,
      ),
    )

pairs_back : (spelling : Spelling) (parts : List (List (List ℕ)))
    (ts : List (Sign × Term VariableName)) → AllZip (SpellsSigned spelling) parts ts
    → pairs_form (signed_term_form spelling) (flat_map (λ part. part) parts) ≡ Some ts
pairs_back spelling [] [] are = refl
pairs_back spelling (part ∷ parts) (t ∷ ts) are =
    let later = pairs_back spelling parts ts are.1 in
    rw are.0.says (rw (sign_read t.0, term_back spelling are.0.term t.1 are.0.spells, later) refl)
pairs_back spelling parts ts are = absurd (search)

pub sum_is : (spelling : Spelling) (words : List (List ℕ)) (e : Expr VariableName)
    → sum_form spelling words ≡ Some e → SpellsSum spelling words e
sum_is spelling [] e h = cc
sum_is spelling (term ∷ rest) e h =
    let made = made_some {B = Expr VariableName} (λ s. record { first = s.0; rest = s.1 })
    (option_zip (term_form spelling term) (pairs_form (signed_term_form spelling) rest)) e h in
    let both = both_some (term_form spelling term)
    (pairs_form (signed_term_form spelling) rest) made.0 made.1 in
    let later = pairs_are spelling rest made.0.1 both.1 in
    subst (SpellsSum spelling (term ∷ rest)) made.2 (record {
      first = term;
      rest = later.0;
      says = ap (λ (ws : List (List ℕ)). term ∷ ws) later.1;
      begins = term_is spelling term made.0.0 both.0;
      goes_on = later.2;
    })

pub sum_back : (spelling : Spelling) (words : List (List ℕ)) (e : Expr VariableName)
    → SpellsSum spelling words e → sum_form spelling words ≡ Some e
sum_back spelling words e is = rw is.says (rw (
  term_back spelling is.first e.first is.begins,
  pairs_back spelling is.rest e.rest is.goes_on,
) refl)

-- what holds of signs and of words that spell terms holds of a sum's words
module _ (Q : List ℕ → Type 0) (signs : (s : Sign) → Q (sign_word s)) (spelling : Spelling)
    (terms : (word : List ℕ) (t : Term VariableName) → SpellsTerm spelling word t → Q word) where
  pairs_words : (parts : List (List (List ℕ))) (ts : List (Sign × Term VariableName))
      → AllZip (SpellsSigned spelling) parts ts → All Q (flat_map (λ part. part) parts)
  pairs_words [] [] are = All-nil Q
  pairs_words (part ∷ parts) (t ∷ ts) are =
      rw are.0.says
      (All-cons Q (sign_word t.0) (are.0.term ∷ flat_map (λ p. p) parts) (signs t.0)
      (All-cons Q are.0.term (flat_map (λ p. p) parts) (terms are.0.term t.1 are.0.spells)
      (pairs_words parts ts are.1)))
  pairs_words parts ts are = absurd (search)

  sum_words : (words : List (List ℕ)) (e : Expr VariableName) → SpellsSum spelling words e
      → All Q words
  sum_words words e is = rw is.says (All-cons Q is.first (flat_map (λ p. p) is.rest)
      (terms is.first e.first is.begins) (pairs_words is.rest e.rest is.goes_on))

-- words that part nothing
pub record IsUnmarked (word : List ℕ) : Type 0 where
  pub no_when : when_of word ≡ None
  pub no_do : do_of word ≡ None
  pub no_and : and_of word ≡ None
  pub no_semicolon : semicolon_of word ≡ None

pub unmarked : (word : List ℕ) → IsNoMark word → IsUnmarked word
unmarked word is = record {
  no_when = is.no_when;
  no_do = is.no_do;
  no_and = is.no_and;
  no_semicolon = is.no_semicolon;
}

sign_unmarked : (s : Sign) → IsUnmarked (sign_word s)
sign_unmarked Plus = record { no_when = refl; no_do = refl; no_and = refl; no_semicolon = refl }
sign_unmarked Minus = record { no_when = refl; no_do = refl; no_and = refl; no_semicolon = refl }

relation_unmarked : (r : Relation) → IsUnmarked (relation_word r)
relation_unmarked relation.Equal = record {
  no_when = refl;
  no_do = refl;
  no_and = refl;
  no_semicolon = refl;
}
relation_unmarked relation.NotEqual = record {
  no_when = refl;
  no_do = refl;
  no_and = refl;
  no_semicolon = refl;
}
relation_unmarked relation.Less = record {
  no_when = refl;
  no_do = refl;
  no_and = refl;
  no_semicolon = refl;
}
relation_unmarked relation.LessOrEqual = record {
  no_when = refl;
  no_do = refl;
  no_and = refl;
  no_semicolon = refl;
}
relation_unmarked relation.Greater = record {
  no_when = refl;
  no_do = refl;
  no_and = refl;
  no_semicolon = refl;
}
relation_unmarked relation.GreaterOrEqual = record {
  no_when = refl;
  no_do = refl;
  no_and = refl;
  no_semicolon = refl;
}

sum_unmarked : (spelling : Spelling) (words : List (List ℕ)) (e : Expr VariableName)
    → SpellsSum spelling words e → All IsUnmarked words
sum_unmarked spelling = sum_words IsUnmarked sign_unmarked spelling
    (λ word t is. unmarked word (term_no_mark spelling word t is))

sum_unrelated : (spelling : Spelling) (words : List (List ℕ)) (e : Expr VariableName)
    → SpellsSum spelling words e → All (λ w. relation_of w ≡ None) words
sum_unrelated spelling = sum_words (λ w. relation_of w ≡ None) sign_unrelated spelling
    (λ word t is. (term_no_mark spelling word t is).no_relation)

-- a cut, joined again
abbrev pub IsCutOf : {M : Type 0} → (List ℕ → Option M) → List (List ℕ) → List (List ℕ) × M
    × List (List ℕ) → Type 0
IsCutOf f words cut = (word : List ℕ) × (words ≡ cut.0 ++ word ∷ cut.2) × (f word ≡ Some cut.1)

pub cut_says : {M : Type 0} (f : List ℕ → Option M) (words : List (List ℕ))
    (cut : List (List ℕ) × M × List (List ℕ)) → cut_at f words ≡ Some cut → IsCutOf f words cut
cut_says f [] cut e = cc
cut_says {M} f (word ∷ rest) cut e = by_mark (f word) refl (λ c at. cut_says f rest c at) e
  where
    by_mark : (m : Option M) → f word ≡ m → ((c : List (List ℕ) × M × List (List ℕ))
        → cut_at f rest ≡ Some c → IsCutOf f rest c)
        → option_map_or {U = Option (List (List ℕ) × M × List (List ℕ))}
        (λ (mark : M). Some ([], mark, rest)) m
        (option_map {U = List (List ℕ) × M × List (List ℕ)}
        (λ (c : List (List ℕ) × M × List (List ℕ)). (word ∷ c.0, c.1, c.2)) (cut_at f rest))
        ≡ Some cut
        → IsCutOf f (word ∷ rest) cut
    by_mark (Some m) is more e' = let same : ([], m, rest) ≡ cut = cc in
        subst (IsCutOf f (word ∷ rest)) same (word, refl, is)
    by_mark None is more e' =
        let made = made_some {B = List (List ℕ) × M × List (List ℕ)}
        (λ (c : List (List ℕ) × M × List (List ℕ)). (word ∷ c.0, c.1, c.2))
        (cut_at f rest) cut e' in
        let later = more made.0 made.1 in
        subst (IsCutOf f (word ∷ rest)) made.2
        (later.0, ap (λ (ws : List (List ℕ)). word ∷ ws) later.1, later.2)

-- comparisons
pub comparison_is : (spelling : Spelling) (words : List (List ℕ)) (c : Comparison VariableName)
    → comparison_form spelling words ≡ Some c → SpellsComparison spelling words c
comparison_is spelling words c h =
    option_and_then_some (λ (cut : List (List ℕ) × Relation × List (List ℕ)). option_map
    {U = Comparison VariableName} (λ s. record { left = s.0; relation = cut.1; right = s.1 })
    (option_zip (sum_form spelling cut.0) (sum_form spelling cut.2)))
    (cut_at relation_of words) c h (λ cut at is.
    let made = made_some {B = Comparison VariableName}
    (λ s. record { left = s.0; relation = cut.1; right = s.1 })
    (option_zip (sum_form spelling cut.0) (sum_form spelling cut.2)) c is in
    let both = both_some (sum_form spelling cut.0) (sum_form spelling cut.2) made.0 made.1 in
    let says = cut_says relation_of words cut at in
    subst (SpellsComparison spelling words) made.2 (record {
      left = cut.0;
      right = cut.2;
      says = says.1 ∙ ap (λ (w : List ℕ). cut.0 ++ w ∷ cut.2) (relation_is says.0 cut.1 says.2);
      on_left = sum_is spelling cut.0 made.0.0 both.0;
      on_right = sum_is spelling cut.2 made.0.1 both.1;
    }))

pub comparison_back : (spelling : Spelling) (words : List (List ℕ)) (c : Comparison VariableName)
    → SpellsComparison spelling words c → comparison_form spelling words ≡ Some c
comparison_back spelling words c is =
    rw is.says
    (rw (cut_front relation_of is.left (relation_word c.relation) c.relation is.right
    (sum_unrelated spelling is.left c.left is.on_left) (relation_read c.relation))
    (rw (
      sum_back spelling is.left c.left is.on_left,
      sum_back spelling is.right c.right is.on_right,
    ) refl))

pub comparison_unmarked : (spelling : Spelling) (words : List (List ℕ))
    (c : Comparison VariableName) → SpellsComparison spelling words c → All IsUnmarked words
comparison_unmarked spelling words c is =
    rw is.says
    (All-append IsUnmarked is.left (relation_word c.relation ∷ is.right)
    (sum_unmarked spelling is.left c.left is.on_left)
    (All-cons IsUnmarked (relation_word c.relation) is.right (relation_unmarked c.relation)
    (sum_unmarked spelling is.right c.right is.on_right)))

-- assignments
pub assignment_is : (spelling : Spelling) (words : List (List ℕ)) (a : Assignment VariableName)
    → assignment_form spelling words ≡ Some a → SpellsAssignment spelling words a
assignment_is spelling (target ∷ mark ∷ sum) a h =
    let passed = passed_some (same_text mark (codes ":="))
    (option_map {U = Assignment VariableName} (λ a. record { target = a.0; sum = a.1 })
    (option_zip (variable_form spelling target) (sum_form spelling sum))) a h in
    let made = made_some {B = Assignment VariableName} (λ a. record { target = a.0; sum = a.1 })
    (option_zip (variable_form spelling target) (sum_form spelling sum)) a passed.1 in
    let both = both_some (variable_form spelling target) (sum_form spelling sum) made.0 made.1 in
    subst (SpellsAssignment spelling (target ∷ mark ∷ sum)) made.2 (record {
      target = target;
      sum = sum;
      says = ap (λ (w : List ℕ). target ∷ w ∷ sum) (same_word mark (codes ":=") passed.0);
      on_left = variable_is spelling target made.0.0 both.0;
      on_right = sum_is spelling sum made.0.1 both.1;
    })
assignment_is spelling words a h = cc

pub assignment_back : (spelling : Spelling) (words : List (List ℕ)) (a : Assignment VariableName)
    → SpellsAssignment spelling words a → assignment_form spelling words ≡ Some a
assignment_back spelling words a is =
    rw is.says (rw (
      (variable_word spelling is.target a.target is.on_left).read,
      sum_back spelling is.sum a.sum is.on_right,
    ) refl)

pub assignment_unmarked : (spelling : Spelling) (words : List (List ℕ))
    (a : Assignment VariableName) → SpellsAssignment spelling words a → All IsUnmarked words
assignment_unmarked spelling words a is =
    rw is.says
    (All-cons IsUnmarked is.target (codes ":=" ∷ is.sum)
    (unmarked is.target (variable_word spelling is.target a.target is.on_left).no_mark)
    (All-cons IsUnmarked (codes ":=") is.sum (record {
      no_when = refl;
      no_do = refl;
      no_and = refl;
      no_semicolon = refl;
    }) (sum_unmarked spelling is.sum a.sum is.on_right)))
