-- The grammar of a model's lines: which words are a line of which statement.
use Rattle.std.specs.Prelude.{◌≡◌, ℕ, ◌<◌, List, [], ◌∷◌, ◌++◌, length, map, None, Some, All, codes}
use Rattle.std.specs.List.{AllZip, flat_map}
use Rattle.bip_model.specs.Naming.{IsName}
use Rattle.bip_model.specs.Texts.{value_said}
use Rattle.bip_model.specs.declared.expressions.Assignment.{Assignment}
use Rattle.bip_model.specs.declared.expressions.Comparison.{Comparison}
use Rattle.bip_model.specs.declared.expressions.Expr.{Expr}
use Rattle.bip_model.specs.declared.expressions.Sign.{Sign}
use Rattle.bip_model.specs.declared.expressions.Term.{Term}
use Rattle.bip_model.specs.declared.expressions.Term.TheVariants.{Value, Of}
use Rattle.bip_model.specs.declared.scopes.VariableName.{VariableName}
use Rattle.bip_reader.specs.Writing.{pair_word, relation_word, sign_word, words_of_list}
use Rattle.bip_model.specs.declared.clauses.Spelling.{Spelling}
use Rattle.bip_model.specs.declared.clauses.Spelling.TheVariants.{Own, Shared}
use Rattle.bip_reader.specs.declared.statements.Statement.{Statement}
use Rattle.bip_reader.specs.declared.statements.Statement.TheVariants.{Header, Component, Var, Loc}
use Rattle.bip_reader.specs.declared.statements.Statement.TheVariants.{Port, Trans, End}
use Rattle.bip_reader.specs.declared.statements.Statement.TheVariants.{Interaction, Priority, Class}

-- a word spells a variable: `v` inside a component, `C.v` in an interaction
abbrev pub SpellsVariable : Spelling → List ℕ → VariableName → Type 0
SpellsVariable Own word v = (v.owner ≡ None) × IsName v.name × (word ≡ v.name)
SpellsVariable Shared word v =
    (owner : List ℕ) × (v.owner ≡ Some owner) × IsName owner × IsName v.name
    × (word ≡ pair_word owner v.name)

-- a word spells a term: a value, with leading zeros or without, or a variable
abbrev pub SpellsTerm : Spelling → List ℕ → Term VariableName → Type 0
SpellsTerm spelling word (Value n) = value_said word ≡ Some n
SpellsTerm spelling word (Of v) = SpellsVariable spelling word v

-- `+ TERM` or `- TERM`
pub record SpellsSigned (spelling : Spelling) (words : List (List ℕ))
    (t : Sign × Term VariableName) : Type 0 where
  pub term : List ℕ
  pub says : words ≡ sign_word t.0 ∷ term ∷ []
  pub spells : SpellsTerm spelling term t.1

-- `TERM + TERM - TERM ..`: a term, and then terms each behind its sign
pub record SpellsSum (spelling : Spelling) (words : List (List ℕ)) (e : Expr VariableName)
    : Type 0 where
  pub first : List ℕ
  pub rest : List (List (List ℕ))
  pub says : words ≡ first ∷ flat_map (λ signed. signed) rest
  pub begins : SpellsTerm spelling first e.first
  pub goes_on : AllZip (SpellsSigned spelling) rest e.rest

-- `SUM OP SUM`
pub record SpellsComparison (spelling : Spelling) (words : List (List ℕ))
    (c : Comparison VariableName) : Type 0 where
  pub left : List (List ℕ)
  pub right : List (List ℕ)
  pub says : words ≡ left ++ relation_word c.relation ∷ right
  pub on_left : SpellsSum spelling left c.left
  pub on_right : SpellsSum spelling right c.right

-- `TARGET := SUM`
pub record SpellsAssignment (spelling : Spelling) (words : List (List ℕ))
    (a : Assignment VariableName) : Type 0 where
  pub target : List ℕ
  pub sum : List (List ℕ)
  pub says : words ≡ target ∷ codes ":=" ∷ sum
  pub on_left : SpellsVariable spelling target a.target
  pub on_right : SpellsSum spelling sum a.sum

-- first words and then `[when COMPARISON and COMPARISON ..] [do ASSIGNMENT ; ASSIGNMENT ..]`, of a
-- guard and assignments; where there are none, their word isn't there
pub record IsWithClauses (spelling : Spelling) (first words : List (List ℕ))
    (guard : List (Comparison VariableName)) (assignments : List (Assignment VariableName))
    : Type 0 where
  pub comparing : List (List (List ℕ))
  pub assigning : List (List (List ℕ))
  pub says : words ≡ first ++ (words_of_list (codes "when") (codes "and") (λ part. part) comparing
      ++ words_of_list (codes "do") (codes ";") (λ part. part) assigning)
  pub compares : AllZip (SpellsComparison spelling) comparing guard
  pub assigns : AllZip (SpellsAssignment spelling) assigning assignments

-- `C.p` of a component's name and a port's
abbrev pub AreTwoNames : List ℕ × List ℕ → Type 0
AreTwoNames pair = IsName pair.0 × IsName pair.1

-- the words of a line that states this
abbrev pub IsLineOf : Statement → List (List ℕ) → Type 0
IsLineOf Header words = words ≡ codes "bip" ∷ codes "1" ∷ []
IsLineOf (Component name) words = IsName name × (words ≡ codes "component" ∷ name ∷ [])
IsLineOf (Var name value) words =
    (numeral : List ℕ) × IsName name × (value_said numeral ≡ Some value)
    × (words ≡ codes "var" ∷ name ∷ numeral ∷ [])
IsLineOf (Loc name) words = IsName name × (words ≡ codes "loc" ∷ name ∷ [])
IsLineOf (Port name) words = IsName name × (words ≡ codes "port" ∷ name ∷ [])
IsLineOf (Trans port source target guard update) words =
    All IsName (port ∷ source ∷ target ∷ [])
    × IsWithClauses Own (codes "trans" ∷ port ∷ source ∷ target ∷ []) words guard update
IsLineOf End words = words ≡ codes "end" ∷ []
IsLineOf (Interaction name participants guard transfer) words =
    IsName name × (0 < length participants) × All AreTwoNames participants
    × IsWithClauses Shared
    (codes "interaction" ∷ name ∷ map (λ pair. pair_word pair.0 pair.1) participants)
    words guard transfer
IsLineOf (Priority low high) words =
    IsName low × IsName high × (words ≡ codes "priority" ∷ low ∷ codes "<" ∷ high ∷ [])
IsLineOf (Class name interactions) words =
    IsName name × (0 < length interactions) × All IsName interactions
    × (words ≡ codes "class" ∷ name ∷ interactions)
