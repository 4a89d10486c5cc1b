-- What a line states, and that it is a fault of syntax exactly where that is nothing.
use Rattle.std.proofs.Common.{◌≡◌, ℕ, true, cond, List, [], ◌∷◌, Option, None, Some, Err, refl, sym}
use Rattle.std.proofs.Common.{ap, ◌∙◌, subst}
use Rattle.std.specs.Option.{ok_or}
use Rattle.std.proofs.lemmas.Option.{option_and_then_some}
use Rattle.bip_model.specs.Faults.{◌>>=◌}
use Rattle.bip_model.specs.Texts.{says_something, words_said}
use Rattle.bip_reader.specs.Grammar.{IsLineOf}
use Rattle.bip_reader.specs.Laws.{LinesAreRead, OneStatement, SaysItsStatement, StatesInPlace}
use Rattle.bip_reader.specs.Laws.{SyntaxIsNoLine}
use Rattle.bip_reader.specs.Reading.{has_place, reading_after, reading_after_words, reading_with}
use Rattle.bip_reader.specs.Reading.{statement_in}
use Rattle.bip_reader.specs.Statements.{keyword_in, keyword_of, statement_of}
use Rattle.bip_reader.specs.declared.faults.Why.TheVariants.{Syntax}
use Rattle.bip_reader.specs.declared.reading.Reading.{Reading}
use Rattle.bip_reader.specs.declared.statements.Keyword.{Keyword}
use Rattle.bip_reader.specs.declared.statements.Statement.{Statement}
use Rattle.bip_reader.specs.declared.statements.Statement.TheVariants as statement
use Rattle.bip_reader.proofs.FaultLemmas.{not_of_syntax}
use Rattle.bip_reader.proofs.SpellingLemmas.{passed_some}
use Rattle.bip_reader.proofs.StatementLemmas.{keyword_is, keyword_read, statement_back}
use Rattle.bip_reader.proofs.StatementLemmas.{statement_is}

pub lines_are_read : LinesAreRead
lines_are_read word rest s = (
  λ e. option_and_then_some (λ k. statement_of k rest) (keyword_of word) s e
      (λ k at stated. subst (λ (w : List ℕ). IsLineOf s (w ∷ rest)) (sym (keyword_is word k at))
      (statement_is k rest s stated)),
  λ is. let read = statement_back s word rest is in rw (read.0, keyword_read (keyword_in s)) read.1,
)

no_words : (s : Statement) → IsLineOf s [] → ⊥
no_words statement.Header is = cc
no_words (statement.Component name) is = let wrong = is.1 in cc
no_words (statement.Var name value) is = let wrong = is.3 in cc
no_words (statement.Loc name) is = let wrong = is.1 in cc
no_words (statement.Port name) is = let wrong = is.1 in cc
no_words (statement.Trans port source target guard update) is = let wrong = is.1.says in cc
no_words statement.End is = cc
no_words (statement.Interaction name participants guard transfer) is = let wrong = is.3.says in cc
no_words (statement.Priority low high) is = let wrong = is.2 in cc
no_words (statement.Class name interactions) is = let wrong = is.3 in cc

pub one_statement : OneStatement
one_statement [] s t is are = absurd (no_words s is)
one_statement (word ∷ rest) s t is are =
    let one = (lines_are_read word rest s).1 is in
    let other = (lines_are_read word rest t).1 are in
    cc

-- a statement in its place
stated_in : (word : List ℕ) (rest : List (List ℕ)) (r : Reading) (s : Statement)
    → IsLineOf s (word ∷ rest) → has_place (keyword_in s) r ≡ true
    → statement_in word rest r ≡ Some s
stated_in word rest r s is place = let read = statement_back s word rest is in
    rw (read.0, keyword_read (keyword_in s)) (rw place read.1)

placed : (k : Keyword) (word : List ℕ) (rest : List (List ℕ)) (r : Reading) (s : Statement)
    → keyword_of word ≡ Some k → IsLineOf s (word ∷ rest) → has_place k r ≡ true
    → has_place (keyword_in s) r ≡ true
placed k word rest r s at is place =
    let read = statement_back s word rest is in
    let same : Some k ≡ Some (keyword_in s) = sym at ∙ ap keyword_of read.0
    ∙ keyword_read (keyword_in s) in
    let k_is : k ≡ keyword_in s = cc in
    rw (← k_is) place

pub is_stated : (word : List ℕ) (rest : List (List ℕ)) (r : Reading) (s : Statement)
    → statement_in word rest r ≡ Some s → IsLineOf s (word ∷ rest)
    × (has_place (keyword_in s) r ≡ true)
is_stated word rest r s e =
    option_and_then_some (λ k. cond (has_place k r) (statement_of k rest) None)
    (keyword_of word) s e (λ k at passed.
    let parts = passed_some (has_place k r) (statement_of k rest) s passed in
    let line = (lines_are_read word rest s).0 (rw at parts.1) in
    (line, placed k word rest r s at line parts.0))

pub says_its_statement : SaysItsStatement
unfolding reading_after
says_its_statement line r s states = by_words states.words states.said states.form
  where
    by_words : (words : List (List ℕ)) → words_said line ≡ Some words → IsLineOf s words
        → reading_after_words (words_said line) r ≡ reading_with s r
    by_words [] said form = absurd (no_words s form)
    by_words (word ∷ rest) said form = rw (said, stated_in word rest r s form states.place) refl

-- what is told of a line, or what it states
pub syntax_is_no_line : SyntaxIsNoLine
unfolding reading_after
syntax_is_no_line line r = (
  λ e. (
    told (words_said line) e,
    λ s states. not_of_syntax s r Syntax (sym (says_its_statement line r s states) ∙ e) refl,
  ),
  λ h. by_words (words_said line) refl h.0 h.1,
)
  where
    told : (said : Option (List (List ℕ))) → reading_after_words said r ≡ Err Syntax
        → says_something said ≡ true
    told None e = refl
    told (Some []) e = cc
    told (Some (word ∷ rest)) e = refl

    by_words : (said : Option (List (List ℕ))) → words_said line ≡ said → says_something said ≡ true
        → ((s : Statement) → StatesInPlace line r s → ⊥) → reading_after_words said r ≡ Err Syntax
    by_words None is says none = refl
    by_words (Some []) is says none = cc
    by_words (Some (word ∷ rest)) is says none = by_statement (statement_in word rest r) refl
      where
        by_statement : (stated : Option Statement) → statement_in word rest r ≡ stated
            → ok_or stated Syntax >>= (λ s. reading_with s r) ≡ Err Syntax
        by_statement None at = refl
        by_statement (Some s) at = let parts = is_stated word rest r s at in
            absurd (none s (record {
              words = word ∷ rest;
              said = is;
              form = parts.0;
              place = parts.1;
            }))
