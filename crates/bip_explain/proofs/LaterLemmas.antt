-- Lines that declare a name outside of components, gone over one by one.
use Rattle.std.proofs.Common.{◌≡◌, ℕ, List, [], ◌∷◌, ◌++◌, ◌∙◌, subst, append_assoc, false}
use Rattle.std.proofs.lemmas.Bool.{false≢true}
use Rattle.bip_model.specs.Texts.{line_at, words}
use Rattle.bip_model.specs.declared.clauses.Spelling.{Spelling}
use Rattle.bip_explain.specs.Forms.{IsFormReason, IsNoLine}
use Rattle.bip_explain.specs.Keywords.{IsModelLine}
use Rattle.bip_explain.specs.Later.{DeclareHere, IsDeclaredOn}
use Rattle.bip_explain.specs.Placed.{said_words}
use Rattle.bip_explain.specs.Scopes.{IsStandingAt}
use Rattle.bip_explain.specs.declared.expected.Expected.{Expected}
use Rattle.bip_explain.specs.declared.forms.FormReason.{FormReason}
use Rattle.bip_explain.specs.declared.forms.FormReason.TheVariants.{Byte, Word, End}
use Rattle.bip_explain.specs.declared.scopes.Standing.{Standing}
use Rattle.bip_explain.specs.declared.scopes.Standing.TheVariants.{First, Outside, Inside}
use Rattle.bip_explain.proofs.ScopeLemmas.{not_outside}

-- a line that is tested where it stands
pub declared_on : (text : List ℕ) (n : ℕ) (keyword name : List ℕ) (standing : Standing)
    → IsStandingAt text n standing
    → DeclareHere standing keyword name (said_words (line_at text n))
    → IsDeclaredOn text n keyword name
declared_on text n keyword name First at is = absurd is
declared_on text n keyword name Outside at is = (at, is)
declared_on text n keyword name (Inside component) at is = absurd is

pub undeclared_on : (text : List ℕ) (n : ℕ) (keyword name : List ℕ) (standing : Standing)
    → IsStandingAt text n standing
    → ¬ DeclareHere standing keyword name (said_words (line_at text n))
    → ¬ IsDeclaredOn text n keyword name
undeclared_on text n keyword name First at none is = is.0.says (at is.0.saying is.0.before)
undeclared_on text n keyword name Outside at none is = none is.1
undeclared_on text n keyword name (Inside component) at none is =
    not_outside text n component.now is.0 at

-- a line that isn't there
pub undeclared_behind : (text : List ℕ) (n : ℕ) (keyword name : List ℕ) → line_at text n ≡ []
    → ¬ IsDeclaredOn text n keyword name
undeclared_behind text n keyword name none is =
    let wrong : false ≡ _ = rw none at is.1.0 in false≢true wrong

-- a line that can't go on so, or end, states nothing
pub states_none : (line : List ℕ) (reason : FormReason) (spelling : Spelling) (start : Expected)
    (front : List (List ℕ)) → IsFormReason spelling start front line reason
    → IsNoLine IsModelLine line reason → ¬ IsModelLine (words line)
states_none line (Byte column byte) spelling start front is none states = is
states_none line (Word placed other expected) spelling start front is none states =
    let at = none.0 in
    let whole : words line ≡ (at.front ++ placed.word.now ∷ []) ++ words at.behind
    = at.words_are ∙ simp append_assoc in
    none.1 (words at.behind) (subst IsModelLine whole states)
states_none line (End column other expected) spelling start front is none states = none states
