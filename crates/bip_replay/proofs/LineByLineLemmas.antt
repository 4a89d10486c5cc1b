-- A text is the grants of its lines.
use Rattle.std.proofs.Common.{◌≡◌, ◌+◌, ℕ, Bool, true, false, ◌&&◌, cond, List, [], ◌∷◌, Option}
use Rattle.std.proofs.Common.{None, Some, Result, Ok, Err, refl, ap, ◌∙◌}
use Rattle.std.specs.Option.{option_map_or}
use Rattle.bip_model.specs.Parts.{IsSystem}
use Rattle.bip_model.specs.Naming.{is_name, same_text}
use Rattle.bip_model.specs.Texts.{lines, words_said}
use Rattle.bip_model.specs.declared.grants.Grant.{Grant}
use Rattle.bip_model.specs.declared.parts.System.{System}
use Rattle.bip_model.specs.declared.wants.Role.TheVariants.{Moved}
use Rattle.std.specs.Prelude.{codes}
use Rattle.bip_replay.proofs.GrantLemmas.{reads_grant_lines}
use Rattle.bip_replay.specs.Laws.{AreGrantLines, GrantsLineByLine, grant_line, no_line, no_words}
use Rattle.bip_replay.specs.Lines.{grant_on, known, looked_up, said, wants_said}
use Rattle.bip_replay.specs.declared.lines.NamedWant.{NamedWant}
use Rattle.bip_replay.specs.Items.{before_rest}
use Rattle.bip_replay.specs.Traces.{grants_from}
use Rattle.bip_replay.specs.declared.faults.LineFault.TheVariants.{Syntax, Unknown}
use Rattle.bip_replay.specs.declared.faults.LineFault.{LineFault}

-- what is looked up is a grant, or not known
found : (o : Option Grant) → option_map_or (λ (g : Grant). Ok (Some g)) o (Err Unknown) ≡ Ok None
    → ⊥
found None is = cc
found (Some g) is = cc

-- two words and more are a grant, or at fault
two_words : (m : System) (inter : List ℕ) (c : Bool) (o : Option (List NamedWant))
    → looked_up m (cond c (option_map_or (λ wants.
    Ok (Some (record { inter = inter; wants = wants }))) o (Err Syntax)) (Err Syntax)) ≡ Ok None
    → ⊥
two_words m inter false o is = cc
two_words m inter true None is = cc
two_words m inter true (Some wants) is = found
    (known m (record { inter = inter; wants = wants })) is

-- a line that says no grant and isn't at fault has no words
says_nothing : (m : System) (line : List ℕ) → grant_on m line ≡ Ok None → words_said line ≡ Some []
says_nothing m line is = by_words (words_said line) refl is
  where
    by_words : (o : Option (List (List ℕ))) → words_said line ≡ o
        → looked_up m (option_map_or said o (Err Syntax)) ≡ Ok None → words_said line ≡ Some []
    by_words None e is = absurd (cc)
    by_words (Some []) e is = e
    by_words (Some (word ∷ [])) e is = absurd (cc)
    by_words (Some (word ∷ inter ∷ rest)) e is =
        absurd (two_words m inter (same_text word (codes "grant") && is_name inter)
        (wants_said Moved [] rest) is)

by_line : (m : System) (n : ℕ) (line : List ℕ) (rest : List (List ℕ)) (gs : List Grant) → IsSystem m
    → ((hs : List Grant) → grants_from m (n + 1) rest ≡ Ok hs → AreGrantLines m rest hs)
    → (r : Result (Option Grant) LineFault) → grant_on m line ≡ r
    → (t : Result (List Grant) (ℕ × LineFault)) → grants_from m (n + 1) rest ≡ t
    → before_rest n r t ≡ Ok gs → AreGrantLines m (line ∷ rest) gs
by_line m n line rest gs valid more (Err fault) e t f is = absurd (cc)
by_line m n line rest gs valid more (Ok None) e t f is =
    no_words (says_nothing m line e) (more gs (f ∙ is))
by_line m n line rest gs valid more (Ok (Some g)) e (Ok hs) f is =
    let same : g ∷ hs ≡ gs = cc in
    rw (← same) (grant_line ((reads_grant_lines m line g valid).0 e) (more hs f))
by_line m n line rest gs valid more (Ok (Some g)) e (Err x) f is = absurd (cc)

lines_from : (m : System) (n : ℕ) (ls : List (List ℕ)) (gs : List Grant) → IsSystem m
    → grants_from m n ls ≡ Ok gs → AreGrantLines m ls gs
lines_from m n [] gs valid is = let same : [] ≡ gs = cc in rw (← same) no_line
lines_from m n (line ∷ rest) gs valid is =
    by_line m n line rest gs valid (λ hs. lines_from m (n + 1) rest hs valid) (grant_on m line) refl
    (grants_from m (n + 1) rest) refl is

from_lines : {m : System} {ls : List (List ℕ)} {gs : List Grant} → IsSystem m
    → AreGrantLines m ls gs → (n : ℕ) → grants_from m n ls ≡ Ok gs
from_lines valid no_line n = refl
from_lines {m} valid (no_words {line} {rest} {gs} e more) n =
    ap (λ (o : Option (List (List ℕ))). before_rest n
    (looked_up m (option_map_or said o (Err Syntax))) (grants_from m (n + 1) rest)) e
    ∙ from_lines valid more (n + 1)
from_lines {m} valid (grant_line {line} {rest} {g} {gs} e more) n =
    ap (λ (r : Result (Option Grant) LineFault). before_rest n r (grants_from m (n + 1) rest))
    ((reads_grant_lines m line g valid).1 e)
    ∙ ap (λ (t : Result (List Grant) (ℕ × LineFault)). before_rest n (Ok (Some g)) t)
    (from_lines valid more (n + 1))

pub grants_line_by_line : GrantsLineByLine
grants_line_by_line m text gs valid = (
  lines_from m 1 (lines text) gs valid,
  λ are. from_lines valid are 1,
)
