-- Lines that lead up from an interaction by the priorities that they say.
use Rattle.std.proofs.Common.{◌≡◌, ℕ, ◌||◌, ◌∷◌, [], ◌++◌, Bool, true, false, List, refl, sym}
use Rattle.std.proofs.Common.{subst}
use Rattle.std.specs.Prelude.{All}
use Rattle.std.proofs.lemmas.Bool.{false≢true}
use Rattle.std.proofs.lemmas.List.Elements.{All-head, All-tail}
use Rattle.bip_model.specs.Naming.{is_known, same_text}
use Rattle.bip_reader.proofs.SpellingLemmas.{same_word}
use Rattle.bip_model.specs.Texts.{line_at}
use Rattle.bip_explain.specs.Ends.{IsMemberAt, IsPathFrom, LeadUp, PutAbove}
use Rattle.bip_explain.specs.Ends.{SaysPriority}
use Rattle.bip_explain.specs.declared.ends.PriorityPath.{PriorityPath}
use Rattle.bip_explain.specs.Placed.{said_words}

-- what holds of names holds of one among them
pub known_has : (P : List ℕ → Type 0) (name : List ℕ) (names : List (List ℕ)) → All P names
    → is_known name names ≡ true → P name
known_has P name [] all known = absurd (false≢true known)
known_has P name (other ∷ names) all known = by_test (same_text name other) refl known
    (λ rest. known_has P name names (All-tail P other names all) rest)
  where
    by_test : (t : Bool) → same_text name other ≡ t → (t || is_known name names) ≡ true
        → (is_known name names ≡ true → P name) → P name
    by_test true e known' later = subst P (sym (same_word name other e))
        (All-head P other names all)
    by_test false e known' later = later known'

-- a line more
up_more : (text low : List ℕ) (ns : List ℕ) (next : List ℕ) (n : ℕ) (high : List ℕ)
    → LeadUp text low ns next → SaysPriority (said_words (line_at text n)) next high
    → LeadUp text low (ns ++ n ∷ []) high
up_more text low [] next n high same says =
    (high, subst (λ w. SaysPriority (said_words (line_at text n)) w high) (sym same) says, refl)
up_more text low (m ∷ ms) next n high (middle, first, more) says =
    (middle, first, up_more text middle ms next n high more says)

some_more : (ns : List ℕ) (n : ℕ) → ¬ (ns ++ n ∷ [] ≡ [])
some_more [] n is = cc
some_more (m ∷ ms) n is = cc

-- a path that goes on by a line
pub path_more : (text from low : List ℕ) (n : ℕ) (high : List ℕ) (ns : List ℕ)
    (path : PriorityPath) → path.lines.items ≡ ns ++ n ∷ [] → path.high ≡ high
    → LeadUp text from ns low → SaysPriority (said_words (line_at text n)) low high
    → IsPathFrom text from path
path_more text from low n high ns path lines is leads says =
    let there : LeadUp text from (ns ++ n ∷ []) high = up_more text from ns low n high leads says in
    rw (lines, is) (some_more ns n, there)

-- the path that leads to an interaction
pub path_to : (text from : List ℕ) (path : PriorityPath) (lines high : List ℕ)
    → lines ≡ path.lines.items → same_text path.high high ≡ true → IsPathFrom text from path
    → PutAbove text from lines high
path_to text from path lines high is same leads =
    rw is (subst (PutAbove text from path.lines.items) (same_word path.high high same) leads)

-- a member that is the same
pub same_member : (line word : List ℕ) (column : ℕ) (other : List ℕ) → IsMemberAt line column other
    → same_text other word ≡ true → IsMemberAt line column word
same_member line word column other at same = subst (IsMemberAt line column)
    (same_word other word same) at
