-- Interactions that lines declare, and those that a line names.
use Rattle.std.proofs.Common.{◌≡◌, inl, inr, ℕ, ◌<◌, Bool, true, false, cond, List, [], ◌∷◌, ◌++◌}
use Rattle.std.proofs.Common.{codes, drop, Option, None, Some, IfSome, refl, sym, ap, ◌∙◌}
use Rattle.std.specs.Prelude.{All, IsTrue, is_some, not}
use Rattle.std.proofs.lemmas.Bool.{false≢true}
use Rattle.std.proofs.lemmas.Cmp.{nat_list_eq_equiv}
use Rattle.std.proofs.lemmas.List.Elements.{All-nil, All-push}
use Rattle.bip_model.specs.Naming.{same_text}
use Rattle.bip_reader.proofs.SpellingLemmas.{same_word}
use Rattle.bip_explain.specs.Declarations.{HasLineWith, IsLineWith, IsMore, begins_with}
use Rattle.bip_model.specs.Texts.{line_at}
use Rattle.bip_explain.specs.Placed.{first_two, said_words}
use Rattle.bip_model.specs.Texts.{words}
use Rattle.bip_explain.specs.Limits.{begins_list}
use Rattle.bip_explain.specs.Unknown.{AreDeclared, kind_at, kind_behind, kind_in_transition}
use Rattle.bip_explain.specs.Unknown.{name_interactions, named_interactions, next_place}
use Rattle.bip_explain.specs.Unknown.{place_behind}
use Rattle.bip_explain.specs.declared.unknown.NameKind.{NameKind}
use Rattle.bip_explain.specs.declared.unknown.NameKind.TheVariants.{Variable, Location, Port}
use Rattle.bip_explain.proofs.FormLemmas.{words_from_said}
use Rattle.bip_explain.proofs.FrontLemmas.{HeadSo, head_ends, head_first, head_word}

two_begin : (ws : List (List ℕ)) (keyword word meant : List ℕ) → Some (keyword, word) ≡ first_two ws
    → same_text keyword meant ≡ true → begins_with meant word ws ≡ true
two_begin [] keyword word meant two same = cc
two_begin (a ∷ []) keyword word meant two same = cc
two_begin (a ∷ b ∷ ws) keyword word meant two same =
    let parts : (keyword, word) ≡ (a, b) = cc in
    let first : keyword ≡ a = ap (λ (p : List ℕ × List ℕ). p.0) parts in
    let second : word ≡ b = ap (λ (p : List ℕ × List ℕ). p.1) parts in
    rw (← first, ← second, same) (nat_list_eq_equiv.refl word)

-- one more line is taken
pub declared_more : (text line : List ℕ) (number n : ℕ) (keyword word meant : List ℕ)
    (old new : List (List ℕ)) → All (HasLineWith text number meant) old → n < number
    → line_at text n ≡ line → Some (keyword, word) ≡ first_two (said_words line)
    → IsMore meant keyword word old new → All (HasLineWith text number meant) new
declared_more text line number n keyword word meant old new all below at two (inl same) =
    rw same all
declared_more text line number n keyword word meant old new all below at two (inr (is, more)) =
    rw more (All-push (HasLineWith text number meant) old word all
    (n, below, rw at (two_begin (said_words line) keyword word meant two is)))

-- a line that is found
pub line_found : (text : List ℕ) (number : ℕ) (meant word : List ℕ) (o : Option ℕ)
    → IfSome o (λ n. (n < number) × IsLineWith text n meant word) → is_some o ≡ not false
    → HasLineWith text number meant word
line_found text number meant word None is none = absurd (false≢true none)
line_found text number meant word (Some n) is none = (n, is.0, is.1)

-- the interactions that lines of each kind name
pub trans_names : (keyword : List ℕ) (rest : List (List ℕ))
    → same_text keyword (codes "trans") ≡ true → named_interactions (keyword ∷ rest) ≡ []
trans_names keyword rest same = rw (same_word keyword (codes "trans") same) refl

pub interaction_names : (keyword : List ℕ) (rest : List (List ℕ))
    → same_text keyword (codes "interaction") ≡ true → named_interactions (keyword ∷ rest) ≡ []
interaction_names keyword rest same = rw (same_word keyword (codes "interaction") same) refl

pub priority_names : (keyword : List ℕ) (rest : List (List ℕ))
    → same_text keyword (codes "priority") ≡ true → named_interactions (keyword ∷ rest) ≡ rest
priority_names keyword rest same = rw (same_word keyword (codes "priority") same) refl

pub class_names : (keyword name : List ℕ) (rest : List (List ℕ))
    → same_text keyword (codes "class") ≡ true → named_interactions (keyword ∷ name ∷ rest) ≡ rest
class_names keyword name rest same = rw (same_word keyword (codes "class") same) refl

pub alone_names : (keyword : List ℕ) → same_text keyword (codes "priority") ≡ false
    → named_interactions (keyword ∷ []) ≡ []
alone_names keyword other = by_test (same_text keyword (codes "class")) refl
  where
    by_test : (t : Bool) → same_text keyword (codes "class") ≡ t
        → named_interactions (keyword ∷ []) ≡ []
    by_test true e = rw e refl
    by_test false e = rw (e, other) refl

pub other_names : (keyword : List ℕ) (rest : List (List ℕ))
    → same_text keyword (codes "class") ≡ false → same_text keyword (codes "priority") ≡ false
    → named_interactions (keyword ∷ rest) ≡ []
other_names keyword rest class priority = rw (class, priority) refl

-- what holds of the names of a line that names these
pub are_declared : (text : List ℕ) (number : ℕ) (ws names : List (List ℕ))
    → named_interactions ws ≡ names → AreDeclared text number names
    → AreDeclared text number (named_interactions ws)
are_declared text number ws names is all = rw is all

pub none_declared : (text : List ℕ) (number : ℕ) (ws : List (List ℕ)) → named_interactions ws ≡ []
    → AreDeclared text number (named_interactions ws)
none_declared text number ws is = rw is (All-nil _)

-- words in front of one that names an interaction, with one more
abbrev pub NameInteractions : List (List ℕ) → Type 0
NameInteractions front = IsTrue (name_interactions front)

pub names_more : (word : List ℕ) (front : List (List ℕ)) → NameInteractions front
    → NameInteractions (front ++ word ∷ [])
names_more word [] named = absurd (false≢true named)
names_more word (keyword ∷ []) named = rw named refl
names_more word (keyword ∷ name ∷ more) named = named

-- what the first word of a line is
pub begins_so : (line keyword meant : List ℕ) (rest : List (List ℕ))
    → said_words line ≡ keyword ∷ rest → same_text keyword meant ≡ true → words line ≡ meant ∷ rest
begins_so line keyword meant rest says same = words_from_said line keyword rest says
    ∙ ap (λ (w : List ℕ). w ∷ rest) (same_word keyword meant same)

-- the words of a transition in front of a place
abbrev pub IsPlaceOf : ℕ → List (List ℕ) → Type 0
IsPlaceOf place front = (more : List (List ℕ)) × (front ≡ codes "trans" ∷ more)
    × (place ≡ place_behind more)

place_next : (word : List ℕ) (more : List (List ℕ))
    → next_place (place_behind more) ≡ place_behind (more ++ word ∷ [])
place_next word [] = refl
place_next word (a ∷ []) = refl
place_next word (a ∷ b ∷ []) = refl
place_next word (a ∷ b ∷ c ∷ more) = refl

pub place_more : (word : List ℕ) (place next : ℕ) → next ≡ next_place place
    → (front : List (List ℕ)) → IsPlaceOf place front → IsPlaceOf next (front ++ word ∷ [])
place_more word place next is front (more, same, at) =
    (more ++ word ∷ [], rw same refl, is ∙ (ap next_place at ∙ place_next word more))

kind_there : (more : List (List ℕ)) → kind_at (place_behind more) ≡ kind_in_transition more
kind_there [] = refl
kind_there (a ∷ []) = refl
kind_there (a ∷ b ∷ []) = refl
kind_there (a ∷ b ∷ c ∷ more) = refl

pub kind_of_place : (place : ℕ) (front : List (List ℕ)) → IsPlaceOf place front
    → kind_at place ≡ kind_behind front
kind_of_place place front (more, same, at) = ap kind_at at ∙ (kind_there more ∙ rw same refl)

-- the words of an interaction in front of one that names something of this kind
pub record IsKindOf (kind : NameKind) (front : List (List ℕ)) : Type 0 where
  pub more : List (List ℕ)
  pub of : front ≡ codes "interaction" ∷ more
  pub is_head : Bool
  pub head : HeadSo is_head front
  pub is : kind ≡ cond is_head Port Variable

pub kind_first : (name : List ℕ) → IsKindOf Port (codes "interaction" ∷ name ∷ [])
kind_first name = record {
  more = name ∷ [];
  of = refl;
  is_head = true;
  head = head_first (codes "interaction") name;
  is = refl;
}

pub kind_more : (word : List ℕ) (kind : NameKind) → begins_list word ≡ false
    → (front : List (List ℕ)) → IsKindOf kind front → IsKindOf kind (front ++ word ∷ [])
kind_more word kind none front so = record {
  more = so.more ++ word ∷ [];
  of = ap (λ (ws : List (List ℕ)). ws ++ word ∷ []) so.of;
  is_head = so.is_head;
  head = head_word so.is_head word none front so.head;
  is = so.is;
}

pub kind_ends : (word : List ℕ) (kind : NameKind) → begins_list word ≡ true
    → (front : List (List ℕ)) → IsKindOf kind front → IsKindOf Variable (front ++ word ∷ [])
kind_ends word kind begins front so = record {
  more = so.more ++ word ∷ [];
  of = ap (λ (ws : List (List ℕ)). ws ++ word ∷ []) so.of;
  is_head = false;
  head = head_ends so.is_head word begins front so.head;
  is = refl;
}

pub kind_so : (kind : NameKind) (front : List (List ℕ)) → IsKindOf kind front
    → kind ≡ kind_behind front
kind_so kind front so = so.is ∙ (ap (λ b. cond b Port Variable) (sym so.head.so) ∙ rw so.of refl)

-- two words less
pub drop_two : (ws : List (List ℕ)) → drop 1 (drop 1 ws) ≡ drop 2 ws
drop_two [] = refl
drop_two (a ∷ []) = refl
drop_two (a ∷ b ∷ ws) = refl

-- nothing of any kind
pub all_kinds : (P : NameKind → Type 0) → P Variable → P Location → P Port → (kind : NameKind)
    → P kind
all_kinds P v l p Variable = v
all_kinds P v l p Location = l
all_kinds P v l p Port = p
