-- The grant that is expected of an interaction: its parties, each by the number of its next move;
-- and lines that are written as it.
use Rattle.std.specs.Fmt.{decimal}
use Rattle.std.specs.List.{flat_map, list_any}
use Rattle.std.specs.List.Sorted.{IsPermutation}
use Rattle.std.specs.Prelude.{All, Bool, IsTrue, List, Ok, Some, [], length, map, slice_get}
use Rattle.std.specs.Prelude.{slice_index, true, ℕ, ◌⊎◌}
use Rattle.std.specs.Prelude.{◌+◌, ◌++◌, ◌<◌, ◌==◌, ◌∷◌, ◌≡◌, ◌≤◌}
use Rattle.bip_model.specs.Naming.{IsName, name_in}
use Rattle.bip_model.specs.Numbering.{last_number}
use Rattle.bip_model.specs.Parties.{AreParties, SeeAll}
use Rattle.bip_model.specs.Parts.{IsSystem, Participant}
use Rattle.bip_model.specs.Steps.{IsListLookedAt, participants_of}
use Rattle.bip_model.specs.Texts.{is_blank, is_plain, spaced, words}
use Rattle.bip_model.specs.declared.grants.Grant.{Grant}
use Rattle.bip_model.specs.declared.numbering.CompId.{CompId}
use Rattle.bip_model.specs.declared.parts.System.{System}
use Rattle.bip_replay.specs.Laws.{IsNameOf}
use Rattle.bip_replay.specs.Lines.{colon, grant_on}
use Rattle.bip_replay.specs.Runs.{HasNextNumber, Standing}
use Rattle.bip_replay.specs.Writing.{behind_see}

-- a grant is expected of an interaction: it has all its parties, each by the number of its next
-- move
pub record IsExpectedGrant (p : Standing) (a : ℕ) (g : Grant) : Type 0 where
  pub inter : g.inter.0 ≡ a
  pub numbers : All (HasNextNumber p.used) g.wants
  pub parties : AreParties p.model a g.wants
  pub all : SeeAll p.model a g.wants

-- there is such a grant
abbrev pub HasExpected : Standing → ℕ → Type 0
HasExpected p a = (g : Grant) × IsExpectedGrant p a g

-- What contracts of private functions say.

-- a line reads as a grant that is expected of an interaction
pub record Expects (p : Standing) (line : List ℕ) (a : ℕ) : Type 0 where
  pub grant : Grant
  pub reads : grant_on p.model line ≡ Ok (Some grant)
  pub is : IsExpectedGrant p a grant

-- a text is the name of the interaction with this number
pub record IsInterName (m : System) (text : List ℕ) (a : ℕ) : Type 0 where
  pub valid : IsSystem m
  pub named : IsNameOf m.interaction_names text a

-- a component has a place among used numbers, and a next move
pub record HasNextIn (used : List ℕ) (c : CompId) : Type 0 where
  pub known : c.0 < length used
  pub next : slice_index used c.0 < last_number

-- whether a component is a participant's
abbrev pub takes_part : List Participant → ℕ → Bool
takes_part participants c = list_any (λ (q : Participant). q.0.0 == c) participants

-- `C:N`, by the number of the component's next move
abbrev pub next_word : Standing → CompId → List ℕ
next_word p c = name_in p.model.component_names c.0 ++ colon ∷ decimal (p.used c.0 + 1)

-- there is such a word: the component has a next move
pub record HasNextWord (p : Standing) (c : CompId) : Type 0 where
  pub known : c.0 < length p.model.component_names
  pub name : IsName (name_in p.model.component_names c.0)
  pub next : p.used c.0 < last_number

-- the components of participants
abbrev pub comps_of : List Participant → List CompId
comps_of participants = map (λ (q : Participant). q.0) participants

-- a text begins with the words of components, and the rest follows
pub record BeginsWith (p : Standing) (comps : List CompId) (text rest : List ℕ) : Type 0 where
  pub begins : text ≡ flat_map spaced (map (next_word p) comps) ++ rest
  pub words : All (HasNextWord p) comps

-- a text begins with what is expected behind an interaction, and the rest follows
pub record BeginsWithWants (p : Standing) (a : ℕ) (text rest : List ℕ) : Type 0 where
  pub looks : List CompId
  pub listed : IsListLookedAt p.model a looks
  pub few : length (participants_of p.model a) + length looks ≤ 32
  pub begins : text
      ≡ flat_map spaced (map (next_word p) (comps_of (participants_of p.model a)))
      ++ flat_map spaced (behind_see (map (next_word p) looks)) ++ rest
  pub moved : All (HasNextWord p) (comps_of (participants_of p.model a))
  pub seen : All (HasNextWord p) looks

-- a word ends before a text
abbrev pub IsApart : List ℕ → Type 0
IsApart text = (text ≡ []) ⊎ IsTrue (is_blank (slice_index text 0))

-- a text is blanks and the rest
pub record IsBehindBlanks (text rest : List ℕ) : Type 0 where
  pub blanks : List ℕ
  pub all : All (λ b. IsTrue (is_blank b)) blanks
  pub is : text ≡ blanks ++ rest

-- a text is a component's word, which ends there, and the rest
pub record BeginsWithWord (p : Standing) (comp : CompId) (text rest : List ℕ) : Type 0 where
  pub begins : text ≡ next_word p comp ++ rest
  pub ends : IsApart rest
  pub known : HasNextWord p comp

-- a text is plain where what is left of it is
abbrev pub IsPlainBefore : List ℕ → List ℕ → Type 0
IsPlainBefore text rest = is_plain rest ≡ true → is_plain text ≡ true

-- the words of a text begin with those of components, in any order, and the rest follows
pub record TakesWords (p : Standing) (comps : List CompId) (text rest : List ℕ) : Type 0 where
  pub taken : List CompId
  pub all : IsPermutation comps taken
  pub says : words text ≡ map (next_word p) taken ++ words rest
  pub plain : IsPlainBefore text rest
  pub known : All (HasNextWord p) taken

-- its first word is that of one of these components, without which the others are left
pub record TakesNextWord (p : Standing) (comps left : List CompId) (text rest : List ℕ) :
    Type 0 where
  pub comp : CompId
  pub all : IsPermutation comps (comp ∷ left)
  pub says : words text ≡ next_word p comp ∷ words rest
  pub plain : IsPlainBefore text rest
  pub known : HasNextWord p comp

-- the words of a text begin with what is expected behind an interaction, in any order
pub record TakesWants (p : Standing) (a : ℕ) (text rest : List ℕ) : Type 0 where
  pub looks : List CompId
  pub listed : IsListLookedAt p.model a looks
  pub few : length (participants_of p.model a) + length looks ≤ 32
  pub moved : List CompId
  pub seen : List CompId
  pub all_moved : IsPermutation (comps_of (participants_of p.model a)) moved
  pub all_seen : IsPermutation looks seen
  pub says : words text
      ≡ map (next_word p) moved ++ (behind_see (map (next_word p) seen) ++ words rest)
  pub plain : IsPlainBefore text rest
  pub moves : All (HasNextWord p) moved
  pub sees : All (HasNextWord p) seen

-- the component at a place is the one with whose word a text begins
pub record IsNextAmong (p : Standing) (comps : List CompId) (place : ℕ) (text rest : List ℕ) :
    Type 0 where
  pub comp : CompId
  pub at : slice_get comps place ≡ Some comp
  pub word : BeginsWithWord p comp text rest
