-- The one spelling of traces: moved components, then the seen ones, each by component; one space
-- between words, and a line feed after each line.
use Rattle.std.specs.Fmt.{decimal}
use Rattle.std.specs.List.{flat_map}
use Rattle.std.specs.Prelude.{All, Bool, List, [], codes, filter, length, map}
use Rattle.std.specs.Prelude.{not, ℕ, ◌++◌, ◌<◌, ◌^◌, ◌∷◌}
use Rattle.bip_model.specs.Naming.{IsName, name_in}
use Rattle.bip_model.specs.Texts.{line_feed, spaced}
use Rattle.bip_model.specs.Wants.{is_moved}
use Rattle.bip_model.specs.declared.grants.Grant.{Grant}
use Rattle.bip_model.specs.declared.wants.Role.TheVariants.{Moved, Seen}
use Rattle.bip_model.specs.declared.wants.Role.{Role}
use Rattle.bip_model.specs.declared.wants.Want.{Want}
use Rattle.bip_model.specs.declared.parts.System.{System}
use Rattle.bip_replay.specs.Lines.{colon}

-- a grant of a model: the model has its interaction and its components
pub record IsGrantOf (m : System) (g : Grant) : Type 0 where
  pub inter : g.inter.0 < length m.interaction_names
  pub components : All (λ (w : Want). w.comp.0 < length m.component_names) g.wants

-- `C:N`
abbrev pub want_word : System → Want → List ℕ
want_word m w = name_in m.component_names w.comp.0 ++ colon ∷ decimal w.number

-- whether a want has a role
abbrev pub has_role : Role → Want → Bool
has_role Moved w = is_moved w.role
has_role Seen w = not (is_moved w.role)

-- the words of the wants with a role
abbrev pub want_words : System → Role → List Want → List (List ℕ)
want_words m role wants = map (want_word m) (filter (has_role role) wants)

-- words behind `see`, where there are any
abbrev pub behind_see : List (List ℕ) → List (List ℕ)
behind_see [] = []
behind_see (word ∷ words) = codes "see" ∷ word ∷ words

-- what stands behind the word `grant`
abbrev pub words_behind : System → Grant → List (List ℕ)
words_behind m g =
    name_in m.interaction_names g.inter.0
    ∷ (want_words m Moved g.wants ++ behind_see (want_words m Seen g.wants))

-- the line of a grant, without its line feed
abbrev pub bare_line : System → Grant → List ℕ
bare_line m g = codes "grant" ++ flat_map spaced (words_behind m g)

-- the same, with its line feed
abbrev pub line_of : System → Grant → List ℕ
line_of m g = bare_line m g ++ line_feed ∷ []

-- the text of grants
abbrev pub text_of : System → List Grant → List ℕ
text_of m gs = flat_map (line_of m) gs

-- a want whose word can be read: its component has a name, and its number is one of 64 bits
pub record IsSpelled (m : System) (w : Want) : Type 0 where
  pub component : w.comp.0 < length m.component_names
  pub name : IsName (name_in m.component_names w.comp.0)
  pub high : w.number < 2 ^ 64
