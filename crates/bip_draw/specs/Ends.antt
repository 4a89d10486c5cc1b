-- Where a run leads, as text: what each component is in, and what may run there.
use Rattle.std.specs.Fmt.{decimal}
use Rattle.std.specs.List.{flat_map, range_with_len}
use Rattle.std.specs.Prelude.{◌≡◌, ◌+◌, ◌++◌, ◌∷◌, List, [], codes, length, ℕ}
use Rattle.bip_model.specs.Naming.{name_in}
use Rattle.bip_model.specs.States.{State}
use Rattle.bip_model.specs.Steps.{IsEnabled, IsLowestAbove, MayRun}
use Rattle.bip_model.specs.Texts.{line_feed, spaced}
use Rattle.bip_model.specs.declared.parts.Component.{Component}
use Rattle.bip_model.specs.declared.parts.System.{System}
use Rattle.bip_reader.specs.Writing.{component_in}
use Rattle.bip_replay.specs.Faults.{expected_after}
use Rattle.bip_replay.specs.Runs.{NothingMayRun, Standing}
use Rattle.bip_draw.specs.Locals.{location_at, value_at}

-- ` VARIABLE=VALUE`, of each variable of a component in turn
abbrev pub value_word : Component → ℕ → ℕ → List ℕ
value_word k v n = spaced (name_in k.variables v) ++ (codes "=" ++ decimal n)

abbrev pub value_words : Component → ℕ → State → List ℕ
value_words k c s =
    flat_map (λ v. value_word k v (value_at s c v)) (range_with_len 0 (length k.variables))

-- `at COMPONENT NEXT LOCATION VARIABLE=VALUE ..`, of a component by its name, the number of its
-- next move, and the state
unfoldable pub place_line : List ℕ → ℕ → Component → ℕ → State → List ℕ
place_line name next k c s =
    codes "at"
    ++ (spaced name
    ++ (spaced (decimal next)
    ++ (spaced (name_in k.locations (location_at s c))
    ++ (value_words k c s ++ line_feed ∷ []))))

-- the same of each component in turn where a run stands: 0 is the next number of a spent one
abbrev pub standing_line : Standing → ℕ → List ℕ
standing_line p c =
    place_line (name_in p.model.component_names c) (expected_after (p.used c))
    (component_in p.model c) c p.state

abbrev pub standing_lines : Standing → List ℕ
standing_lines p = flat_map (standing_line p) (range_with_len 0 (length p.model.components))

-- `may INTERACTION`, and `below INTERACTION OTHER`
abbrev pub may_line : System → ℕ → List ℕ
may_line m a = codes "may" ++ (spaced (name_in m.interaction_names a) ++ line_feed ∷ [])

abbrev pub below_line : System → ℕ → ℕ → List ℕ
below_line m a b =
    codes "below"
    ++ (spaced (name_in m.interaction_names a)
    ++ (spaced (name_in m.interaction_names b) ++ line_feed ∷ []))

-- what is said of an interaction in a state: that it may run; that it is enabled, and below the
-- lowest-numbered enabled one above it; or nothing, where it isn't enabled
pub data IsMayLine (m : System) (s : State) (a : ℕ) : List ℕ → Type 0 where
  runs : MayRun m s a → IsMayLine m s a (may_line m a)
  held_back : (b : ℕ) → IsEnabled m s a → IsLowestAbove m s a b
      → IsMayLine m s a (below_line m a b)
  off : ¬ IsEnabled m s a → IsMayLine m s a []

-- a text, and behind it what is said of each of so many interactions in turn
pub data AddsMayLines (m : System) (s : State) (text : List ℕ) : ℕ → List ℕ → Type 0 where
  none_said : AddsMayLines m s text 0 text
  one_said : {a : ℕ} {more line : List ℕ} → AddsMayLines m s text a more → IsMayLine m s a line
      → AddsMayLines m s text (a + 1) (more ++ line)

-- a text, and behind it what may run in a state: what is said of each interaction, or that nothing
-- may run
pub data AddsRunnable (m : System) (s : State) (text : List ℕ) : List ℕ → Type 0 where
  some_may : {more : List ℕ} → ¬ NothingMayRun m s
      → AddsMayLines m s text (length m.interactions) more → AddsRunnable m s text more
  none_may : NothingMayRun m s → AddsRunnable m s text (text ++ codes "nothing may run\n")

-- the text of where a run stands: what each component is in, and what may run there
abbrev pub IsEndText : Standing → List ℕ → Type 0
IsEndText p text = AddsRunnable p.model p.state (standing_lines p) text

-- What contracts of private functions say.

-- what is said of an interaction is added
pub record AddsMayLine (m : System) (s : State) (a : ℕ) (old new : List ℕ) : Type 0 where
  pub line : List ℕ
  pub holds : IsMayLine m s a line
  pub added : new ≡ old ++ line
