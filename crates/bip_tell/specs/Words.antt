-- The words that lines are made of, each behind a space. A number that the plan lacks has no name.
use Rattle.std.specs.Fmt.{decimal}
use Rattle.std.specs.List.{flat_map}
use Rattle.std.specs.Option.{option_map_or}
use Rattle.std.specs.Prelude.{List, [], slice_get, ℕ, ◌++◌, ◌∷◌}
use Rattle.bip_model.specs.Naming.{name_in}
use Rattle.bip_model.specs.Texts.{spaced}
use Rattle.bip_model.specs.declared.parts.Component.{Component}
use Rattle.bip_model.specs.declared.parts.System.{System}
use Rattle.bip_model.specs.declared.wants.Role.TheVariants.{Moved, Seen}
use Rattle.bip_model.specs.declared.wants.Want.{Want}
use Rattle.bip_partition.specs.Plans.{Planned}
use Rattle.bip_replay.specs.Lines.{colon}
use Rattle.bip_replay.specs.Writing.{behind_see, want_words}

-- the name with a number
abbrev pub named : List (List ℕ) → ℕ → List ℕ
named names n = spaced (name_in names n)

-- a number
abbrev pub counted : ℕ → List ℕ
counted n = spaced (decimal n)

-- ` C:N`: a component and a number of its
abbrev pub move_named : System → ℕ → ℕ → List ℕ
move_named m c n = named m.component_names c ++ colon ∷ decimal n

-- the name of a component's port
abbrev pub port_named : System → ℕ → ℕ → List ℕ
port_named m c port =
    spaced (option_map_or (λ (x : Component). name_in x.ports port) (slice_get m.components c) [])

-- ` A:1 R:1 see B:2`: wants as a trace spells them
abbrev pub each_want_text : System → List Want → List ℕ
each_want_text m wants =
    flat_map spaced (want_words m Moved wants)
    ++ flat_map spaced (behind_see (want_words m Seen wants))

-- ` P x 1`: the class, the interaction and the number of a request
abbrev pub asked_text : Planned → ℕ → ℕ → ℕ → List ℕ
asked_text p k a n =
    named p.classes.names k ++ (named p.model.interaction_names a ++ counted n)
