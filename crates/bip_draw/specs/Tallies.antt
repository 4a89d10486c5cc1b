-- Tallies as text: how often each interaction is granted, and which traces end.
use Rattle.std.specs.Fmt.{decimal}
use Rattle.std.specs.List.{flat_map, range_with_len}
use Rattle.std.specs.Prelude.{◌++◌, ◌∷◌, List, [], None, Option, Some, codes, length}
use Rattle.std.specs.Prelude.{slice_index_or, ℕ}
use Rattle.bip_model.specs.Naming.{name_in}
use Rattle.bip_model.specs.Texts.{line_feed, spaced}
use Rattle.bip_model.specs.declared.parts.System.{System}
use Rattle.bip_walk.specs.Tallies.{Tallied}
use Rattle.bip_walk.specs.declared.tallies.FirstEnd.{FirstEnd}
use Rattle.bip_walk.specs.declared.tallies.GrantCount.{GrantCount}

-- `granted INTERACTION N seeds S`, by the interaction's name
unfoldable pub granted_line : List ℕ → GrantCount → List ℕ
granted_line name count =
    codes "granted"
    ++ (spaced name
    ++ (spaced (decimal count.grants)
    ++ (spaced (codes "seeds") ++ (spaced (decimal count.traces) ++ line_feed ∷ []))))

-- the same of each interaction in turn
abbrev pub granted_at : System → List GrantCount → ℕ → List ℕ
granted_at m counts a =
    granted_line (name_in m.interaction_names a)
    (slice_index_or counts a (record { grants = 0; traces = 0 }))

abbrev pub granted_lines : System → List GrantCount → List ℕ
granted_lines m counts = flat_map (granted_at m counts) (range_with_len 0 (length counts))

-- `ended S`, and of the first trace that does ` first SEED after N`
unfoldable pub first_words : FirstEnd → List ℕ
first_words end =
    spaced (codes "first")
    ++ (spaced (decimal end.seed) ++ (spaced (codes "after") ++ spaced (decimal end.grants)))

abbrev pub first_or_none : Option FirstEnd → List ℕ
first_or_none None = []
first_or_none (Some end) = first_words end

abbrev pub ended_line : ℕ → Option FirstEnd → List ℕ
ended_line stuck first =
    codes "ended" ++ (spaced (decimal stuck) ++ (first_or_none first ++ line_feed ∷ []))

-- the text of a tally
abbrev pub tally_text : System → Tallied → List ℕ
tally_text m t = granted_lines m t.counts ++ ended_line t.stuck t.first
