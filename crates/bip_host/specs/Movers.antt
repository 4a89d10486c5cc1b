-- Which component moves first by a grant, and is the first that is told of it.
use Rattle.std.specs.Option.{option_map}
use Rattle.std.specs.Prelude.{◌≡◌, List, [], ◌∷◌, Option, None, Some, find}
use Rattle.bip_host.specs.declared.books.Entry.{Entry}
use Rattle.bip_host.specs.declared.books.Mover.{Mover}
use Rattle.bip_model.specs.Wants.{is_moved}
use Rattle.bip_model.specs.declared.messages.Notify.{Notify}
use Rattle.bip_model.specs.declared.wants.Want.{Want}

-- the first component that wants move, with its number: in a run no other grant moves it so
abbrev pub mover_in : List Want → Option Mover
mover_in wants =
    option_map (λ (w : Want). record { comp = w.comp; number = w.number })
    (find (λ (w : Want). is_moved w.role) wants)

-- the component that the first notification is for, with its number
abbrev pub first_told : List Notify → Option Mover
first_told [] = None
first_told (n ∷ ns) = Some (record { comp = n.comp; number = n.number })

-- notifications can be those of an entry's grant: the first one is for its mover
abbrev pub CanTell : Entry → List Notify → Type 0
CanTell entry notifies =
    (mover : Mover) × (entry.mover ≡ Some mover) × (first_told notifies ≡ Some mover)
