-- What is noted, piece by piece.
use Rattle.std.proofs.Common.{◌≡◌, ◌∙◌, ◌+◌, ◌++◌, ◌∷◌, ◌<◌, ℕ, List, Some, [], ap, drop}
use Rattle.std.proofs.Common.{Bool, append_assoc, arith, false, length, map, slice_get, sym, true}
use Rattle.std.proofs.lemmas.List.{drop_more}
use Rattle.std.proofs.lemmas.List.Elements.{All-push}
use Rattle.std.proofs.lemmas.Option.{get_or_from_slice_get}
use Rattle.std.specs.Prelude.{All, if◌then◌else◌, nat_lt}
use Rattle.bip_model.specs.declared.numbering.InterId.{InterId}
use Rattle.bip_partition.specs.Plans.{AreStations, Planned}
use Rattle.bip_schedule.specs.Writing.{HasSpelling, HaveSpelling}
use Rattle.bip_sequence.specs.Notes.{rows_with}
use Rattle.bip_sequence.specs.declared.notes.EventRow.{EventRow}

-- what is made of one thing more of a list
pub mapped_one : {X Y : Type 0} (f : X → Y) (place : ℕ) (x : X) (xs : List X) (y : Y)
    (done later all : List Y) → place < length xs → slice_get xs place ≡ Some x
    → later ≡ done ++ y ∷ [] → y ≡ f x → done ++ map f (drop place xs) ≡ all
    → later ++ map f (drop (place + 1) xs) ≡ all
mapped_one f place x xs y done later all within found put made before =
    let rest = drop (place + 1) xs in
    let here : drop place xs ≡ x ∷ rest =
    drop_more xs place x within ∙ ap (λ d. d ∷ rest) (get_or_from_slice_get xs place x x found) in
    ap (λ l. l ++ map f rest) (put ∙ ap (λ d. done ++ d ∷ []) made)
    ∙ (append_assoc done (f x ∷ []) (map f rest)
    ∙ (sym (ap (λ l. done ++ map f l) here) ∙ before))

either_all : {X : Type 0} (P : X → Type 0) (b : Bool) (xs ys : List X) → All P xs → All P ys
    → All P (if b then xs else ys)
either_all P true xs ys one other = one
either_all P false xs ys one other = other

-- one more row, of an event that has a spelling
pub with_row : (p : Planned) (stations : List InterId) (before : ℕ) (row : EventRow)
    (rows : List EventRow) → AreStations p stations → HaveSpelling p (row.event ∷ [])
    → All (λ (r : EventRow). HasSpelling p stations r.event) rows
    → All (λ (r : EventRow). HasSpelling p stations r.event) (rows_with before row rows)
with_row p stations before row rows are one spelled =
    let P = λ (r : EventRow). HasSpelling p stations r.event in
    let here : HasSpelling p stations row.event = one stations are 0 row.event (omega arith) in
    either_all P (nat_lt before row.number) (rows ++ row ∷ []) rows
    (All-push P rows row spelled here) spelled
