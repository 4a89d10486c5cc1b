-- Why the laws of plans hold.
use Rattle.std.proofs.Common.{◌≡◌, ℕ, true, false, eqb, [], get_or, refl, sym, inl, inr, eqb-true}
use Rattle.std.proofs.Common.{eq-eqb}
use Rattle.std.specs.List.{list_any}
use Rattle.std.proofs.lemmas.Bool.{cases_Bool}
use Rattle.std.proofs.lemmas.Option.{slice_get-get_or}
use Rattle.bip_model.specs.Laws.{MoveApart}
use Rattle.bip_model.specs.Partitions.{class_in}
use Rattle.bip_model.specs.Parts.{Participant}
use Rattle.bip_model.specs.Priorities.{inter}
use Rattle.bip_model.specs.States.{State}
use Rattle.bip_model.specs.Steps.{MayRun, after, moves}
use Rattle.bip_model.specs.declared.numbering.InterId.{InterId}
use Rattle.bip_model.specs.declared.parts.System.{System}
use Rattle.bip_model.specs.declared.parts.Interaction.{Interaction}
use Rattle.bip_model.proofs.LawLemmas.{commute, others_stay}
use Rattle.bip_model.proofs.LookLemmas.{may_run_is_local}
use Rattle.std.proofs.lemmas.Bool.{eqb-false}
use Rattle.std.proofs.lemmas.List.Folds.{Any-from_list_any, list_any-from_Any, list_any_at}
use Rattle.bip_partition.proofs.ClassLemmas.{stands_in_its_class}
use Rattle.bip_partition.proofs.TouchLemmas.{touches_known}
use Rattle.bip_partition.specs.Laws.{ConflictsBothWays, EachMoves, LocalLooksAtNothing}
use Rattle.bip_partition.specs.Laws.{LocalMeansNone, LocalStaysInItsClass, OneClassWithoutRow}
use Rattle.bip_partition.specs.Laws.{ReservedAreListed, ReservedMeansAll, RowsAreClosed}
use Rattle.bip_partition.specs.Laws.{RowsAreLeast, RunApart, TouchesWithItsClass}
use Rattle.bip_partition.specs.Plans.{InConflict, Touches, beside, looked_at, of_two_classes}

pub rows_closed : RowsAreClosed
rows_closed p = record {
  looked_at = λ a c looked. looked_at looked;
  of_two_classes = λ k l c differ one other. of_two_classes differ one other;
  beside =
      λ a c d own near rest. beside own near rest;
}

pub rows_least : RowsAreLeast
rows_least p set closed c (looked_at {a} looked) = closed.looked_at a c looked
rows_least p set closed c (of_two_classes {k} {l} differ one other) =
    closed.of_two_classes k l c differ one other
rows_least p set closed c (beside {a} {d = d} own near rest) =
    closed.beside a c d own near (rows_least p set closed d rest)

pub reserved_all : ReservedMeansAll
reserved_all p a c is touched = beside touched is.touched is.tabled

pub local_none : LocalMeansNone
local_none p a c local touched row = local (record { comp = c; touched = touched; tabled = row })

pub local_alone : LocalLooksAtNothing
local_alone p a c local looked = local_none p a c local (inr looked) (looked_at looked)

pub both_ways : ConflictsBothWays
both_ways m a b (c, (first, second, inl own)) = (c, (second, first, inr own))
both_ways m a b (c, (first, second, inr other)) = (c, (second, first, inl other))

-- what isn't in conflict moves nothing that the other one touches
not_moved : (m : System) (a b c : ℕ) → (¬ InConflict m a b) → Touches m b c → moves m a c ≡ false
not_moved m a b c free touched = elim (cases_Bool (moves m a c)) [
  | inl moved ↦ absurd (free (c, (inl moved, touched, inl moved)))
  | inr other ↦ other
]

may_after : (m : System) (s : State) (a b : ℕ) → MayRun m s b → (¬ InConflict m a b)
    → MayRun m (after m s a) b
may_after m s a b may free = (may_run_is_local m s (after m s a) b
    (λ c touched. sym (others_stay m s a c (not_moved m a b c free touched)))).0 may

pub run_apart : RunApart
run_apart m s a b one other free =
    let apart : MoveApart m a b = λ c moved. elim (cases_Bool (moves m b c)) [
      | inl both ↦ absurd (free (c, (inl moved, inl both, inl moved)))
      | inr alone ↦ alone
    ] in
    record {
      second = may_after m s a b other free;
      first = may_after m s b a one (λ back. free (both_ways m b a back));
      end =
          (commute m s a b apart).1;
    }

-- what touches a component makes its class touch it
pub class_touches : TouchesWithItsClass
class_touches p planned a c touched =
    let at = (stands_in_its_class p planned a
    (touches_known p.model a c planned.valid touched)).0 in
    (at.0, inter a, at.1, at.2, touched)

pub one_class_without_row : OneClassWithoutRow
one_class_without_row p planned a b c first second bare =
    elim (cases_Bool (eqb (class_in p.classes a) (class_in p.classes b))) [
      | inl same ↦ eqb-true (class_in p.classes a) (class_in p.classes b) same
      | inr differ ↦ absurd (bare (of_two_classes
          (eqb-false (class_in p.classes a) (class_in p.classes b) differ)
          (class_touches p planned a c first) (class_touches p planned b c second)))
    ]

pub each_moves : EachMoves
each_moves m valid a within =
    let none : Interaction = record { participants = []; guard = []; transfer = [] } in
    let i : Interaction = get_or m.interactions a none in
    let first : Participant = get_or i.participants 0 (record { 0 = 0 }, record { 0 = 0 }) in
    let some = (valid.so_far.interactions a none within).some in
    let own : list_any (λ (q : Participant). eqb q.0.0 first.0.0) i.participants ≡ true =
    list_any_at (λ (q : Participant). eqb q.0.0 first.0.0) i.participants 0
    (record { 0 = 0 }, record { 0 = 0 }) some (eq-eqb first.0.0 first.0.0 refl) in
    (first.0.0, rw (slice_get-get_or m.interactions a none within) own)

pub local_in_class : LocalStaysInItsClass
local_in_class p planned a b c local first second =
    one_class_without_row p planned a b c first second (local_none p a c local first)

pub reserved_listed : ReservedAreListed
reserved_listed p list are a = (
  λ member.
      let at = Any-from_list_any (λ (b : InterId). eqb b.0 a) list member in
      rw (← eqb-true at.1.0 a at.4) ((are.exact at.1.0).0 (at.0, at.2, at.3)),
  λ reserved.
      let at = (are.exact a).1 reserved in
      list_any-from_Any (λ (b : InterId). eqb b.0 a) list
      (at.0, inter a, at.1, at.2, eq-eqb a a refl),
)
