use Rattle.std.proofs.Common.{◌∷◌, [], ap, subst, sym}
use Rattle.bip_schedule.specs.Writing.{HaveSpelling}
use Rattle.bip_core.specs.declared.events.Event.{Event}
use Rattle.bip_sequence.proofs.NoteLemmas.{with_row}
use Rattle.bip_sequence.specs.declared.notes.EventRow.{EventRow}
use Rattle.bip_sequence.proofs.notes.Notes.note.Goals as goal

pub invariant_of-self-in_err-put_flights : goal.invariant_of-self-in_err-put_flights
invariant_of-self-in_err-put_flights g c = record {
  stations = c.self.invariant.stations;
  spelled = rw c.in_ok-put_row.ensures.ok (with_row c.self.inside.plan.now
      c.self.inside.stations.now c.self.inside.before c.row_of-row.result
      c.self.inside.rows.items c.self.invariant.stations
      (subst (λ (e : Event). HaveSpelling c.self.inside.plan.now (e ∷ []))
      (sym (ap (λ (r : EventRow). r.event) c.row_of-row.ensures))
      (rw (← c.self.view_is) at c.requires)) c.self.invariant.spelled);
}

pub invariant_of-self-2 : goal.invariant_of-self-2
invariant_of-self-2 g c = record {
  stations = c.self.invariant.stations;
  spelled = rw c.in_ok-put_row.ensures.ok (with_row c.self.inside.plan.now
      c.self.inside.stations.now c.self.inside.before c.row_of-row.result
      c.self.inside.rows.items c.self.invariant.stations
      (subst (λ (e : Event). HaveSpelling c.self.inside.plan.now (e ∷ []))
      (sym (ap (λ (r : EventRow). r.event) c.row_of-row.ensures))
      (rw (← c.self.view_is) at c.requires)) c.self.invariant.spelled);
}
