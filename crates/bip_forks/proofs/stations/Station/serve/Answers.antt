use Rattle.std.proofs.Common.{inr, refl, rules, sym, subst}
use Rattle.bip_forks.proofs.StationLemmas.{IsUndecidedHere, raised_alone, row_unknown}
use Rattle.bip_forks.specs.Stations.{AllLie, IsRaisedAlone, IsReadyToServe, KeptStation}
use Rattle.bip_forks.proofs.stations.Station.serve.Goals as goal

pub returns-in-Err-UnknownRow-clause-none : goal.returns-in-Err-UnknownRow-clause-none
returns-in-Err-UnknownRow-clause-none c =
    let ready : IsReadyToServe c.args.self.now = c.is_ready.ensures.0 (search rules) in
    let s : KeptStation = record {
      number = c.self.inside.number;
      inter = c.self.inside.inter;
      table = c.self.inside.table;
      waiting = c.self.inside.waiting;
      sides = c.self.inside.sides;
    } in
    let later : KeptStation = record s { table = c.decide.new.self } in
    inr (subst (λ (x : KeptStation). IsRaisedAlone x later × IsUndecidedHere x) c.self.view_is (
      raised_alone s later c.reserve_room.new.self c.raise_all.new.table c.decide.new.self
          c.reserve_room.ensures.kept c.raise_all.ensures.used c.raise_all.ensures.tabled
          c.raise_all.ensures.serial
          c.in-Err-UnknownRow.ensures.left refl,
      row_unknown s c.in-Some.request.now c.reserve_room.new.self c.raise_all.new.table
          c.in-Err-UnknownRow.field-0-0
          (sym c.in-Some.ensures) (subst (λ (x : KeptStation). AllLie x.sides)
          (sym c.self.view_is) ready.0) c.reserve_room.ensures.kept c.raise_all.ensures.tabled
          (rw c.in-Err-UnknownRow.field-0-is at c.in-Err-UnknownRow.ensures.answer),
    ))
