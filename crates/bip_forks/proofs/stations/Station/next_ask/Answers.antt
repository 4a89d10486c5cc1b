use Rattle.std.proofs.Common.{◌∙◌, ap, max, subst, sym}
use Rattle.std.proofs.lemmas.Bool.{false≢true}
use Rattle.bip_forks.proofs.StationLemmas.{IsNextToAsk, next_to_ask, none_to_ask}
use Rattle.bip_forks.specs.Stations.{KeptStation}
use Rattle.bip_forks.proofs.stations.Station.next_ask.Goals as goal

pub returns-then-is_waiting : goal.returns-then-is_waiting
returns-then-is_waiting c =
    let s : KeptStation = record {
      number = c.self.inside.number;
      inter = c.self.inside.inter;
      table = c.self.inside.table;
      waiting = c.self.inside.waiting;
      sides = c.self.inside.sides;
    } in
    subst (λ (z : KeptStation). IsNextToAsk z c.args.from c.next_neighbour.result) c.self.view_is
    (next_to_ask s c.args.from c.next_neighbour.result (c.is_waiting.ensures.0 c.if-is_waiting.true)
    c.next_neighbour.ensures)

pub returns-else-is_waiting : goal.returns-else-is_waiting
returns-else-is_waiting c =
    let s : KeptStation = record {
      number = c.self.inside.number;
      inter = c.self.inside.inter;
      table = c.self.inside.table;
      waiting = c.self.inside.waiting;
      sides = c.self.inside.sides;
    } in
    subst (λ (z : KeptStation). IsNextToAsk z c.args.from c.max.result) c.self.view_is
    (none_to_ask s c.args.from c.max.result
    (λ has. false≢true (sym c.if-is_waiting.false ∙ c.is_waiting.ensures.1 has))
    (c.max.ensures ∙ ap (max c.args.from) c.len.ensures))
