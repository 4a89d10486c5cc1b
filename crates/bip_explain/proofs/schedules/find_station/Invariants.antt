use Rattle.std.proofs.Common.{◌≡◌}
use Rattle.std.specs.Prelude.{All}
use Rattle.bip_model.specs.Naming.{IsName}
use Rattle.bip_model.specs.Texts.{words}
use Rattle.bip_explain.specs.Schedules.{HasStation}
use Rattle.bip_explain.proofs.FrontLemmas.{IsLeft, NameStations}
use Rattle.bip_explain.proofs.schedules.find_station.Given as goal

abbrev pub invariant-loop-placed : goal.invariant-loop-placed
invariant-loop-placed l = record {
  line : l.placed-iterator.line.now ≡ l.fn.left.line.now;
  known : All (λ word. IsName word → HasStation l.plan word) (words l.placed-iterator.rest.now)
      → All (λ word. IsName word → HasStation l.plan word) (words l.fn.left.rest.now);
  left : IsLeft NameStations l.fn.left.line.now (words l.placed-iterator.rest.now);
}
