use Rattle.std.proofs.Common.{◌≡◌, ◌∙◌, List, ap, arith, length, map}
use Rattle.std.proofs.lemmas.List.{length-map}
use Rattle.bip_bank.proofs.StationLemmas.{few_stations}
use Rattle.bip_forks.proofs.IdlenessLemmas.{idle_steps_as}
use Rattle.bip_forks.specs.Kept.{KeptForks}
use Rattle.bip_forks.specs.Stations.{KeptStation}
use Rattle.bip_model.specs.declared.numbering.InterId.{InterId}
use Rattle.bip_partition.proofs.TableLemmas.{one_stations}
use Rattle.bip_forks.proofs.forks.ForksBank.idle_until.Goals as goal

pub idle_until-requires : goal.idle_until-requires
idle_until-requires c =
    let inters = map (λ (s : KeptStation). s.inter) c.self.inside.stations.items in
    let few = few_stations c.self.inside.plan.now inters c.self.invariant.valid
    c.self.invariant.listed in
    record {
      few = omega (
        arith,
        few,
        length-map c.self.inside.stations.items (λ (s : KeptStation). s.inter),
        ap (λ (xs : List KeptStation). length xs) c.deref.ensures.value,
      );
    }

pub returns-clause-idle : goal.returns-clause-idle
returns-clause-idle c = λ list listed.
    let k : KeptForks = record {
      plan = c.self.inside.plan.now;
      base = c.self.inside.base;
      parts = record {
        stations = c.self.inside.stations.items;
        flight = c.self.inside.flight.items;
        grants = c.self.inside.grants.items;
      };
    } in
    let inters = map (λ (s : KeptStation). s.inter) k.parts.stations in
    let counted : length list ≡ length k.parts.stations =
    ap (λ (xs : List InterId). length xs) (one_stations k.plan list inters
    (rw (← c.self.view_is) at listed) c.self.invariant.listed)
    ∙ length-map k.parts.stations (λ (s : KeptStation). s.inter) in
    rw (← c.self.view_is) (idle_steps_as k (length list) c.args.from c.idle_until.result
    c.self.invariant counted
    (rw c.deref.ensures.value at (c.idle_until.ensures.idle c.self.inside.flight.items
    c.self.inside.grants.items)))
