use Rattle.std.proofs.Common.{List, subst}
use Rattle.std.specs.Prelude.{All}
use Rattle.bip_model.specs.declared.numbering.InterId.{InterId}
use Rattle.bip_partition.proofs.TableLemmas.{one_stations}
use Rattle.bip_schedule.specs.Writing.{HasSpelling}
use Rattle.bip_schedule.proofs.writing.have_spelling.Goals as goal

pub returns : goal.returns
returns c =
    let p = c.args.plan.now in
    let ours = c.stations.result.now in
    let all : List InterId → Type 0 =
    λ stations. All (HasSpelling p stations) c.args.events.now in (
      λ yes stations are. subst all (one_stations p ours stations c.stations.ensures are)
          (c.all_have_spelling.ensures.0 yes),
      λ each. c.all_have_spelling.ensures.1 (each ours c.stations.ensures),
    )
