use Rattle.std.proofs.Common.{◌≡◌, ◌++◌, List, map, take}
use Rattle.std.specs.Prelude.{All}
use Rattle.std.specs.List.{flat_map}
use Rattle.bip_model.specs.Numbering.{IsLowest}
use Rattle.bip_review.specs.Reasons.{MovesFromAbove}
use Rattle.bip_review.specs.Writing.{Look, look_text}
use Rattle.bip_review.proofs.writing.write_looks.Given as goal

abbrev pub invariant-loop-comp : goal.invariant-loop-comp
invariant-loop-comp l =
    record {
      looks : List Look;
      listed : map (λ (look : Look). look.comp) looks ≡ take l.comp-index l.seen;
      causes : All (λ (look : Look). IsLowest
          (MovesFromAbove l.plan.model l.inter.0 look.comp.0) look.cause.0) looks;
      added : l.text.items ≡ l.initial.text.items ++ flat_map (look_text l.plan.model) looks;
    }
