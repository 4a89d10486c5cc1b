use Rattle.std.proofs.Common.{◌≡◌, ◌++◌, map, take}
use Rattle.std.specs.List.{flat_map}
use Rattle.bip_model.specs.Naming.{name_in}
use Rattle.bip_model.specs.Texts.{spaced}
use Rattle.bip_model.specs.declared.numbering.InterId.{InterId}
use Rattle.bip_reader.proofs.writing.write_members.Given as goal

abbrev pub invariant-loop-member : goal.invariant-loop-member
invariant-loop-member l = l.text.items ≡ l.initial.text.items ++ flat_map spaced
    (map (λ (a : InterId). name_in l.model.interaction_names a.0) (take l.member-index l.members))
