use Rattle.std.proofs.Common.{◌≡◌, ◌∙◌, Some, refl, sym, slice_get}
use Rattle.std.proofs.lemmas.Option.{slice_get_read}
use Rattle.bip_model.specs.Parts.{IsComponent}
use Rattle.bip_model.specs.States.{IsLocalStateOf, local_of}
use Rattle.bip_model.proofs.ListLemmas.{All-slice_get}
use Rattle.bip_model.proofs.StateLemmas.{moved_valid}
use Rattle.bip_model.proofs.models.Model.move_one.Goals as goal

pub returns-clause-of_component : goal.returns-clause-of_component
returns-clause-of_component c =
    let at : slice_get c.args.self.now.components c.args.comp.0
    ≡ Some c.index-components-comp.result =
    rw (← c.components.ensures.components) (slice_get_read c.components.result.now _ c.args.comp.0 _
    refl (rw c.components.ensures.components c.requires.component)
    c.index-components-comp.is) in
    let sound = All-slice_get IsComponent c.args.self.now.components c.args.comp.0
    c.index-components-comp.result c.components.ensures.valid.so_far.components at in
    let own : IsLocalStateOf c.index-components-comp.result
    (local_of (c.args.location, c.args.values.now)) = rw at at c.requires.local in
    rw at (moved_valid _ (local_of (c.args.location, c.args.values.now)) c.args.port
    c.in_ok-target.target sound own.values (sym c.moved.ensures ∙ c.in_ok-target.was))
