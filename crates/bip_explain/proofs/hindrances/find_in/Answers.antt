use Rattle.std.proofs.Common.{sym}
use Rattle.bip_model.specs.Components.{leaves}
use Rattle.bip_model.specs.Parts.{IsTransitionOf}
use Rattle.bip_model.proofs.ListLemmas.{All-find}
use Rattle.bip_explain.proofs.hindrances.find_in.Goals as goal

pub find_failed-requires : goal.find_failed-requires
find_failed-requires c =
    let k = c.args.component.now in
    let of = All-find (IsTransitionOf k) (leaves c.args.local.now.location c.args.port)
    k.transitions c.in-Some.transition.now c.requires.component.so_far.transitions
    (sym c.in-Some.ensures) in
    rw (c.requires.local.values, c.as_slice.ensures) of.guard.there
