use Rattle.std.proofs.Common.{arith, sym}
use Rattle.std.proofs.lemmas.List.Elements.{Contains-get_or}
use Rattle.bip_model.specs.States.{state_of}
use Rattle.bip_model.proofs.PartyLemmas.{moved_role}
use Rattle.bip_replay.proofs.FaultLemmas.{moved_known}
use Rattle.std.proofs.Math.Path.{fun_ext}
use Rattle.std.specs.Prelude.{slice_index_or}
use Rattle.bip_replay.specs.Runs.{Kept, standing_of}
use Rattle.bip_replay.proofs.RunLemmas.{stands_on}
use Rattle.bip_replay.proofs.runs.Position.go_on.Goals as goal

pub use_up-requires-clause-known : goal.use_up-requires-clause-known
use_up-requires-clause-known c =
    rw c.wants.ensures.wants (λ k d within moves.
    let next = rw (← c.self.view_is) at c.requires in
    let known = moved_known c.self.inside.model.now c.args.grant.now _ c.recall.ensures.valid
    next.parties (Contains-get_or c.args.grant.now.wants k d within) (moved_role _ moves) in
    omega (arith, known, c.self.invariant))

pub returns : goal.returns
returns c =
    let kept : Kept = record {
      model = c.self.inside.model.now;
      base = c.self.inside.base;
      locals = c.self.inside.state;
      used = c.self.inside.used;
    } in
    rw (← c.self.view_is)
    (sym (stands_on (standing_of kept) (state_of c.run.new.state)
    (λ k. slice_index_or c.use_up.new.used k c.self.inside.base) c.args.grant.now
    (rw c.inter.ensures at c.run.ensures.fired)
    (fun_ext (λ k. rw c.wants.ensures.wants at (c.use_up.ensures.used c.self.inside.base k)))))
