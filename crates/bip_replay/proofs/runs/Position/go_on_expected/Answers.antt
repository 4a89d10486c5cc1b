use Rattle.std.proofs.Common.{◌∙◌, sym}
use Rattle.std.proofs.Math.Path.{fun_ext}
use Rattle.std.specs.Prelude.{slice_index_or}
use Rattle.bip_model.specs.States.{state_of}
use Rattle.bip_replay.proofs.NextLemmas.{expected_next, raised_expected}
use Rattle.bip_replay.proofs.RunLemmas.{stands_on}
use Rattle.bip_replay.specs.Expected.{IsExpectedGrant}
use Rattle.bip_replay.specs.Runs.{Kept, standing_of}
use Rattle.bip_replay.proofs.runs.Position.go_on_expected.Goals as goal

pub use_next-requires-clause-next : goal.use_next-requires-clause-next
use_next-requires-clause-next c =
    let kept : Kept = record {
      model = c.self.inside.model.now;
      base = c.self.inside.base;
      locals = c.self.inside.state;
      used = c.self.inside.used;
    } in
    let expected = rw (← c.self.view_is) at c.requires.expected in
    expected_next kept c.args.inter.0 expected.0 c.participants-participants.result.now
    c.participants-participants.ensures.valid c.self.invariant expected.1
    c.participants-participants.ensures.participants

pub returns : goal.returns
returns c = λ g is.
    let kept : Kept = record {
      model = c.self.inside.model.now;
      base = c.self.inside.base;
      locals = c.self.inside.state;
      used = c.self.inside.used;
    } in
    let here : IsExpectedGrant (standing_of kept) c.args.inter.0 g = rw (← c.self.view_is) at is in
    rw (← c.self.view_is)
    (sym (stands_on (standing_of kept) (state_of c.run.new.state)
    (λ n. slice_index_or c.use_next.new.used n c.self.inside.base) g
    (rw (← here.inter) at c.run.ensures.fired)
    (fun_ext (λ n. (rw c.participants-participants.ensures.participants at
    (c.use_next.ensures.used c.self.inside.base n))
    ∙ sym (raised_expected (standing_of kept) c.args.inter.0 g n here)))))
