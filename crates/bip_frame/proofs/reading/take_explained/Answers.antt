use Rattle.std.proofs.Common.{◌≡◌, true, sym, subst, ◌∙◌}
use Rattle.bip_model.specs.Reasons.{IsReasons}
use Rattle.bip_model.specs.Wants.{IsWants}
use Rattle.bip_frame.specs.Entries.{one_moves}
use Rattle.bip_frame.specs.Lent.{wants_in, whys_lent}
use Rattle.bip_frame.proofs.EntryLemmas.{are_wants}
use Rattle.bip_frame.proofs.ReasonLemmas.{are_reasons}
use Rattle.bip_frame.proofs.ShownLemmas.{explained_room, explained_shown}
use Rattle.bip_frame.proofs.ShownLemmas.{few_shown, is_explained, spelled_shown}
use Rattle.bip_frame.proofs.reading.take_explained.Goals as goal

pub split_at-requires : goal.split_at-requires
split_at-requires c =
    let w = c.in_ok-entries.entries in
    let y = c.in_ok-reasons.reasons in
    let lie = c.in_ok-reasons.ensures.lie in
    explained_room w.count y.count w.list.now w.rest.now y.list.now y.rest.now
    c.in_ok-entries.ensures.lie lie.0 lie.1

pub invariant_of-result : goal.invariant_of-result
invariant_of-result c =
    let w = c.in_ok-entries.entries in
    let y = c.in_ok-reasons.reasons in
    let lie = c.in_ok-reasons.ensures.lie in
    let parts = c.split_at.result.0.now in
    let moving : one_moves (wants_in w.count w.list.now) ≡ true = sym c.in_ok-entries.ensures.moved
    ∙ c.if-not-entries.false in
    let shown =
    explained_shown w.count y.count w.list.now w.rest.now y.list.now y.rest.now parts
    c.in_ok-entries.ensures.lie lie.0 lie.1 c.split_at.ensures.front in
    record {
      few = few_shown w.count w.list.now w.rest.now c.in_ok-entries.ensures.lie;
      whole = shown.whole;
      wants = subst IsWants (sym shown.wants)
          (are_wants (wants_in w.count w.list.now) c.in_ok-entries.ensures.lie.are moving);
      whys = subst IsReasons (sym shown.reasons)
          (are_reasons (whys_lent y.count y.list.now) lie.1.are);
      spelled = spelled_shown parts w.count (wants_in w.count w.list.now)
          (whys_lent y.count y.list.now) shown;
    }

pub returns : goal.returns
returns c =
    let w = c.in_ok-entries.entries in
    let y = c.in_ok-reasons.reasons in
    let lie = c.in_ok-reasons.ensures.lie in
    let parts = c.split_at.result.0.now in
    let h = c.in_ok-head.head in
    let moving : one_moves (wants_in w.count w.list.now) ≡ true = sym c.in_ok-entries.ensures.moved
    ∙ c.if-not-entries.false in
    is_explained c.args.bytes.now (record { class = h.class; request = h.request; inter = h.inter })
    c.in_ok-head.rest.now (wants_in w.count w.list.now) w.rest.now
    (whys_lent y.count y.list.now) y.rest.now parts w.count c.in_ok-head.ensures
    c.in_ok-entries.ensures.read c.in_ok-reasons.ensures.read moving
    (explained_shown w.count y.count w.list.now w.rest.now y.list.now y.rest.now parts
    c.in_ok-entries.ensures.lie lie.0 lie.1 c.split_at.ensures.front)
