use Rattle.std.proofs.Common.{◌≡◌, true, [], sym, subst, ◌∙◌}
use Rattle.bip_model.specs.Reasons.{IsReasons}
use Rattle.bip_model.specs.Wants.{IsWants}
use Rattle.bip_frame.specs.Entries.{one_moves}
use Rattle.bip_frame.specs.Lent.{wants_in}
use Rattle.bip_frame.proofs.EntryLemmas.{are_wants}
use Rattle.bip_frame.proofs.ReadingLemmas.{no_reasons}
use Rattle.bip_frame.proofs.ShownLemmas.{bare_room, bare_shown, few_shown, is_request}
use Rattle.bip_frame.proofs.ShownLemmas.{spelled_shown}
use Rattle.bip_frame.proofs.reading.take_request.Goals as goal

pub split_at-requires : goal.split_at-requires
split_at-requires c = bare_room c.in_ok-wants.wants.count c.in_ok-wants.wants.list.now
    c.in_ok-wants.wants.rest.now c.in_ok-wants.ensures.lie

pub invariant_of-result : goal.invariant_of-result
invariant_of-result c =
    let w = c.in_ok-wants.wants in
    let parts = c.split_at.result.0.now in
    let moving : one_moves (wants_in w.count w.list.now) ≡ true = sym c.in_ok-wants.ensures.moved
    ∙ c.if-not-wants.false in
    let shown =
    bare_shown w.count w.list.now w.rest.now parts c.in_ok-wants.ensures.lie
    c.split_at.ensures.front in
    record {
      few = few_shown w.count w.list.now w.rest.now c.in_ok-wants.ensures.lie;
      whole = shown.whole;
      wants = subst IsWants (sym shown.wants)
          (are_wants (wants_in w.count w.list.now) c.in_ok-wants.ensures.lie.are moving);
      whys = subst IsReasons (sym shown.reasons) no_reasons;
      spelled = spelled_shown parts w.count (wants_in w.count w.list.now) [] shown;
    }

pub returns : goal.returns
returns c =
    let w = c.in_ok-wants.wants in
    let parts = c.split_at.result.0.now in
    let h = c.in_ok-head.head in
    let moving : one_moves (wants_in w.count w.list.now) ≡ true = sym c.in_ok-wants.ensures.moved
    ∙ c.if-not-wants.false in
    is_request c.args.bytes.now (record { class = h.class; request = h.request; inter = h.inter })
    c.in_ok-head.rest.now (wants_in w.count w.list.now) w.rest.now parts w.count
    c.in_ok-head.ensures c.in_ok-wants.ensures.read moving
    (bare_shown w.count w.list.now w.rest.now parts c.in_ok-wants.ensures.lie
    c.split_at.ensures.front)
