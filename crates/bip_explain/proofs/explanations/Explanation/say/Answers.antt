use Rattle.std.proofs.Common.{◌≤◌, length, sym, ap, ◌∙◌, arith}
use Rattle.std.proofs.lemmas.Bool.{false≢true}
use Rattle.bip_explain.specs.Explanations.{with_part}
use Rattle.bip_explain.proofs.SayLemmas.{all_shown, said_cut, said_whole, unsaid, unwanted}
use Rattle.bip_explain.proofs.explanations.Explanation.say.Goals as goal
use Rattle.bip_explain.proofs.explanations.Explanation.say.Goals.{else-self-via-then-self+else-not-self}
use Rattle.bip_explain.proofs.explanations.Explanation.say.Goals.{else-self-via-else-self}

pub invariant_of-self : goal.invariant_of-self
invariant_of-self c =
    let few : length c.self.inside.said.items ≤ 478 = c.self.invariant.2 c.if-not-self.true in (
      rw c.push_all.ensures.put (all_shown c.self.inside.said.items c.args.text.now
          c.self.invariant.0),
      omega arith,
      λ _. omega arith,
      λ cut. absurd (false≢true (sym c.if-not-self.true ∙ cut)),
    )

pub returns-then-text-len : goal.returns-then-text-len
returns-then-text-len c =
    let i = c.self.inside in
    let few : length i.said.items ≤ 478 = c.self.invariant.2 c.if-not-self.true in
    said_whole i.is_wanted i.is_cut i.said.items c.args.text.now c.push_all.new.said.items
    c.if-self.true c.if-not-self.true (omega arith) c.push_all.ensures.put
    ∙ ap (with_part c.args.text.now) c.self.view_is

pub returns-else-text-len : goal.returns-else-text-len
returns-else-text-len c =
    let i = c.self.inside in
    said_cut i.is_wanted i.is_cut i.said.items c.args.text.now
    c.push_all-else-text-len.new.said.items c.if-self.true c.if-not-self.true
    (omega arith) c.push_all-else-text-len.ensures.put
    ∙ ap (with_part c.args.text.now) c.self.view_is

pub returns-else-self : goal.returns-else-self
returns-else-self c =
    let i = c.self.inside in
    elim c.else-self.branch [
      | else-self-via-then-self+else-not-self w ↦
          rw (← c.self.view_is) (unsaid i.is_wanted i.is_cut i.said.items c.args.text.now
          w.if-not-self.false)
      | else-self-via-else-self w ↦ rw (← c.self.view_is)
          (unwanted i.is_wanted i.is_cut i.said.items c.args.text.now w.if-self.false)
    ]
