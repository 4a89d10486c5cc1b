use Rattle.std.proofs.Common.{refl, sym, ◌∙◌}
use Rattle.bip_explain.specs.Grants.{IsCountOf, IsWrongNumber, number_parts}
use Rattle.bip_model.specs.Texts.{line_at}
use Rattle.bip_explain.proofs.HindranceLemmas.{counted}
use Rattle.bip_explain.proofs.SayLemmas.{tells}
use Rattle.bip_explain.proofs.steps.explain_step.Goals as goal

pub returns-in-Memory-clause-told : goal.returns-in-Memory-clause-told
returns-in-Memory-clause-told c = rw c.in-Memory.is (λ told. c.say-in-Memory.ensures)

pub returns-in-NotEnabled-clause-told : goal.returns-in-NotEnabled-clause-told
returns-in-NotEnabled-clause-told c = rw c.in-NotEnabled.is
    (rw c.in-NotEnabled.is at (c.explain_hindered.ensures c.args.base))

pub returns-in-Below-clause-told : goal.returns-in-Below-clause-told
returns-in-Below-clause-told c = rw c.in-Below.is
    (rw c.in-Below.is at (c.explain_hindered-in-Below.ensures c.args.base))

pub returns-in-Number-clause-told : goal.returns-in-Number-clause-told
returns-in-Number-clause-told c =
    let model = c.args.model.now in
    let line = line_at c.args.text.now c.args.number in
    let n = c.in-Number in
    let told = counted model c.args.base c.args.text.now c.args.number n.comp n.expected in
    rw n.is (tells ⊥ (λ wrong. IsWrongNumber model line n.comp n.expected wrong
    × IsCountOf model c.args.base c.args.text.now c.args.number n.comp n.expected)
    (number_parts model c.args.base) c.args.explanation.now c.say.new.explanation
    (record { placed = c.want_on.result; comp = n.comp; expected = n.expected })
    (sym c.is_open.ensures ∙ c.if-not-is_open.false) (
      record { placed = rw c.line_at.ensures at c.want_on.ensures; comp = refl; expected = refl },
      told,
    )
    c.say.ensures)

pub returns-in-Parties-clause-told : goal.returns-in-Parties-clause-told
returns-in-Parties-clause-told c = rw c.in-Parties.is (c.explain_parties.ensures c.args.base)
