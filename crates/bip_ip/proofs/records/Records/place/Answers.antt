use Rattle.std.proofs.Common.{◌≡◌, ◌<◌, ◌∙◌, true, ap, eqb, eq-eqb, eqb-true, length, sym, arith}
use Rattle.std.proofs.lemmas.Bool.{false≢true, not-false}
use Rattle.bip_model.specs.Partitions.{class_in}
use Rattle.bip_model.specs.declared.parts.System.{System}
use Rattle.bip_ip.proofs.RecordLemmas.{no_place, own_place}
use Rattle.bip_ip.proofs.records.Records.place.Goals as goal

pub returns-then-interactions-inter : goal.returns-then-interactions-inter
returns-then-interactions-inter c =
    let p = c.self.inside.plan.now in
    let count : length c.interactions.result.now ≡ length p.model.interactions =
    ap length (c.interactions.ensures.interactions
    ∙ ap (λ (m : System). m.interactions) c.model.ensures) in
    rw (← c.self.view_is) (sym (no_place p c.args.inter.0 c.self.inside.class.0
    c.recall.ensures.planned (λ declared.
    absurd (omega (arith, declared, c.if-interactions-inter.true, count)))))

pub returns-then-ne : goal.returns-then-ne
returns-then-ne c =
    let p = c.self.inside.plan.now in
    let other = λ (same : class_in p.classes c.args.inter.0 ≡ c.self.inside.class.0).
    let equal : eqb c.class_of.result.0 c.self.inside.class.0 ≡ true =
    eq-eqb c.class_of.result.0 c.self.inside.class.0 (c.class_of.ensures ∙ same) in
    false≢true (sym (rw equal at c.if-ne.ensures)) in
    rw (← c.self.view_is) (sym (no_place p c.args.inter.0 c.self.inside.class.0
    c.recall.ensures.planned (λ _. other)))

pub returns : goal.returns
returns c =
    let p = c.self.inside.plan.now in
    let own : class_in p.classes c.args.inter.0 ≡ c.self.inside.class.0 = sym c.class_of.ensures
    ∙ eqb-true c.class_of.result.0 c.self.inside.class.0
    (not-false (eqb c.class_of.result.0 c.self.inside.class.0) (sym c.if-ne.ensures)) in
    let count : length c.interactions.result.now ≡ length p.model.interactions =
    ap length (c.interactions.ensures.interactions
    ∙ ap (λ (m : System). m.interactions) c.model.ensures) in
    let declared : c.args.inter.0 < length p.model.interactions =
    omega (arith, c.if-interactions-inter.false, count) in
    rw (← c.self.view_is) (sym (own_place p c.args.inter.0 c.place_of.result c.self.inside.class.0
    c.recall.ensures.planned declared own c.place_of.ensures))
