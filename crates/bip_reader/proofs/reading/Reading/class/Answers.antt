use Rattle.std.proofs.Common.{◌≤◌, ◌∙◌, length, sym, refl, arith}
use Rattle.bip_model.specs.declared.partitions.TheConstants.{MOST_CLASSES}
use Rattle.bip_reader.proofs.AnswerLemmas.{class_past, class_unknown}
use Rattle.bip_reader.proofs.reading.Reading.class.Goals as goal

pub returns-then-not-are_interactions : goal.returns-then-not-are_interactions
returns-then-not-are_interactions c =
    rw (class_unknown c.args.name c.args.interactions.now c.args.self.now
    (sym c.contains.ensures ∙ c.if-contains.false)
    (sym (rw c.each.ensures.items at c.are_interactions.ensures)
    ∙ c.if-not-are_interactions.true)) refl

pub returns-then-len-ge-MOST_CLASSES : goal.returns-then-len-ge-MOST_CLASSES
returns-then-len-ge-MOST_CLASSES c =
    let full : MOST_CLASSES ≤ length c.args.self.now.classes =
    omega (arith, c.len.ensures, c.if-len-ge-MOST_CLASSES.true) in
    rw (class_past c.args.name c.args.interactions.now c.args.self.now
    (sym c.contains.ensures ∙ c.if-contains.false)
    (sym (rw c.each.ensures.items at c.are_interactions.ensures)
    ∙ c.if-not-are_interactions.false) full) refl
