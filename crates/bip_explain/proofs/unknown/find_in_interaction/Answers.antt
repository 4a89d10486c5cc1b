use Rattle.std.proofs.Common.{◌∷◌, [], codes, refl, sym, ◌∙◌}
use Rattle.bip_model.specs.Texts.{words}
use Rattle.bip_explain.specs.declared.unknown.NameKind.TheVariants.{Variable}
use Rattle.bip_explain.proofs.FrontLemmas.{left_more, left_there}
use Rattle.bip_explain.proofs.UnknownLemmas.{IsKindOf, kind_ends, kind_first, kind_more, kind_so}
use Rattle.bip_explain.proofs.unknown.find_in_interaction.Goals as goal

pub loop-placed-init : goal.loop-placed-init
loop-placed-init c =
    rw c.into_iter-placed-iterator.ensures.into_iter_gives (record {
      line = refl;
      left = record {
        front = codes "interaction" ∷ c.requires.0 ∷ [];
        such = kind_first c.requires.0;
        split = c.requires.1;
      };
    })

pub loop-placed-preserved-then-begins_list : goal.loop-placed-preserved-then-begins_list
loop-placed-preserved-then-begins_list c =
    let l = c.loop-placed in
    let word = c.in-Some.placed.word.now in
    record {
      line = c.in-Some.ensures.steps.0 ∙ l.invariant.line;
      left = left_more (IsKindOf l.kind) (IsKindOf Variable) c.args.words.line.now word
          (words l.placed-iterator.rest.now) (words c.next.new.self.rest.now)
          (kind_ends word l.kind (sym c.begins_list.ensures ∙ c.if-begins_list.true))
          l.invariant.left c.in-Some.ensures.steps.1.0;
    }

pub loop-placed-preserved : goal.loop-placed-preserved
loop-placed-preserved c =
    let l = c.loop-placed in
    let word = c.in-Some.placed.word.now in
    record {
      line = c.in-Some.ensures.steps.0 ∙ l.invariant.line;
      left = left_more (IsKindOf l.kind) (IsKindOf l.kind) c.args.words.line.now word
          (words l.placed-iterator.rest.now) (words c.next.new.self.rest.now)
          (kind_more word l.kind (sym c.begins_list.ensures ∙ c.if-begins_list.false))
          l.invariant.left c.in-Some.ensures.steps.1.0;
    }

pub find_in_pair-requires : goal.find_in_pair-requires
find_in_pair-requires c =
    let l = c.loop-placed in
    let step = rw l.invariant.line at c.in-Some.ensures.steps.1 in (
      step.1,
      kind_so l.kind step.1.front (left_there
          (IsKindOf l.kind) c.args.words.line.now c.in-Some.placed c.next.new.self.rest.now
          (words l.placed-iterator.rest.now) l.invariant.left step.0 step.1 step.2),
    )
