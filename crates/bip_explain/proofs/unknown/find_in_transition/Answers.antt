use Rattle.std.proofs.Common.{◌∷◌, [], codes, inl, refl, ◌∙◌, rules}
use Rattle.bip_model.specs.Texts.{words}
use Rattle.bip_explain.proofs.FrontLemmas.{left_more, left_there}
use Rattle.bip_explain.proofs.UnknownLemmas.{IsPlaceOf, kind_of_place, place_more}
use Rattle.bip_explain.proofs.unknown.find_in_transition.Goals as goal

pub loop-placed-init : goal.loop-placed-init
loop-placed-init c =
    rw c.into_iter-placed-iterator.ensures.into_iter_gives (record {
      line = refl;
      left = record { front = codes "trans" ∷ []; such = ([], refl, refl); split = c.requires };
    })

pub loop-placed-preserved : goal.loop-placed-preserved
loop-placed-preserved c =
    let l = c.loop-placed in
    let word = c.in-Some.placed.word.now in
    record {
      line = c.in-Some.ensures.steps.0 ∙ l.invariant.line;
      left = left_more (IsPlaceOf l.place) (IsPlaceOf c.next_place-place.result)
          c.args.words.line.now word (words l.placed-iterator.rest.now)
          (words c.next.new.self.rest.now) (place_more word l.place c.next_place-place.result
          c.next_place-place.ensures) l.invariant.left c.in-Some.ensures.steps.1.0;
    }

pub returns-in-Some-lack_of : goal.returns-in-Some-lack_of
returns-in-Some-lack_of c =
    let l = c.loop-placed in
    let step = rw l.invariant.line at c.in-Some.ensures.steps.1 in
    let place = left_there (IsPlaceOf l.place) c.args.words.line.now c.in-Some.placed
    c.next.new.self.rest.now (words l.placed-iterator.rest.now) l.invariant.left step.0 step.1
    step.2 in
    let found = c.in-Some-lack_of.ensures in (
      step.1,
      found.kind ∙ (c.kind_at-kind.ensures ∙ kind_of_place l.place step.1.front place),
      inl (search rules),
      found.lacks,
    )
