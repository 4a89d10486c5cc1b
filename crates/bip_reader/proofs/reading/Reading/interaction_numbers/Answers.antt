use Rattle.std.proofs.lemmas.Result.{err_from_is_err_and}
use Rattle.bip_reader.specs.Reading.{draft_of, interaction_named}
use Rattle.bip_model.specs.Words.{each_of}
use Rattle.bip_reader.specs.declared.faults.Why.TheVariants.{Unknown}
use Rattle.bip_reader.proofs.AnswerLemmas.{ok_said, want_told}
use Rattle.std.proofs.Common.{◌≡◌, ◌∙◌, Some, refl, sym}
use Rattle.bip_model.proofs.WordLemmas.{all_are_each, one_more_read}
use Rattle.bip_reader.proofs.reading.Reading.interaction_numbers.Goals as goal

pub loop-name-preserved : goal.loop-name-preserved
loop-name-preserved c =
    let f = interaction_named (draft_of c.args.self.now) in
    let known : f c.in-Some.name ≡ Some c.in_ok-ok_or.field-0 =
    ok_said (f c.in-Some.name) _ _ (sym (rw c.interaction_number.ensures at
    c.ok_or.ensures.value) ∙ c.in_ok-ok_or.was) in
    rw c.in_ok-push.ensures.items (one_more_read f c.loop-name.numbers.items c.in-Some.name
    c.next.new.self c.in_ok-ok_or.field-0 (each_of f c.args.names)
    (rw c.in-Some.ensures.steps at c.loop-name.invariant) known)

pub returns-in_err-numbers : goal.returns-in_err-numbers
returns-in_err-numbers c =
    let p = err_from_is_err_and c.from_residual.result c.from_residual.ensures.1 in
    let f = interaction_named (draft_of c.args.self.now) in
    rw (p.1, p.2) (want_told (each_of f c.args.names) Unknown _
    (all_are_each f c.args.names ∙ c.requires) refl)

pub returns-in_err-push : goal.returns-in_err-push
returns-in_err-push c =
    let p = err_from_is_err_and c.from_residual-in_err-push.result
    c.from_residual-in_err-push.ensures.1 in
    let f = interaction_named (draft_of c.args.self.now) in
    rw (p.1, p.2) (want_told (each_of f c.args.names) Unknown _
    (all_are_each f c.args.names ∙ c.requires) refl)
