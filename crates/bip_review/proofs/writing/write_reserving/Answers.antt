use Rattle.std.proofs.Common.{codes}
use Rattle.bip_model.specs.Naming.{name_in}
use Rattle.bip_model.specs.Texts.{spaced}
use Rattle.bip_review.proofs.WritingLemmas.{joined_on_ok}
use Rattle.bip_review.proofs.writing.write_reserving.Goals as goal

pub returns-in_ok-extend_from_slice-in-Some : goal.returns-in_ok-extend_from_slice-in-Some
returns-in_ok-extend_from_slice-in-Some c =
    rw c.in-Some.is (joined_on_ok c.write_comp_name.result c.args.text.now.items
    (codes " reserved through") c.extend_from_slice-in-Some.new.self.items
    (spaced (name_in c.args.plan.now.model.component_names c.in-Some.comp.0))
    c.write_comp_name.new.text.items c.in_ok-extend_from_slice-in-Some.ensures.items
    c.write_comp_name.ensures)
