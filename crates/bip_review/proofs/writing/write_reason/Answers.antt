use Rattle.std.proofs.Common.{codes}
use Rattle.bip_review.specs.Writing.{classes_text}
use Rattle.bip_review.proofs.WritingLemmas.{joined_on_ok}
use Rattle.bip_review.proofs.writing.write_reason.Goals as goal

pub returns-in_ok-extend_from_slice-in-Shared : goal.returns-in_ok-extend_from_slice-in-Shared
returns-in_ok-extend_from_slice-in-Shared c =
    rw c.in-Shared.is (joined_on_ok c.write_classes.result c.args.text.now.items
    (codes " touched from") c.extend_from_slice-in-Shared.new.self.items
    (classes_text c.args.plan.now c.args.classes.now) c.write_classes.new.text.items
    c.in_ok-extend_from_slice-in-Shared.ensures.items c.write_classes.ensures)
