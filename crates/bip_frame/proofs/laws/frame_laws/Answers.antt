use Rattle.std.proofs.Common.{refl, sym, ◌∙◌}
use Rattle.bip_frame.proofs.LawLemmas as laws
use Rattle.bip_frame.proofs.LengthLemmas.{frame_long}
use Rattle.bip_frame.proofs.ReadingLemmas.{none_begins, one_message}
use Rattle.bip_frame.proofs.laws.frame_laws.Goals as goal

pub returns-clause-one_frame : goal.returns-clause-one_frame
returns-clause-one_frame c = λ m a b one other. one.is ∙ sym other.is

pub returns-clause-one_message : goal.returns-clause-one_message
returns-clause-one_message c = one_message

pub returns-clause-none_begins : goal.returns-clause-none_begins
returns-clause-none_begins c = none_begins

pub returns-clause-frame_or_fault : goal.returns-clause-frame_or_fault
returns-clause-frame_or_fault c = laws.frame_or_fault

pub returns-clause-not_both : goal.returns-clause-not_both
returns-clause-not_both c = laws.not_both

pub returns-clause-one_fault : goal.returns-clause-one_fault
returns-clause-one_fault c = laws.one_fault

pub returns-clause-written : goal.returns-clause-written
returns-clause-written c = λ m can. record { can = can; is = refl }

pub returns-clause-read : goal.returns-clause-read
returns-clause-read c = λ m a frame. sym frame.is

pub returns-clause-cut : goal.returns-clause-cut
returns-clause-cut c = laws.cut_is_short

pub returns-clause-more : goal.returns-clause-more
returns-clause-more c = laws.more_is_long

pub returns-clause-lengths : goal.returns-clause-lengths
returns-clause-lengths c = frame_long

pub returns-clause-within : goal.returns-clause-within
returns-clause-within c = laws.is_within

pub returns-clause-reached : goal.returns-clause-reached
returns-clause-reached c = (laws.shortest, laws.longest)
