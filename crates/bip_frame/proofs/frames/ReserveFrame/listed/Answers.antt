use Rattle.bip_frame.proofs.ShownLemmas.{listed_few, listed_long}
use Rattle.bip_frame.proofs.frames.ReserveFrame.listed.Goals as goal

pub returns-in-len1-up-clause-whole : goal.returns-in-len1-up-clause-whole
returns-in-len1-up-clause-whole c = listed_long c.args.self.now.count c.args.self.now.parts.now
    c.split_at.result.1.now c.args.self.now.spelled c.split_at.ensures.back
    c.in-len1-up.len_at_least

pub returns-in-len1-up-clause-few : goal.returns-in-len1-up-clause-few
returns-in-len1-up-clause-few c = listed_few c.args.self.now.count c.args.self.now.parts.now
    c.split_at.result.1.now c.args.self.now.whys c.split_at.ensures.back c.in-len1-up.len_at_least
