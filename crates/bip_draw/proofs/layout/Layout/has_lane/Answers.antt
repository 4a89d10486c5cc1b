use Rattle.bip_draw.proofs.layout.Layout.has_lane.Goals as goal

pub returns-in-Some : goal.returns-in-Some
returns-in-Some c = rw c.in-Some.is c.is_among.ensures
