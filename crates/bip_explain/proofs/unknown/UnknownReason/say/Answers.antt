use Rattle.bip_explain.proofs.unknown.UnknownReason.say.Goals as goal

pub returns-in-Interaction : goal.returns-in-Interaction
returns-in-Interaction c = rw c.in-Interaction.is (cc)

pub returns-in-Component : goal.returns-in-Component
returns-in-Component c = rw c.in-Component.is (cc)

pub returns-in-Stranger : goal.returns-in-Stranger
returns-in-Stranger c = rw c.in-Stranger.is (cc)

pub returns-in-Inner : goal.returns-in-Inner
returns-in-Inner c = rw c.in-Inner.is (cc)
