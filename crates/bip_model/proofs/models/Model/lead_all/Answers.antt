use Rattle.bip_model.specs.States.{state_of}
use Rattle.bip_model.proofs.StepLemmas.{count_next, led_all-next}
use Rattle.bip_model.proofs.models.Model.lead_all.Goals as goal

pub lead-requires-clause-values : goal.lead-requires-clause-values
lead-requires-clause-values c =
    count_next c.args.self.now (state_of c.args.state.now)
    (state_of c.loop-participant.state) c.args.participants.now
    c.loop-participant.participant-index _
    c.requires.rising c.loop-participant-test.true c.loop-participant.invariant c.requires.values

pub loop-participant-preserved : goal.loop-participant-preserved
loop-participant-preserved c =
    led_all-next c.args.self.now (state_of c.args.state.now) (state_of c.loop-participant.state)
    (state_of c.lead.new.state)
    c.args.participants.now c.loop-participant.participant-index _ c.requires.rising
    c.loop-participant-test.true
    c.loop-participant.invariant c.lead.ensures
