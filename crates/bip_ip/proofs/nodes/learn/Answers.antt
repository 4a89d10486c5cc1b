use Rattle.std.proofs.Common.{◌≡◌, ◌∙◌, ap, get_or, subst, sym}
use Rattle.bip_model.specs.Wants.{is_moved}
use Rattle.bip_model.specs.declared.wants.Role.TheVariants.{Moved}
use Rattle.bip_model.specs.declared.wants.Want.{Want}
use Rattle.bip_partition.specs.Plans.{ClassTouches}
use Rattle.bip_observe.specs.Offers.{Observed, observed}
use Rattle.bip_ip.proofs.NodeLemmas.{learned_moved, learned_seen}
use Rattle.bip_ip.proofs.nodes.learn.Goals as goal
use Rattle.bip_ip.proofs.nodes.learn.Goals.{in-Moved, in-Seen}

abbrev no_want : Want
no_want = record { number = 0; comp = record { 0 = 0 }; role = Moved }

pub loop-want-preserved : goal.loop-want-preserved
loop-want-preserved c =
    let i = c.loop-want.want-index in
    let v = observed c.args.offers.now in
    let u = observed c.loop-want.offers in
    let same : v ≡ record u { known = v.known } =
    ap (λ (x : Observed). record x { known = v.known }) (sym c.loop-want.invariant) in
    let want = get_or c.args.wants.now i no_want in
    let touched : ClassTouches u.plan u.class want.comp.0 =
    subst (λ (x : Observed). ClassTouches x.plan x.class want.comp.0) same
    (c.requires.touched i no_want c.loop-want-test.true) in
    elim c.match-want.branch [
      | in-Moved w ↦ rw w.offers-is (w.spend.ensures.touched touched
          ∙ learned_moved u v c.args.wants.now i no_want c.requires.rising c.loop-want-test.true
          c.loop-want.invariant (ap is_moved w.in-Moved.is))
      | in-Seen w ↦ rw w.offers-is (learned_seen u v c.args.wants.now i no_want c.requires.rising
          c.loop-want-test.true c.loop-want.invariant (ap is_moved w.in-Seen.is))
    ]
