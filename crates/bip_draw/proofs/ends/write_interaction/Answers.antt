use Rattle.std.proofs.Common.{[], refl, sym}
use Rattle.std.proofs.lemmas.Bool.{false≢true}
use Rattle.std.proofs.lemmas.List.{append-nil}
use Rattle.bip_draw.specs.Ends.{below_line, held_back, may_line, off, runs}
use Rattle.bip_draw.proofs.ends.write_interaction.Goals as goal

pub returns-then-not-enabled : goal.returns-then-not-enabled
returns-then-not-enabled c = record {
  line = [];
  holds = off (λ on. false≢true (c.if-not-enabled.ensures.1 on));
  added = sym (append-nil c.args.text.now.items);
}

pub returns-in_ok-write_below-in-Some : goal.returns-in_ok-write_below-in-Some
returns-in_ok-write_below-in-Some c = record {
  line = below_line c.args.model.now c.args.inter.0 c.in-Some.higher.0;
  holds = held_back c.in-Some.higher.0 (c.if-not-enabled.ensures.0 refl) c.in-Some.ensures.some;
  added = c.in_ok-write_below-in-Some.ensures;
}

pub returns-in_ok-write_may-in-None : goal.returns-in_ok-write_may-in-None
returns-in_ok-write_may-in-None c = record {
  line = may_line c.args.model.now c.args.inter.0;
  holds =
      runs (record {
        enabled = c.if-not-enabled.ensures.0 refl;
        clear = c.in-None.ensures.none;
      });
  added = c.in_ok-write_may-in-None.ensures;
}
