use Rattle.std.proofs.Common.{◌≡◌, ◌⊎◌, ℕ, ◌∙◌, ap, false, get_or, inl, inr, refl, subst, sym, None}
use Rattle.std.specs.Prelude.{is_some}
use Rattle.std.proofs.lemmas.Bool.{false_from_ne_true, false≢true}
use Rattle.std.proofs.lemmas.Bool.Decides.{eqb_tells}
use Rattle.std.proofs.lemmas.Nat.Bits.{bit_at-zero}
use Rattle.bip_model.specs.Sets.{has}
use Rattle.bip_partition.specs.Plans.{InConflict}
use Rattle.bip_ip.specs.Nodes.{KeptNode, node_of}
use Rattle.bip_ip.proofs.nodes.IpNode.in_the_way.Goals as goal

pub loop-other-init : goal.loop-other-init
loop-other-init c =
    let asked : (b : ℕ) → has c.self.inside.asked b ≡ is_some
    ((node_of c.args.self.now).pending b) = λ b. c.self.invariant.asked b
    ∙ ap (λ (n : KeptNode). is_some (get_or n.pending b None)) c.self.view_is in
    record {
      asked = λ b on. sym (asked b) ∙ on;
      none = λ b off stands. absurd (false≢true (sym off ∙ (asked b ∙ stands.0)));
    }

pub loop-other-preserved : goal.loop-other-preserved
loop-other-preserved c =
    let a = c.args.inter.0 in
    let m = c.args.self.now.offers.plan.model in
    record {
      asked = λ b on. elim (eqb_tells b c.in-Some.other.0) [
        | inl same ↦ absurd (false≢true (sym (rw same.0 at (c.without_inter-left.ensures.has b))
            ∙ on))
        | inr apart ↦ c.loop-other.invariant.asked b
            (sym (rw apart.0 at (c.without_inter-left.ensures.has b)) ∙ on)
      ];
      none = λ b off stands. elim (eqb_tells b c.in-Some.other.0) [
        | inl same ↦
            let kept = c.keeps_out.ensures.1 (subst (λ (n : ℕ). (n ≡ a) ⊎ InConflict m a n) same.1
            stands.1) in
            absurd (false≢true (sym c.if-keeps_out.false ∙ kept))
        | inr apart ↦ c.loop-other.invariant.none b
            (sym (rw apart.0 at (c.without_inter-left.ensures.has b)) ∙ off) stands
      ];
    }

pub loop-other-smaller : goal.loop-other-smaller
loop-other-smaller c = c.without_inter-left.ensures.less c.in-Some.ensures.some.here

pub returns-then-keeps_out-clause-some : goal.returns-then-keeps_out-clause-some
returns-then-keeps_out-clause-some c =
    let lowest = c.in-Some.ensures.some in
    record {
      here = (
        c.loop-other.invariant.asked c.in-Some.other.0 lowest.here,
        c.keeps_out.ensures.0 c.if-keeps_out.true,
      );
      lower = λ b less. c.loop-other.invariant.none b
          (false_from_ne_true (has c.loop-other.left b) (lowest.lower b less));
    }

pub returns-clause-none : goal.returns-clause-none
returns-clause-none c = λ b.
    let off : has c.loop-other.left b ≡ false =
    rw (c.in_default.ensures.none, bit_at-zero b) refl in
    c.loop-other.invariant.none b off
