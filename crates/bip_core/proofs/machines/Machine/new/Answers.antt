use Rattle.std.proofs.Common.{ℕ, List, ap, refl, subst, sym}
use Rattle.std.proofs.lemmas.List.Elements.{All-nil}
use Rattle.bip_model.specs.declared.messages.Request.{Request}
use Rattle.bip_ip.specs.Nodes.{ClassNode}
use Rattle.bip_bank.specs.Banks.{content_of}
use Rattle.bip_core.specs.Worlds.{IsKnownGrant, KeepsWhatFits}
use Rattle.bip_core.proofs.StartLemmas.{class_at, component_at, unasked_content}
use Rattle.bip_core.proofs.FitLemmas.{first_keeps}
use Rattle.bip_core.specs.Letters.{IsNumberedRequest}
use Rattle.bip_core.proofs.TraceLemmas.{no_trace}
use Rattle.bip_core.proofs.machines.Machine.new.Goals as goal

pub invariant_of-result : goal.invariant_of-result
invariant_of-result g c = record {
  each_component = c.in_ok-components.ensures.each;
  each_class = c.in_ok-classes.ensures.each;
  components = λ k node read.
      let first = c.in_ok-components.ensures.first k node read in
      (first.plan, first.comp);
  classes = λ k node read.
      let first = c.in_ok-classes.ensures.first k node read in
      (ap (λ (v : ClassNode). v.offers.plan) first, ap (λ (v : ClassNode). v.offers.class) first);
  fits = λ k node read. subst (KeepsWhatFits c.args.plan.now)
      (sym (c.in_ok-classes.ensures.first k node read)) (first_keeps c.args.plan.now k c.args.base);
  bank = c.requires.unasked.plan;
  mail = c.in_ok-mail.ensures.accepted;
  waiting = λ a. rw (ap (λ (f : ℕ → List Request). f a) c.requires.unasked.waiting)
      (All-nil (IsNumberedRequest c.args.plan.now));
  grants = rw (no_trace c.new.result.items _ c.new.ensures.items c.requires.unasked.grants)
      (All-nil (IsKnownGrant c.args.plan.now.model));
}

pub returns-clause-new : goal.returns-clause-new
returns-clause-new g c = record {
  plan = refl;
  components = λ k. component_at c.args.plan.now c.args.base c.in_ok-components.components.items k
      c.in_ok-components.ensures;
  classes = λ k. class_at c.args.plan.now c.args.base c.in_ok-classes.classes.items k
      c.in_ok-classes.ensures;
  mail = rw (← c.deref.ensures.value) c.in_ok-mail.ensures.offers;
  trace = no_trace c.new.result.items _ c.new.ensures.items c.requires.unasked.grants;
  bank = unasked_content c.args.plan.now c.args.base
      (content_of (g.B.Bank.kept c.args.bank)) c.requires.unasked
      (c.recall_unused.ensures c.requires.unasked.grants);
}
