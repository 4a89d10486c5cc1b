use Rattle.std.proofs.Common.{ap, refl, subst, sym}
use Rattle.bip_bank.specs.declared.banks.Acted.TheVariants.{Nothing}
use Rattle.bip_core.specs.Letters.{IsNumberedRequest}
use Rattle.bip_bank.specs.Banks.{BankContent}
use Rattle.bip_core.specs.Worlds.{KeptWorld}
use Rattle.bip_core.proofs.WorldLemmas.{bank_kept, kept_by, submitted_kept, traced_kept}
use Rattle.bip_core.proofs.machines.Machine.submit.Goals as goal
use Rattle.bip_core.proofs.machines.Machine.submit.Goals.{in-Ok, in-Err}

pub invariant_of-self : goal.invariant_of-self
invariant_of-self g c =
    let w = kept_by c.self.inside.plan.now c.self.inside.components.items
    c.self.inside.classes.items c.self.inside.mail c.self.inside.own
    (g.B.Bank.kept c.self.inside.bank) in
    let b = g.B.Bank.kept c.submit.new.self in
    let fit : IsNumberedRequest w.plan c.args.request =
    subst (λ (k : KeptWorld). IsNumberedRequest k.plan c.args.request)
    (sym c.self.view_is) c.requires in
    let own = c.self.inside.own.items in
    elim c.match-submit.branch [
      | in-Ok v ↦ traced_kept w own b (ap (λ (x : BankContent). x.grants) v.in-Ok.ensures.ok) refl
          (submitted_kept w b c.args.request fit v.in-Ok.ensures.ok c.self.invariant)
      | in-Err v ↦ traced_kept w own b (ap (λ (x : BankContent). x.grants) v.in-Err.ensures.err)
          refl (bank_kept w b Nothing v.in-Err.ensures.err c.self.invariant)
    ]
