use Rattle.std.proofs.Common.{◌≡◌}
use Rattle.std.proofs.lemmas.Result.{IfOk-weaker}
use Rattle.bip_model.specs.Steps.{IsListLookedAt, comps_looked_at}
use Rattle.bip_model.proofs.AboveLists.{list_looked_at}
use Rattle.bip_model.proofs.parts.System.list_looked_at.Goals as goal

pub returns : goal.returns
returns c =
    IfOk-weaker c.comps_looked_at.result (λ v. v.items
    ≡ comps_looked_at c.args.self.now c.args.inter.0 c.args.above.now c.len.result)
    (λ v. IsListLookedAt c.args.self.now c.args.inter.0 v.items)
    (λ v is. rw (is, c.len.ensures) (list_looked_at c.args.self.now c.args.inter.0 c.args.above.now
    c.requires.system c.requires.above))
    c.comps_looked_at.ensures
