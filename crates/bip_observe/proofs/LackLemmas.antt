-- For whose sake an interaction isn't ready.
use Rattle.std.proofs.Common.{◌≡◌, ◌∙◌, ℕ, not, false, find, List, Option, None, Some, inl, inr}
use Rattle.std.proofs.Common.{sym}
use Rattle.std.proofs.lemmas.Bool.{false≢true}
use Rattle.bip_model.specs.Priorities.{IsListAbove}
use Rattle.bip_model.specs.Steps.{moves}
use Rattle.bip_model.specs.declared.numbering.CompId.{CompId}
use Rattle.bip_model.specs.declared.numbering.InterId.{InterId}
use Rattle.bip_model.proofs.FoundLemmas.{lowest_same}
use Rattle.bip_observe.proofs.DecideLemmas.{none_open, open_found}
use Rattle.bip_observe.specs.Offers.{Observed}
use Rattle.bip_observe.specs.Verdicts.{IsLackingAbove, IsOpenAbove, IsVerdict, LacksAbove, excludes}
use Rattle.bip_observe.specs.declared.verdicts.Verdict.TheVariants.{NotReady}

-- where the component that is told isn't moved, it is by one above
above_lacks : (v : Observed) (a : ℕ) (c : CompId) → IsVerdict v a (NotReady c)
    → moves v.plan.model a c.0 ≡ false → LacksAbove v a c.0
above_lacks v a c (inl missing) rests = absurd (false≢true (sym rests ∙ missing.here.0))
above_lacks v a c (inr lack) rests = lack

-- and that one is the first open one
pub lacking_found : (v : Observed) (a : ℕ) (c : CompId) (above : List InterId)
    (found : Option InterId) → IsVerdict v a (NotReady c) → moves v.plan.model a c.0 ≡ false
    → IsListAbove v.plan.model.priorities a above
    → found ≡ find (λ (d : InterId). not (excludes v d.0)) above → IsLackingAbove v a found
lacking_found v a c above (Some b) verdict rests list is =
    let lack = above_lacks v a c verdict rests in (
      c.0,
      lack,
      lowest_same (IsOpenAbove v a) lack.inter b.0 lack.open_ (open_found v a above b list
          is),
    )
lacking_found v a c above None verdict rests list is = λ d lack.
    let lacks_too = above_lacks v a c verdict rests in
    absurd (lacks_too.open_.here.1 (none_open v a above list is lacks_too.inter
    lacks_too.open_.here.0))
