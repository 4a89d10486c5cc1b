-- Answers of runs that are recorded.
use Rattle.std.proofs.Common.{◌≡◌, ◌≢◌, ℕ, Err, List, None, Ok, Option, Result, Some, subst, sym}
use Rattle.std.specs.Prelude.{IfOk}
use Rattle.std.specs.declared.alloc.AllocError.{AllocError}
use Rattle.bip_answers.specs.declared.answers.Answer.{Answer}
use Rattle.bip_partition.specs.Plans.{Planned}
use Rattle.bipr.specs.Recorded.{IsRecordKept, IsRecorded, IsWhyUnkept, answer_unkept, elsewhere}
use Rattle.bipr.specs.Recorded.{keeping, lost, recorded, too_long}
use Rattle.bipr.specs.declared.hosted.Hosted.{Hosted}
use Rattle.bipr.specs.declared.recorded.Unkept.{Unkept}
use Rattle.bipr.specs.declared.recorded.Unkept.TheVariants.{Elsewhere, Lost, TooLong}
use Rattle.bipr.specs.declared.resolvers.Resolver.{Resolver}

-- what is there is not nothing
pub some_not_none : {A : Type 0} (x : Option A) (a : A) → x ≡ Some a → x ≢ None
some_not_none None a is none = cc
some_not_none (Some b) a is none = cc

module _ (p : Planned) (resolver : Resolver) (path : List ℕ) (given : Hosted) (plain : Answer)
  where
    -- a record is answered as what is to be kept
    pub record_kept : (schedule : List ℕ) (result : Result Answer AllocError)
        → IsRecordKept p resolver given plain.output schedule
        → IfOk result (λ answer. answer ≡ keeping plain path schedule)
        → IfOk result (IsRecorded p resolver path given plain)
    record_kept schedule (Ok answer) of same =
        subst (IsRecorded p resolver path given plain) (sym same)
        (recorded schedule of.whole of.is of.short)
    record_kept schedule (Err e) of same = tt

    -- and so is why there is none
    pub record_none : (why : Unkept) (result : Result Answer AllocError)
        → IsWhyUnkept p resolver given plain.output why
        → IfOk result (λ answer. answer ≡ answer_unkept plain why)
        → IfOk result (IsRecorded p resolver path given plain)
    record_none TooLong (Ok answer) is same =
        subst (IsRecorded p resolver path given plain) (sym same) (too_long is.0 is.1)
    record_none Lost (Ok answer) is same =
        subst (IsRecorded p resolver path given plain) (sym same) (lost is)
    record_none Elsewhere (Ok answer) is same =
        subst (IsRecorded p resolver path given plain) (sym same) (elsewhere is.0 is.1)
    record_none why (Err e) is same = tt
