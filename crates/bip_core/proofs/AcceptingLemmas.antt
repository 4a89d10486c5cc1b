-- Why bytes are dropped is one fault, by the laws of frames; and how many values the bytes that a
-- view lends hold.
use Rattle.std.proofs.Common.{◌≡◌, ℕ, ◌/◌, List, Err, ap, arith}
use Rattle.std.proofs.Common.{length, refl, subst}
use Rattle.bip_partition.specs.Plans.{Planned}
use Rattle.bip_frame.proofs.LawLemmas.{not_both, one_fault}
use Rattle.bip_frame.proofs.LentLemmas.{values_counted}
use Rattle.bip_frame.proofs.ReadingLemmas.{one_message}
use Rattle.bip_frame.specs.Frames.{IsFrame, Message}
use Rattle.bip_frame.specs.Views.{notify_lent, notify_shown, offer_lent, offer_shown}
use Rattle.bip_frame.specs.declared.frames.NotifyFrame.{NotifyFrame}
use Rattle.bip_frame.specs.declared.frames.OfferFrame.{OfferFrame}
use Rattle.bip_core.specs.Accepting.{FitsAddressee, IsAccepted, IsDropped, IsJudged, IsKnown}
use Rattle.bip_core.specs.declared.accepting.Address.{Address}
use Rattle.bip_core.specs.declared.accepting.DropFault.TheVariants.{Frame, Misfit, Unknown}
use Rattle.bip_core.specs.declared.accepting.DropFault.{DropFault}

-- what is accepted isn't dropped
pub not_dropped : (p : Planned) (to : Address) (bytes : List ℕ) (m : Message) (fault : DropFault)
    → IsFrame m bytes → IsAccepted p to m → IsDropped p to bytes fault → ⊥
not_dropped p to bytes m (Frame fault) frame accepted dropped = not_both m fault bytes frame dropped
not_dropped p to bytes m Unknown frame accepted dropped =
    dropped.2 (subst (λ x. IsKnown p to x) (one_message m dropped.0 bytes frame dropped.1)
    accepted.known)
not_dropped p to bytes m Misfit frame accepted dropped =
    dropped.3 (subst (λ x. FitsAddressee p to x)
    (one_message m dropped.0 bytes frame dropped.1) accepted.fits)

-- a message that isn't accepted is dropped
pub judged_dropped : (p : Planned) (to : Address) (bytes : List ℕ) (m : Message) (fault : DropFault)
    → IsFrame m bytes → IsJudged p to m (Err fault) → IsDropped p to bytes fault
judged_dropped p to bytes m (Frame fault) frame judged = absurd judged
judged_dropped p to bytes m Unknown frame judged = (m, frame, judged)
judged_dropped p to bytes m Misfit frame judged = (m, frame, judged.0, judged.1)

-- bytes are dropped for one fault
pub one_drop : (p : Planned) (to : Address) (bytes : List ℕ) (one other : DropFault)
    → IsDropped p to bytes one → IsDropped p to bytes other → one ≡ other
one_drop p to bytes (Frame f) (Frame g) is also = ap Frame (one_fault f g bytes is also)
one_drop p to bytes (Frame f) Unknown is also = absurd (not_both also.0 f bytes also.1 is)
one_drop p to bytes (Frame f) Misfit is also = absurd (not_both also.0 f bytes also.1 is)
one_drop p to bytes Unknown (Frame g) is also = absurd (not_both is.0 g bytes is.1 also)
one_drop p to bytes Unknown Unknown is also = refl
one_drop p to bytes Unknown Misfit is also =
    absurd (is.2 (subst (λ x. IsKnown p to x) (one_message also.0 is.0 bytes also.1 is.1) also.2))
one_drop p to bytes Misfit (Frame g) is also = absurd (not_both is.0 g bytes is.1 also)
one_drop p to bytes Misfit Unknown is also =
    absurd (also.2 (subst (λ x. IsKnown p to x) (one_message is.0 also.0 bytes is.1 also.1) is.2))
one_drop p to bytes Misfit Misfit is also = refl

-- the bytes that a view lends are four for each value
pub offer_counted : (f : OfferFrame) → length (offer_lent f) / 4 ≡ length (offer_shown f).values
offer_counted f = omega (arith, f.whole, values_counted f.count f.vars.now)

pub notify_counted : (f : NotifyFrame) → length (notify_lent f) / 4 ≡ length (notify_shown f).values
notify_counted f = omega (arith, f.whole, values_counted f.count f.vars.now)
