use Rattle.std.proofs.Common.{◌≡◌, None, Option, refl}
use Rattle.std.proofs.lemmas.List.Elements.{All-nil, All-push}
use Rattle.bip_schedule.specs.declared.known.KnownLine.{KnownLine}
use Rattle.bip_schedule.proofs.known.empty_places.Goals as goal

pub loop-init : goal.loop-init
loop-init c = rw c.in_ok-places.ensures.items (All-nil (λ (kept : Option KnownLine). kept ≡ None))

pub loop-preserved : goal.loop-preserved
loop-preserved c =
    rw c.in_ok-push.ensures.items
    (All-push (λ (kept : Option KnownLine). kept ≡ None) _ None c.loop.invariant refl)
