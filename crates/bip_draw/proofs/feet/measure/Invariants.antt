use Rattle.std.proofs.Common.{◌≡◌, List, length, ℕ}
use Rattle.bip_draw.specs.Layout.{longest}
use Rattle.bip_model.proofs.LineLemmas.{AreLeft}
use Rattle.bip_draw.proofs.feet.measure.Given as goal

abbrev pub invariant-loop-number : goal.invariant-loop-number
invariant-loop-number l =
    (front : List (List ℕ)) × AreLeft l.text front l.number-iterator × (l.count ≡ length front)
    × (l.most ≡ longest front)
