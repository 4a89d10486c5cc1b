use Rattle.std.proofs.Common.{◌≡◌, List, ℕ, sym, subst, arith}
use Rattle.std.specs.Int.{w32, to_be_bytes}
use Rattle.std.specs.List.{flat_map}
use Rattle.bip_frame.specs.Lent.{values_in}
use Rattle.bip_frame.proofs.FieldLemmas.{values_lie}
use Rattle.bip_frame.proofs.fields.take_values.Goals as goal

pub invariant_of-result-clause-spelled : goal.invariant_of-result-clause-spelled
invariant_of-result-clause-spelled c =
    subst (λ (front : List ℕ). front ≡ flat_map (to_be_bytes w32)
    (values_in c.in_ok-count.count front)) (sym c.split_at.ensures.front)
    (values_lie c.args.bytes.now c.in_ok-count.count c.in_ok-count.rest.now
    (λ i. omega (arith, c.type_inv.bytes i)) c.in_ok-count.ensures (omega arith))
