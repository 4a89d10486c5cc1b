use Rattle.std.proofs.Common.{rules, sym, ◌∙◌}
use Rattle.std.proofs.lemmas.List.Sorted.{IsNonDecreasingBy-from_sort_by_key}
use Rattle.bip_model.proofs.PartitionLemmas.{number_of, sorted_class}
use Rattle.bip_model.proofs.partitions.in_order.Goals as goal

pub returns : goal.returns
returns c = c.of.ensures ∙ sym (sorted_class c.args.class.now _ c.requires (search rules)
    (IsNonDecreasingBy-from_sort_by_key number_of _ c.sort_unstable_by_key.ensures.sorted
    (λ a r q k. search rules)))
