use Rattle.std.proofs.Common.{◌≡◌, [], List, Some, ap, rules, sym, ◌∙◌}
use Rattle.std.proofs.lemmas.List.{drop_all}
use Rattle.std.proofs.lemmas.List.Sorted.{IsNonDecreasingBy-from_sort_by_key}
use Rattle.arrayvec.proofs.ArrayVecLemmas.{items-with_items}
use Rattle.bip_model.specs.declared.wants.Want.{Want}
use Rattle.bip_replay.specs.Lines.{wants_by_component, wants_known}
use Rattle.bip_replay.proofs.NamedLemmas.{comp_of, sorted_wants}
use Rattle.bip_replay.proofs.lines.look_up.Goals as goal

pub returns : goal.returns
returns c =
    let names = c.args.model.now.component_names in
    let items : List Want = c.loop-want.wants.items in
    let sorted : List Want = c.sort_unstable_by_key.new.self in
    let known : wants_known names [] c.args.named.now ≡ Some (wants_by_component items) =
    sym c.loop-want.invariant.known ∙ ap (wants_known names items)
    (drop_all c.loop-want.want-index c.args.named.now c.loop-want-test.false) in
    let up = IsNonDecreasingBy-from_sort_by_key comp_of sorted c.sort_unstable_by_key.ensures.sorted
    (λ a r q k. search rules) in
    let same = sorted_wants names c.args.named.now items sorted c.requires.apart known
    (rw c.deref_mut.ensures.value at c.sort_unstable_by_key.ensures.permutation) up in
    record {
      known = known ∙ ap (λ (ws : List Want). Some ws) (same
          ∙ sym (items-with_items c.loop-want.wants sorted (search rules)));
    }
