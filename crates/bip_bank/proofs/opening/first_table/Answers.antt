use Rattle.std.proofs.Common.{◌≡◌, List, map, sym, subst, ap, ◌∙◌}
use Rattle.std.specs.List.Sorted.{IsStrictlyIncreasing}
use Rattle.bip_model.specs.declared.numbering.CompId.{CompId}
use Rattle.bip_bank.proofs.CentralLemmas.{entry_components, opens}
use Rattle.bip_bank.proofs.opening.first_table.Goals as goal

pub new-requires : goal.new-requires
new-requires c =
    let entries : c.in_ok-entries.entries.items ≡ map
    (λ (d : CompId). (d, c.args.base)) c.in_ok-tabled.tabled = c.in_ok-entries.ensures
    ∙ ap (λ (ds : List CompId). map (λ (d : CompId). (d, c.args.base)) ds) c.as_slice.ensures in
    rw (c.deref.ensures.value, entries) (subst IsStrictlyIncreasing
    (sym (entry_components c.args.base c.in_ok-tabled.tabled)) c.in_ok-tabled.ensures.rising)

pub returns : goal.returns
returns c =
    let entries : c.in_ok-entries.entries.items ≡ map
    (λ (d : CompId). (d, c.args.base)) c.in_ok-tabled.tabled = c.in_ok-entries.ensures
    ∙ ap (λ (ds : List CompId). map (λ (d : CompId). (d, c.args.base)) ds) c.as_slice.ensures in
    opens c.args.plan.now c.args.base c.in_ok-tabled.tabled c.new.result c.in_ok-tabled.ensures _
    (c.deref.ensures.value ∙ entries) c.new.ensures
