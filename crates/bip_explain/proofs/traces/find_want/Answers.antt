use Rattle.std.proofs.Common.{◌≡◌, ℕ, ◌<◌, ◌≤◌, List, ◌∷◌, [], map, length, true, false, refl, sym}
use Rattle.std.proofs.Common.{ap, ◌∙◌, drop, arith}
use Rattle.std.specs.List.{list_any}
use Rattle.bip_model.specs.Naming.{is_known, same_text}
use Rattle.std.proofs.lemmas.List.{length-map, map-append}
use Rattle.bip_model.specs.Texts.{words}
use Rattle.bip_model.proofs.PartitionLemmas.{list_any-named}
use Rattle.bip_explain.proofs.SaidLemmas.{want_is_named}
use Rattle.bip_explain.proofs.TraceLemmas.{names-last, names-more, names-none, names-other}
use Rattle.bip_explain.proofs.TraceLemmas.{stands_before, too_many}
use Rattle.bip_explain.proofs.traces.find_want.Goals as goal

pub loop-placed-init : goal.loop-placed-init
loop-placed-init c =
    let it = c.into_iter-placed-iterator in
    let second = c.behind_first-placed-items.ensures in
    let first = c.behind_first.ensures in
    let line : it.result.line.now ≡ c.args.line.now =
    rw it.ensures.into_iter_gives (second.line ∙ (first.line ∙ c.of.ensures.line)) in
    let rest : words it.result.rest.now ≡ drop 1 (drop 1 (words c.args.line.now)) =
    rw it.ensures.into_iter_gives (second.rest ∙ rw (first.rest, c.of.ensures.rest) refl) in
    record {
      line = line;
      names = rw c.new-named.ensures (names-none c.args.line.now
          it.result.rest.now (rw line at it.result.of_line) rest);
    }

pub returns-then-is_among-clause-some : goal.returns-then-is_among-clause-some
returns-then-is_among-clause-some c = λ model.
    let l = c.loop-placed in
    let placed = c.in-Some.placed in
    let step = rw l.invariant.line at c.in-Some.ensures.steps.1 in
    let component = c.in-Some-named_in.component.now in
    let names : List (List ℕ) = map (λ name. name.now) l.named.items in
    let known : is_known component names ≡ true
    = list_any-named (λ other. other.now) component l.named.items
    ∙ (ap (λ items. list_any (λ other. same_text component other.now) items)
    (sym c.as_slice.ensures.value) ∙ (sym c.is_among.ensures ∙ c.if-is_among.true)) in (
      (
        step.1,
        (
          component,
          want_is_named placed.word.now component (sym c.in-Some-named_in.ensures),
          stands_before c.args.line.now l.placed-iterator.rest.now c.next.new.self.rest.now names
              placed component l.invariant.names step.3 known,
        ),
      ),
      refl,
    )

pub returns-then-len-ge-MOST_WANTS-clause-some : goal.returns-then-len-ge-MOST_WANTS-clause-some
returns-then-len-ge-MOST_WANTS-clause-some c = λ model.
    let l = c.loop-placed in
    let placed = c.in-Some.placed in
    let step = rw l.invariant.line at c.in-Some.ensures.steps.1 in
    let component = c.in-Some-named_in.component.now in
    let names : List (List ℕ) = map (λ name. name.now) l.named.items in
    let most : 32 ≤ length names = omega (
      arith,
      length-map l.named.items (λ name. name.now),
      c.if-len-ge-MOST_WANTS.true,
      c.len.ensures,
    ) in (
      too_many c.args.line.now placed component c.next.new.self.rest.now (length names) (words
          l.placed-iterator.rest.now) l.invariant.names.named step.0 step.1 step.2
          (want_is_named placed.word.now component (sym c.in-Some-named_in.ensures)) most,
      refl,
    )

pub loop-placed-preserved-in-Some-named_in : goal.loop-placed-preserved-in-Some-named_in
loop-placed-preserved-in-Some-named_in c =
    let l = c.loop-placed in
    let placed = c.in-Some.placed in
    let step = rw l.invariant.line at c.in-Some.ensures.steps.1 in
    let component = c.in-Some-named_in.component.now in
    let names : List (List ℕ) = map (λ name. name.now) l.named.items in
    let unknown : is_known component names ≡ false
    = list_any-named (λ other. other.now) component l.named.items
    ∙ (ap (λ items. list_any (λ other. same_text component other.now) items)
    (sym c.as_slice.ensures.value) ∙ (sym c.is_among.ensures ∙ c.if-is_among.false)) in
    let few : length names < 32 = omega (
      arith,
      length-map l.named.items (λ name. name.now),
      c.if-len-ge-MOST_WANTS.false,
      c.len.ensures,
    ) in
    record {
      line = c.in-Some.ensures.steps.0 ∙ l.invariant.line;
      names = rw (
        c.push.ensures.items,
        map-append (λ name.
            name.now) l.named.items (c.in-Some-named_in.component ∷ []),
      )
          (names-more c.args.line.now l.placed-iterator.rest.now c.next.new.self.rest.now names
          placed component l.invariant.names step.0 step.1 step.3
          (sym c.in-Some-named_in.ensures) unknown few);
    }

pub loop-placed-preserved : goal.loop-placed-preserved
loop-placed-preserved c =
    let l = c.loop-placed in
    let step = c.in-Some.ensures.steps.1 in
    record {
      line = c.in-Some.ensures.steps.0 ∙ l.invariant.line;
      names = names-other c.args.line.now l.placed-iterator.rest.now c.next.new.self.rest.now
          (map (λ name. name.now) l.named.items) c.in-Some.placed l.invariant.names step.0
          (rw l.invariant.line at step.3) (sym c.in_default.ensures);
    }

pub returns-clause-none : goal.returns-clause-none
returns-clause-none c = names-last c.args.line.now c.loop-placed.placed-iterator.rest.now
    (map (λ name. name.now) c.loop-placed.named.items) c.loop-placed.invariant.names
    c.in-None.ensures.steps.1.0
