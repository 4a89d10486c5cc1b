use Rattle.std.proofs.Common.{◌≡◌, ◌/◌, ◌∙◌, Some, ap, arith, slice_get, sym}
use Rattle.std.proofs.lemmas.Option.{slice_get-get_or}
use Rattle.bip_schedule.specs.Exploring.{SeedFigures}
use Rattle.bipr.proofs.AheadLemmas.{placed, places_back}
use Rattle.bipr.proofs.ahead.Ahead.block_behind.Goals as goal

pub returns-then-place-self-ne0-clause-none : goal.returns-then-place-self-ne0-clause-none
returns-then-place-self-ne0-clause-none c =
    λ block is.
    let back = places_back c.args.self.now.from c.args.done c.args.self.now.size is.place c.requires
    is.behind in
    c.if-place-self-ne0.true (rw c.in_ok-place.ensures.1 back.1)

pub returns-then-seeds-eq0-clause-none : goal.returns-then-seeds-eq0-clause-none
returns-then-seeds-eq0-clause-none c =
    λ block is.
    let back = places_back c.args.self.now.from c.args.done c.args.self.now.size is.place c.requires
    is.behind in
    let place = c.in_ok-place.place / c.args.self.now.size in
    let at : slice_get c.args.self.now.blocks.items place ≡ Some block =
    rw (c.in_ok-place.ensures.1, back.2) is.at in
    let found : slice_get c.args.self.now.blocks.items place ≡ Some c.in-Some.block.now =
    rw (← c.deref.ensures.value) (slice_get-get_or c.deref.result.now
    (c.in_ok-place.place / c.args.self.now.size) c.in-Some.block.now
    c.in-Some.ensures.lookup.3.0 ∙ ap (λ (x : SeedFigures). Some x)
    (sym c.in-Some.ensures.lookup.1)) in
    let both : Some block ≡ Some c.in-Some.block.now = sym at ∙ found in
    let same : block ≡ c.in-Some.block.now = cc in
    omega (
      arith,
      is.some,
      ap (λ (f : SeedFigures). f.tally.traces) same,
      c.seeds.ensures,
      c.if-seeds-eq0.true,
    )

pub returns-clause-some : goal.returns-clause-some
returns-clause-some c =
    let whole = rw c.in_ok-place.ensures.1 at c.if-place-self-ne0.false in
    record {
      place = c.in_ok-place.place / c.args.self.now.size;
      at = rw (← c.deref.ensures.value) (slice_get-get_or c.deref.result.now
          (c.in_ok-place.place / c.args.self.now.size) c.in-Some.block.now
          c.in-Some.ensures.lookup.3.0 ∙ ap (λ (x : SeedFigures). Some x)
          (sym c.in-Some.ensures.lookup.1));
      behind = rw c.in_ok-place.ensures.1 (placed c.args.self.now.from c.args.done
          c.args.self.now.size c.in_ok-place.ensures.0 whole);
      some = omega (arith, c.seeds.ensures, c.if-seeds-eq0.false);
    }
