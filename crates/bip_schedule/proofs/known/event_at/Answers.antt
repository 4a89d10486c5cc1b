use Rattle.std.proofs.Common.{◌≡◌, ◌<◌, ◌∙◌, None, Option, Some, ap, get_or, length, refl, rules}
use Rattle.std.proofs.lemmas.Bool.Decides.{Decides-eqb}
use Rattle.std.proofs.lemmas.Option.{slice_get-get_or}
use Rattle.std.proofs.lemmas.Slice.Eq.{slice_eq-Decides}
use Rattle.bip_schedule.specs.declared.known.KnownLine.{KnownLine}
use Rattle.bip_schedule.proofs.known.event_at.Goals as goal

pub returns-in-Some-Some : goal.returns-in-Some-Some
returns-in-Some-Some c =
    let within : c.args.place < length c.args.places.now = search rules in
    let at : get_or c.args.places.now c.args.place None ≡ Some c.in-Some-Some.known =
    search rules in
    record {
      known = c.in-Some-Some.known;
      there = slice_get-get_or c.args.places.now c.args.place None within
          ∙ ap (λ (k : Option KnownLine). Some k) at;
      same = (slice_eq-Decides Decides-eqb _ _ _ c.eq.ensures).0 c.if-eq.true;
      says = refl;
    }
