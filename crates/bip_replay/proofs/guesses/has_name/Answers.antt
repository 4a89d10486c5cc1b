use Rattle.std.proofs.Common.{◌≡◌, ◌<◌, ◌∙◌, List, Some, [], ap, get_or, length, rules, sym, ℕ}
use Rattle.std.proofs.lemmas.Bool.Decides.{Decides-eqb}
use Rattle.std.proofs.lemmas.Option.{slice_get-get_or}
use Rattle.std.proofs.lemmas.Slice.Eq.{slice_eq-Decides}
use Rattle.bip_replay.proofs.guesses.has_name.Goals as goal

pub returns-in-Some : goal.returns-in-Some
returns-in-Some c = λ test.
    let within : c.args.inter.0 < length c.args.names.now = search rules in
    let at : get_or c.args.names.now c.args.inter.0 [] ≡ c.in-Some.own.now = search rules in
    let same : c.in-Some.own.now ≡ c.args.name.now = sym c.as_bytes.ensures.bytes
    ∙ (slice_eq-Decides Decides-eqb _ _ _ c.eq.ensures).0 test in
    record {
      name = rw same at c.as_bytes.ensures.name;
      known = slice_get-get_or c.args.names.now c.args.inter.0 [] within
          ∙ ap (λ (t : List ℕ). Some t) (at ∙ same);
    }
