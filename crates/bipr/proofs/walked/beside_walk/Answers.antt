use Rattle.std.proofs.Common.{◌∙◌, refl}
use Rattle.bipr.proofs.walked.beside_walk.Goals as goal

pub returns : goal.returns
returns c =
    let tally = c.tally_of_book-tally.ensures in
    record {
      is_stuck = tally.0;
      stuck = rw c.requires.model at tally.1;
      is = c.in_ok-extend_from_slice.ensures.items ∙ rw (
        c.in_ok-text.ensures,
        c.as_slice.ensures.value,
        c.in_ok-stats.ensures,
        tally.2,
        c.grants.ensures.grants,
        c.requires.model,
      ) refl;
    }
