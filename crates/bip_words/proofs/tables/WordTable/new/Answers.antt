use Rattle.std.proofs.Common.{◌∙◌}
use Rattle.bip_words.proofs.OpeningLemmas.{opens}
use Rattle.bip_words.proofs.tables.WordTable.new.Goals as goal

pub of_words-requires : goal.of_words-requires
of_words-requires c =
    let r = c.requires in
    rw (c.of-rows.ensures, c.as_slice.ensures.value ∙ c.in_ok-words.ensures)
    (opens c.args.entries.now r.rows r.small)
