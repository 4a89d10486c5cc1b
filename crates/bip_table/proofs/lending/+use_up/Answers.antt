use Rattle.std.proofs.Common.{◌<◌, true, length, refl, arith}
use Rattle.bip_model.specs.declared.wants.Role.TheVariants.{Moved}
use Rattle.bip_model.specs.declared.wants.Want.{Want}
use Rattle.bip_table.proofs.MeetLemmas.{IsLent, first_fresh, later, later_rising, later_shorter}
use Rattle.bip_table.proofs.MeetLemmas.{none_written, rest_fresh, rest_rising, writes}
use Rattle.bip_table.proofs.lending.+use_up.Goals as goal

abbrev no_want : Want
no_want = record { number = 0; comp = record { 0 = 0 }; role = Moved }

pub returns-in_default : goal.returns-in_default
returns-in_default t c = none_written c.args.rows.now c.args.wants.now true c.in_default.len_below

pub use_up-requires : goal.use_up-requires
use_up-requires t c =
    let l : IsLent c.args.rows.now c.args.wants.now c.in-Some.place c.lend-row.result.0.now
    c.lend-row.result.1.now no_want = record {
      rising = c.requires.rows;
      order = c.requires.wants;
      some_want = omega (arith, c.in-len1-up.len_at_least);
      within = c.in-Some.ensures.within;
      place = c.in-Some.ensures.some;
      there = c.in-Some.ensures.row.0 refl;
      parts = c.lend-row.ensures.value;
      behind = c.lend-row.ensures.rest;
    } in
    let less : length (later c.args.wants.now) < t =
    omega (
      arith,
      later_shorter c.args.wants.now (omega (arith, c.in-len1-up.len_at_least)),
      c.decreases,
    ) in (
      less,
      (
        rest_rising _ c.args.wants.now c.in-Some.place _ _ no_want l,
        (
          later_rising c.args.wants.now c.requires.wants,
          rest_fresh c.args.rows.now c.args.wants.now c.in-Some.place _ _ no_want l
              c.requires.fresh,
        ),
      ),
    )

pub use_up_one-requires : goal.use_up_one-requires
use_up_one-requires t c =
    let l : IsLent c.args.rows.now c.args.wants.now c.in-Some.place c.lend-row.result.0.now
    c.lend-row.result.1.now no_want = record {
      rising = c.requires.rows;
      order = c.requires.wants;
      some_want = omega (arith, c.in-len1-up.len_at_least);
      within = c.in-Some.ensures.within;
      place = c.in-Some.ensures.some;
      there = c.in-Some.ensures.row.0 refl;
      parts = c.lend-row.ensures.value;
      behind = c.lend-row.ensures.rest;
    } in
    first_fresh c.args.rows.now c.args.wants.now c.in-Some.place _ _ no_want l c.requires.fresh

pub returns : goal.returns
returns t c =
    let l : IsLent c.args.rows.now c.args.wants.now c.in-Some.place c.lend-row.result.0.now
    c.lend-row.result.1.now no_want = record {
      rising = c.requires.rows;
      order = c.requires.wants;
      some_want = omega (arith, c.in-len1-up.len_at_least);
      within = c.in-Some.ensures.within;
      place = c.in-Some.ensures.some;
      there = c.in-Some.ensures.row.0 refl;
      parts = c.lend-row.ensures.value;
      behind = c.lend-row.ensures.rest;
    } in
    writes c.args.rows.now c.args.wants.now c.in-Some.place _ c.lend-row.result.1.now no_want true
    true _ _ l refl c.use_up_one.ensures c.use_up.ensures
