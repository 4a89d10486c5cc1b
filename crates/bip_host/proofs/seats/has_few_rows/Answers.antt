use Rattle.std.proofs.Common.{◌≤◌, rules}
use Rattle.bip_host.proofs.SeatLemmas.{few_counted}
use Rattle.bip_host.proofs.seats.has_few_rows.Goals as goal

pub returns : goal.returns
returns c = (
  λ yes.
      let few : c.count_tabled.result ≤ 32 = search (rules, yes) in
      (c.count_tabled.result, c.count_tabled.ensures, few),
  λ few.
      let counted : c.count_tabled.result ≤ 32 =
      few_counted c.args.plan.now c.count_tabled.result c.count_tabled.ensures few in
      search (rules, counted),
)
