use Rattle.std.proofs.Common.{◌≡◌, ◌<◌, ap, get_or, length, rules}
use Rattle.std.specs.Option.{option_map}
use Rattle.bip_ip.specs.Nodes.{node_of}
use Rattle.bip_core.proofs.WorldLemmas.{read_here}
use Rattle.bip_core.proofs.worlds.World.lacking_above.Goals as goal

pub returns-clause-none : goal.returns-clause-none
returns-clause-none g c =
    let classes = c.args.self.now.classes in
    let within : c.args.class.0 < length classes = search rules in
    let at : c.index.result.now ≡ get_or classes c.args.class.0 c.index.result.now =
    search rules in
    let is = read_here classes c.args.class.0 c.index.result.now within at in
    λ none. c.lacking_above.ensures.other
    (none (node_of c.index.result.now) (ap (option_map node_of) is))
