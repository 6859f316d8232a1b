use Rattle.std.proofs.Common.{map}
use Rattle.std.specs.Vec.{vec_items}
use Rattle.rx_prefilter.proofs.LinkLemmas.{filled_linked}
use Rattle.rx_prefilter.proofs.aho_corasick.links.Links.pass_on.Goals as goal

pub returns-clause-linked : goal.returns-clause-linked
returns-clause-linked c =
    let old = c.args.self.now in
    filled_linked (map vec_items old.needles.items) old.next.items old.depths.items old.ends.items old.fails.items old.queue.items c.requires.linked
    c.args.state c.args.byte c.later-later.result c.requires.state c.requires.byte c.later-later.ensures c.requires.empty
