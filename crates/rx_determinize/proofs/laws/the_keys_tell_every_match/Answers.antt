use Rattle.rx_search.specs.declared.anchored.MatchKind.TheVariants.{All as AllMatches}
use Rattle.rx_determinize.proofs.lemmas.SeenLemmas.{seen-start}
use Rattle.rx_determinize.proofs.lemmas.ToldLemmas.{told-runs, runs-told}
use Rattle.rx_determinize.proofs.laws.the_keys_tell_every_match.Goals as goal

pub returns-clause-told : goal.returns-clause-told
returns-clause-told c = λ around size states names e start inside sight short pattern a first le sees loops h.
    told-runs around size states names e start inside sight short pattern a first le loops
    (seen-start AllMatches around size states start sight e a first loops sees) h

pub returns-clause-every : goal.returns-clause-every
returns-clause-every c = λ around size states names e start inside sight short pattern a first le sees loops r.
    runs-told around size states names e start inside sight short pattern a first le loops
    (seen-start AllMatches around size states start sight e a first loops sees) r
