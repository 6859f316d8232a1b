use Rattle.std.proofs.Common.{[], refl}
use Rattle.rx_dfa.specs.StateKey.{key_of}
use Rattle.rx_dfa.proofs.lemmas.ClearingLemmas.{grown-kept}
use Rattle.rx_dfa.proofs.lazy.lazy_dfa.Lazy.enter.Goals as goal

pub returns-in-Some-clause-grown : goal.returns-in-Some-clause-grown
returns-in-Some-clause-grown c =
    let r = c.args.cache.now.rows in
    grown-kept c.args.self.now [] (key_of c.args.cache.now.into) r.since _ r r refl refl
