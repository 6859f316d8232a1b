use Rattle.std.proofs.Common.{◌≡◌, refl, sym, ◌∙◌, ap, rules}
use Rattle.std.specs.Prelude.{Some, None}
use Rattle.rx_dfa.specs.Scratch.{room_with}
use Rattle.rx_dfa.proofs.lemmas.RowsLemmas.{rows-same}
use Rattle.rx_dfa.proofs.lazy.lazy_cache.LazyCache.renew.Goals as goal

pub returns-in_default-clause-fits : goal.returns-in_default-clause-fits
returns-in_default-clause-fits c l room =
    let none : c.args.room ≡ None = search rules in
    record {
      rows = rows-same l c.empty.new.self _ (c.empty.ensures.rows l) refl refl refl refl;
      room = sym (ap (λ o. room_with o c.args.self.now.scratch) none) ∙ room;
    }

pub returns-clause-fits : goal.returns-clause-fits
returns-clause-fits c l room =
    let some : c.args.room ≡ Some c.in-Some.room = search rules in
    record {
      rows = rows-same l c.empty.new.self _ (c.empty.ensures.rows l) refl refl refl refl;
      room = sym (ap (λ o. room_with o c.args.self.now.scratch) some) ∙ room;
    }
