use Rattle.std.proofs.Common.{ℕ, length, ◌∙◌, ap}
use Rattle.std.specs.Prelude.{Option}
use Rattle.rx_dfa.specs.Lazy.{LazyValue}
use Rattle.rx_dfa.proofs.lazy.lazy_cache.LazyCache.new.Goals as goal

pub returns-clause-fits : goal.returns-clause-fits
returns-clause-fits c = record {
  rows = c.in_ok-new.ensures.rows c.args.lazy.now;
  room = c.in_ok-new-2.ensures ∙ c.states_len.ensures.value ∙ ap (λ (v : LazyValue). length v.dfa.nfa.states) c.lazy.view_is;
}

pub returns-clause-empty : goal.returns-clause-empty
returns-clause-empty c = record {
  keys = c.in_ok-new.ensures.empty;
  size = c.in_ok-new.ensures.size;
  clears = ap (λ (p : ℕ × Option ℕ). p.0) c.in_ok-new.ensures.counts;
  since = ap (λ (p : ℕ × Option ℕ). p.1) c.in_ok-new.ensures.counts;
}
