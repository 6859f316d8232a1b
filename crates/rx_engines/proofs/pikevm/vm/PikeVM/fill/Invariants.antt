use Rattle.std.proofs.Common.{◌≡◌, ℕ, ◌<◌, length}
use Rattle.std.specs.Prelude.{true}
use Rattle.rx_model.specs.Search.{Patterns}
use Rattle.rx_search.specs.PatternSet.{has}
use Rattle.rx_nfa.specs.Nfa.{IsNfaOf}
use Rattle.rx_engines.specs.Engine.{Fits}
use Rattle.rx_engines.specs.Needles.{BeginsEachRun}
use Rattle.rx_search.specs.Sets.{MatchesIn, KeepsMembers, GainsMatching}
use Rattle.rx_engines.proofs.pikevm.vm.PikeVM.fill.Given as goal

abbrev pub invariant-loop-k : goal.invariant-loop-k
invariant-loop-k l = record {
  kept : KeepsMembers l.fn.set l.set;
  matching : (r : Patterns) → IsNfaOf l.self.nfa r → BeginsEachRun l.self.pre l.self.nfa l.input → GainsMatching r l.input l.fn.set l.set;
  each : (r : Patterns) → IsNfaOf l.self.nfa r → BeginsEachRun l.self.pre l.self.nfa l.input → (p : ℕ) → p < l.k → MatchesIn r l.input p
      → has l.set p ≡ true;
  fits : Fits l.self l.cache;
  memory : l.cache.memory ≡ l.fn.cache.memory;
}
