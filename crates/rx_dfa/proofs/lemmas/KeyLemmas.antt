-- Where the threads of a key lie.
use Rattle.std.proofs.Common.{ℕ, List}
use Rattle.rx_search.specs.declared.anchored.MatchKind.{MatchKind}
use Rattle.rx_search.specs.declared.anchored.MatchKind.TheVariants.{All, LeftmostFirst}
use Rattle.rx_nfa.specs.Ordered.{AreBelow}
use Rattle.rx_nfa.specs.declared.state.State.{State}
use Rattle.rx_nfa.proofs.lemmas.lists.TargetLemmas.{cut-below}
use Rattle.rx_determinize.specs.Key.{counting, accepts_in}

-- the threads that count lie where all do
pub counting-below : (n : ℕ) (kind : MatchKind) (states : List State) (qs : List ℕ) → AreBelow n qs → AreBelow n (counting kind states qs)
counting-below n All states qs h = h
counting-below n LeftmostFirst states qs h = cut-below n (accepts_in states) qs h
