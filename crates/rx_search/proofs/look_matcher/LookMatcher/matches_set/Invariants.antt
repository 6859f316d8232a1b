use Rattle.std.proofs.Common.{◌↔◌}
use Rattle.rx_model.specs.Look.{holds}
use Rattle.rx_search.specs.LookSet.{AllHold}
use Rattle.rx_search.proofs.LookSetLemmas.{Each}
use Rattle.rx_search.proofs.look_matcher.LookMatcher.matches_set.Given as goal

-- all hold exactly where those do that are still to come
abbrev pub invariant-loop-look : goal.invariant-loop-look
invariant-loop-look l =
    Each (λ kind. holds l.fn.self l.fn.haystack kind l.fn.at) l.look-iterator
    ↔ AllHold l.fn.self l.fn.haystack l.fn.set l.fn.at
