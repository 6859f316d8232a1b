-- A strategy may go to other threads, and be shared with them. A full DFA holds a value that contracts alone read, of which the kit does not
-- tell it by itself: so it is proved here of the DFA's parts, and of all that holds one.
use denote.Param.Send.{IsSend, IsSync, sendable}
use Rattle.std.proofs.Crossing.{crosses}
use Rattle.rx_search.proofs.primitives.StateID.TheSendSync as state
use Rattle.rx_search.proofs.primitives.PatternID.TheSendSync as pattern
use Rattle.rx_prefilter.proofs.prefilter.Prefilter.TheSendSync as prefilter
use Rattle.rx_nfa.proofs.nfa.NFA.TheSendSync as nfa
use Rattle.rx_dfa.proofs.alphabet.Alphabet.TheSendSync as alphabet
use Rattle.rx_dfa.proofs.lazy.lazy_dfa.Lazy.TheSendSync as lazy
use Rattle.rx_dfa.specs.contracts.dense.Dense as dense
use Rattle.rx_engines.proofs.pikevm.vm.PikeVM.TheSendSync as pikevm
use Rattle.rx_engines.proofs.backtrack.backtracker.BoundedBacktracker.TheSendSync as backtracker
use Rattle.rx_strategy.proofs.info.RegexInfo.TheSendSync as info
use Rattle.rx_strategy.proofs.onepass.OnePass.TheSendSync as once
use Rattle.rx_strategy.specs.contracts.dfas.Dfas as dfas
use Rattle.rx_strategy.specs.contracts.prefix.PrefixDfa as prefix
use Rattle.rx_strategy.specs.contracts.prefix.Sort as sort
use Rattle.rx_strategy.specs.contracts.strategy.Strategy as strategy
use Rattle.rx_strategy.specs.contracts.strategy.engines.Core as core

dense_send : IsSend dense.the_row
dense_send = search (sendable, crosses, state.the_send, pattern.the_send, nfa.the_send, alphabet.the_field_send) fits 5000 depth 40

dense_sync : IsSync dense.the_row
dense_sync = search (sendable, crosses, state.the_sync, pattern.the_sync, nfa.the_sync, alphabet.the_field_sync) fits 5000 depth 40

dfas_send : IsSend (dfas.the_field).row
dfas_send = search (sendable, crosses, dense_send, lazy.the_send) fits 5000 depth 40

dfas_sync : IsSync (dfas.the_field).row
dfas_sync = search (sendable, crosses, dense_sync, lazy.the_sync) fits 5000 depth 40

pub core_send : IsSend core.the_row
core_send =
    search (sendable, crosses, pikevm.the_send, once.the_field_send, backtracker.the_send, prefilter.the_send, info.the_field_send, nfa.the_send, dfas_send)
    fits 5000 depth 40

pub core_sync : IsSync core.the_row
core_sync =
    search (sendable, crosses, pikevm.the_sync, once.the_field_sync, backtracker.the_sync, prefilter.the_sync, info.the_field_sync, nfa.the_sync, dfas_sync)
    fits 5000 depth 40

pub strategy_send : IsSend strategy.the_row
strategy_send = search (sendable, crosses, core_send) fits 5000 depth 40

pub strategy_sync : IsSync strategy.the_row
strategy_sync = search (sendable, crosses, core_sync) fits 5000 depth 40

sort_send : IsSend (sort.the_field).row
sort_send = search (sendable, crosses, dense_send, lazy.the_send) fits 5000 depth 40

sort_sync : IsSync (sort.the_field).row
sort_sync = search (sendable, crosses, dense_sync, lazy.the_sync) fits 5000 depth 40

pub prefix_send : IsSend prefix.the_row
prefix_send = search (sendable, crosses, nfa.the_send, sort_send) fits 5000 depth 40

pub prefix_sync : IsSync prefix.the_row
prefix_sync = search (sendable, crosses, nfa.the_sync, sort_sync) fits 5000 depth 40
