-- A strategy may go to other threads, and be shared with them, since what it holds may.
use denote.Param.Send.{IsSend, IsSync, sendable}
use Rattle.std.proofs.Crossing.{crosses}
use Rattle.rx_pre.proofs.pre.Pre.TheSendSync as pre
use Rattle.rx_prefilter.proofs.prefilter.Prefilter.TheSendSync as prefilter
use Rattle.rx_strategy.proofs.ThreadLemmas as core
use Rattle.rx_strategy.specs.contracts.strategy.Strategy as lower
use Rattle.rx_strategies.specs.contracts.anchored.ReverseAnchored as anchored
use Rattle.rx_strategies.specs.contracts.inner.ReverseInner as inner
use Rattle.rx_strategies.specs.contracts.strategy.Strategy as strategy
use Rattle.rx_strategies.specs.contracts.suffix.ReverseSuffix as suffix

lower_send : IsSend (lower.the_field).row
lower_send = search (sendable, crosses, core.core_send) fits 5000 depth 40

lower_sync : IsSync (lower.the_field).row
lower_sync = search (sendable, crosses, core.core_sync) fits 5000 depth 40

anchored_send : IsSend anchored.the_row
anchored_send = search (sendable, crosses, lower_send, core.strategy_send) fits 5000 depth 40

anchored_sync : IsSync anchored.the_row
anchored_sync = search (sendable, crosses, lower_sync, core.strategy_sync) fits 5000 depth 40

suffix_send : IsSend suffix.the_row
suffix_send = search (sendable, crosses, lower_send, core.strategy_send, prefilter.the_send) fits 5000 depth 40

suffix_sync : IsSync suffix.the_row
suffix_sync = search (sendable, crosses, lower_sync, core.strategy_sync, prefilter.the_sync) fits 5000 depth 40

inner_send : IsSend inner.the_row
inner_send = search (sendable, crosses, lower_send, core.strategy_send, core.prefix_send, prefilter.the_send) fits 5000 depth 40

inner_sync : IsSync inner.the_row
inner_sync = search (sendable, crosses, lower_sync, core.strategy_sync, core.prefix_sync, prefilter.the_sync) fits 5000 depth 40

pub strategy_send : IsSend strategy.the_row
strategy_send = search (sendable, crosses, lower_send, core.strategy_send, pre.the_send, anchored_send, suffix_send, inner_send) fits 5000 depth 40

pub strategy_sync : IsSync strategy.the_row
strategy_sync = search (sendable, crosses, lower_sync, core.strategy_sync, pre.the_sync, anchored_sync, suffix_sync, inner_sync) fits 5000 depth 40
