-- A regex may go to other threads, and be shared with them, since its strategy may, and the caches that it lends may go.
use denote.Param.Send.{IsSend, IsSync, sendable}
use Rattle.std.proofs.Crossing.{crosses}
use Rattle.std.proofs.alloc.Global.TheSendSync as heap
use Rattle.rx_strategies.proofs.ThreadLemmas.{strategy_send, strategy_sync}
use Rattle.rx_strategy.proofs.config.Config.TheSendSync as config
use Rattle.rx_util.proofs.pool.Pool.TheSendSync as pool
use Rattle.rx_meta.proofs.cache.Cache.TheSendSync as cache
use Rattle.rx_meta.specs.contracts.cache_maker.CacheMaker as maker
use Rattle.rx_meta.specs.contracts.regex.Regex as regex

maker_send : IsSend maker.the_row
maker_send = search (sendable, crosses, heap.the_field_send, strategy_send, strategy_sync) fits 5000 depth 40

maker_sync : IsSync maker.the_row
maker_sync = search (sendable, crosses, heap.the_field_sync, strategy_send, strategy_sync) fits 5000 depth 40

pub regex_send : IsSend regex.the_row
regex_send = search (sendable, crosses, config.the_field_send, pool.the_field_send, cache.the_send, maker_send) fits 5000 depth 40

pub regex_sync : IsSync regex.the_row
regex_sync = search (sendable, crosses, config.the_field_sync, pool.the_field_sync, cache.the_send, maker_sync) fits 5000 depth 40
