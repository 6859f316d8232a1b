use Rattle.std.proofs.Common.{◌≡◌, ap, ◌∙◌}
use Rattle.rx_strategies.specs.Cache as strategy
use Rattle.rx_strategies.specs.declared.strategy.Strategy.{Strategy}
use Rattle.rx_strategies.specs.declared.strategy.Strategy.TheVariants.{Pre, Core, ReverseAnchored, ReverseSuffix, ReverseInner}
use Rattle.rx_strategies.proofs.CacheLemmas.{alike-fixed, memory-parts}
use Rattle.rx_meta.specs.Cache.{AccountsAlike, IsAsMadeFor, memory_of, fixed_memory, states_memory}
use Rattle.rx_meta.proofs.laws.a_search_changes_states_alone.Goals as goal

-- a search leaves whether a prefix is read
alike-reads : (s : Strategy) (old new : strategy.CacheValue) → strategy.AccountsAlike s old new → new.reads_prefix ≡ old.reads_prefix
alike-reads (Pre p) old new alike = ap (λ (cache : strategy.CacheValue). cache.reads_prefix) alike
alike-reads (Core c) old new alike = alike.reads_prefix
alike-reads (ReverseAnchored c) old new alike = alike.reads_prefix
alike-reads (ReverseSuffix s) old new alike = alike.reads_prefix
alike-reads (ReverseInner i) old new alike = alike.reads_prefix

pub returns-clause-parts : goal.returns-clause-parts
unfolding memory_of fixed_memory states_memory
returns-clause-parts c = λ cache. memory-parts cache.rooms

pub returns-clause-search : goal.returns-clause-search
unfolding AccountsAlike fixed_memory
returns-clause-search c = λ regex old new alike. alike-fixed regex.strategy old.rooms new.rooms alike

pub returns-clause-own : goal.returns-clause-own
unfolding AccountsAlike IsAsMadeFor
returns-clause-own c = λ regex other old new alike own. alike-reads regex.strategy old.rooms new.rooms alike ∙ own
