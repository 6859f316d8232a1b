use Rattle.rx_strategies.proofs.CacheLemmas.{alike-memory}
use Rattle.rx_meta.specs.Cache.{AccountsAlike, memory_of}
use Rattle.rx_meta.specs.Regex.{has_lazy}
use Rattle.rx_meta.proofs.laws.a_search_without_lazy_dfas_accounts_nothing.Goals as goal

pub returns : goal.returns
unfolding has_lazy AccountsAlike memory_of
returns c = λ regex old new off alike. alike-memory regex.strategy old.rooms new.rooms off alike
