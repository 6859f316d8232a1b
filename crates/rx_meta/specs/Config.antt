-- What a configuration asks for, as the strategy reads it.
pub use Rattle.rx_strategy.specs.Config.{kind_of, utf8_of, auto_prefilter_of, prefilter_of, which_of, captures_of, size_limit_of}
pub use Rattle.rx_strategy.specs.Config.{onepass_size_limit_of, hybrid_cache_capacity_of, dfa_size_limit_of, dfa_state_limit_of}
pub use Rattle.rx_strategy.specs.Config.{byte_classes_of, pool_capacity_of, hybrid_of, dfa_of, onepass_of}
pub use Rattle.rx_strategy.specs.Config.{terminator_of, backtrack_of, has_backtracker, is_leftmost, nothing_set, overwritten}
pub use Rattle.rx_strategy.specs.Config.{asks_for_dfas, dfa_of, hybrid_of, dfa_size_limit_of}
pub use Rattle.rx_strategy.specs.declared.config.Config.{Config}

-- a configuration, by a name for the definitions and clauses of the crates above
abbrev pub ConfigValue : Type 0
ConfigValue = Config
