-- Which prefilter a core has, and what is accounted for it.
use Rattle.std.specs.Prelude.{ℕ, List, Option, None, Some, if◌then◌else◌}
use Rattle.std.specs.Option.{option_or}
use Rattle.rx_model.specs.Expression.{Expression, alternation}
use Rattle.rx_hir.specs.Normal.{expressions}
use Rattle.rx_literal.specs.Extract.{prefixes_of}
use Rattle.rx_prefilter.specs.Choices.{accounted, chosen}
use Rattle.rx_prefilter.specs.Prefixes.{trimmed, served_by}
use Rattle.rx_strategy.specs.Config.{kind_of, auto_prefilter_of, prefilter_of}
use Rattle.rx_strategy.specs.Impossible.{is_always_anchored_start}
use Rattle.rx_strategy.specs.declared.config.Config.{Config}

-- the needles of the prefilter that is made of the patterns, where the configuration asks for it: what each match of
-- them begins with, trimmed for its kind of matches
abbrev pub automatic_prefilter : Config → List Expression → Option (List (List ℕ))
automatic_prefilter config hs = if auto_prefilter_of config then served_by (trimmed (kind_of config) (prefixes_of hs)) else None

-- The needles of the prefilter for these expressions: there is none where each match of each begins at the start of the
-- text. Else it is the one that was handed in, and else the one that is made of them.
abbrev pub prefilter_for : Config → List Expression → Option (List (List ℕ))
prefilter_for config hs =
    if is_always_anchored_start (alternation (expressions hs)) then None
    else option_or (prefilter_of config) (automatic_prefilter config hs)

-- what is accounted for a prefilter, if there is one
abbrev pub prefilter_memory : Option (List (List ℕ)) → ℕ
prefilter_memory None = 0
prefilter_memory (Some needles) = accounted (chosen needles) needles
