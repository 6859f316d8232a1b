-- Where it is known, before a search, that no pattern has a match in an input's span.
use Rattle.std.specs.Prelude.{◌≡◌, ℕ, Bool, true, false, ◌&&◌, ◌||◌, List, length, Option, Some, None, nat_lt}
use Rattle.rx_model.specs.Look.{start_text, end_text}
use Rattle.rx_model.specs.Expression.{Expression, alternation}
use Rattle.rx_model.specs.Length.{minimum_len}
use Rattle.rx_model.specs.Search.{is_anchored}
use Rattle.rx_search.specs.Input.{InputValue, span_len}
use Rattle.rx_hir.specs.Length.{maximum_len, saturated, in_64_bits}
use Rattle.rx_hir.specs.Normal.{expressions}
use Rattle.rx_hir.specs.Properties.{looks_first, looks_last}
use Rattle.rx_hir.specs.PropertiesViews.{AreOf}
use Rattle.rx_hir.specs.declared.hir.properties.Properties.{Properties}

-- the length is below the least one, where one is known
abbrev pub is_below : ℕ → Option ℕ → Bool
is_below len None = false
is_below len (Some least) = nat_lt len least

-- the length is above the greatest one, where one is known
abbrev pub is_above : ℕ → Option ℕ → Bool
is_above len None = false
is_above len (Some greatest) = nat_lt greatest len

-- each match begins at the start of the text
abbrev pub is_always_anchored_start : Expression → Bool
is_always_anchored_start h = looks_first start_text h

-- each match ends at the end of the text
abbrev pub is_always_anchored_end : Expression → Bool
is_always_anchored_end h = looks_last end_text h

module _ (h : Expression) (v : InputValue) where
  -- the span begins after the only place where a match begins
  abbrev pub begins_too_late : Bool
  begins_too_late = nat_lt 0 v.start && is_always_anchored_start h

  -- the span ends before the only place where a match ends
  abbrev pub ends_too_early : Bool
  ends_too_early = nat_lt v.end (length v.haystack) && is_always_anchored_end h

  -- the span is shorter than each match, by the least length that 64 bits hold
  abbrev pub is_too_short : Bool
  is_too_short = is_below (span_len v) (saturated (minimum_len h))

  -- each match begins where the span does
  abbrev pub is_anchored_start : Bool
  is_anchored_start = is_anchored v.anchor || is_always_anchored_start h

  -- each match is the whole span, and the span is longer than a match, by a greatest length that 64 bits hold
  abbrev pub is_too_long : Bool
  is_too_long = is_anchored_start && is_always_anchored_end h && is_above (span_len v) (in_64_bits (maximum_len h))

-- it is known that none of the patterns has a match in the input's span
abbrev pub is_impossible : List Expression → InputValue → Bool
is_impossible hs v =
    let h : Expression = alternation (expressions hs) in
    begins_too_late h v || ends_too_early h v || is_too_short h v || is_too_long h v

-- the properties are those of some patterns together, of which it is known that none has a match in the input's span
abbrev pub IsKnownImpossible : Properties → InputValue → Type 0
IsKnownImpossible p v = (hs : List Expression) × AreOf (alternation (expressions hs)) p × (is_impossible hs v ≡ true)
