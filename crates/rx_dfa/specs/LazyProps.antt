-- That a cache fits an automaton has one proof at most, so that a struct may keep it.
use Rattle.std.specs.Prelude.{ℕ, List, Option, Some, None}
use Rattle.std.proofs.Common.{inl, inr, sym, ◌∙◌, ap, true≢false}
use Rattle.std.proofs.Props.{props}
use Rattle.rx_model.specs.Beside.{IsAsciiOrNone}
use Rattle.rx_determinize.specs.Key.{Key}
use Rattle.rx_dfa.specs.Automaton.{Dfa}
use Rattle.rx_dfa.specs.Lazy.{LazyValue, IsDeadState, IsRowOf, StandsFor, IsNext, IsLive}
use Rattle.rx_dfa.specs.LazyCache.{AreRowsOf, IsCacheOf}
use Rattle.rx_dfa.specs.declared.lazy.rows.Rows.{Rows}
use Rattle.rx_dfa.specs.declared.lazy.lazy_cache.LazyCache.{LazyCache}

pub IsAsciiOrNone-prop : (byte : Option ℕ) → IsProp (IsAsciiOrNone byte)
IsAsciiOrNone-prop None = Prim.hlevel props
IsAsciiOrNone-prop (Some byte) = Prim.hlevel props

pub IsDeadState-prop : (state : ℕ) (k : Key) → IsProp (IsDeadState state k)
IsDeadState-prop state k = Prim.hlevel props

pub IsRowOf-prop : (stride : ℕ) (keys : List Key) (state : ℕ) (k : Key) → IsProp (IsRowOf stride keys state k)
IsRowOf-prop stride keys state k = Prim.hlevel props

-- a state is dead, or that of a row, and not both
pub StandsFor-prop : (stride : ℕ) (keys : List Key) (state : ℕ) (k : Key) → IsProp (StandsFor stride keys state k)
StandsFor-prop stride keys state k (inl d) (inl e) = ap inl (IsDeadState-prop state k d e)
StandsFor-prop stride keys state k (inl d) (inr y) = absurd (true≢false (sym d.dead ∙ y.alive))
StandsFor-prop stride keys state k (inr x) (inl e) = absurd (true≢false (sym e.dead ∙ x.alive))
StandsFor-prop stride keys state k (inr x) (inr y) = ap inr (IsRowOf-prop stride keys state k x y)

pub IsNext-prop : (l : LazyValue) (keys : List Key) (k : Key) (column state : ℕ) → IsProp (IsNext l keys k column state)
IsNext-prop l keys k column state = Prim.hlevel (StandsFor-prop, IsAsciiOrNone-prop, props)

pub IsLive-prop : (d : Dfa) (k : Key) → IsProp (IsLive d k)
IsLive-prop d k = Prim.hlevel (IsAsciiOrNone-prop, props)

pub AreRowsOf-prop : (l : LazyValue) (r : Rows) → IsProp (AreRowsOf l r)
AreRowsOf-prop l r = Prim.hlevel (StandsFor-prop, IsNext-prop, IsLive-prop, props)

pub IsCacheOf-prop : (l : LazyValue) (c : LazyCache) → IsProp (IsCacheOf l c)
IsCacheOf-prop l c = Prim.hlevel (AreRowsOf-prop, props)
