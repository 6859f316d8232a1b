-- What an expression of the program keeps of itself.
use Rattle.std.specs.Prelude.{◌≡◌, ℕ, Bool, false, List, [], ◌∷◌, Option, Some}
use Rattle.rx_model.specs.Look.{Look}
use Rattle.rx_model.specs.Length.{minimum_len}
use Rattle.rx_model.specs.Expression.{Expression}
use Rattle.rx_search.specs.LookSet.{has}
use Rattle.rx_hir.specs.Cost.{capped}
use Rattle.rx_hir.specs.Length.{maximum_len, saturated, in_64_bits}
use Rattle.rx_hir.specs.Properties.{static_groups, explicit_groups, has_look, looks_first, looks_last, is_utf8, is_literal, is_alternation_literal}
use Rattle.rx_hir.specs.declared.hir.properties.Properties.{Properties}

-- the properties are those of the expression
pub record AreOf (h : Expression) (p : Properties) : Type 0 where
  pub least : p.minimum_len ≡ saturated (minimum_len h)
  pub greatest : p.maximum_len ≡ in_64_bits (maximum_len h)
  pub static_count : p.static_explicit_captures_len ≡ static_groups h
  pub count : p.explicit_captures_len ≡ capped (explicit_groups h)
  pub kinds : (kind : Look) → has p.look_set kind ≡ has_look kind h
  pub first_kinds : (kind : Look) → has p.look_set_prefix kind ≡ looks_first kind h
  pub last_kinds : (kind : Look) → has p.look_set_suffix kind ≡ looks_last kind h
  pub utf8 : p.is_utf8 ≡ is_utf8 h
  pub one_literal : p.is_literal ≡ is_literal h
  pub literals : p.is_alternation_literal ≡ is_alternation_literal h

-- each of the list has its properties
abbrev pub AreOfEach : List Expression → List Properties → Type 0
AreOfEach [] [] = Unit {0}
AreOfEach [] (p ∷ ps) = ⊥
AreOfEach (h ∷ hs) [] = ⊥
AreOfEach (h ∷ hs) (p ∷ ps) = AreOf h p × AreOfEach hs ps

-- of what has neither groups nor look-arounds and is no literal
pub record AreSimple (least greatest : Option ℕ) (utf8 : Bool) (p : Properties) : Type 0 where
  pub least_is : p.minimum_len ≡ least
  pub greatest_is : p.maximum_len ≡ greatest
  pub static_count : p.static_explicit_captures_len ≡ Some 0
  pub count : p.explicit_captures_len ≡ 0
  pub kinds : (kind : Look) → has p.look_set kind ≡ false
  pub first_kinds : (kind : Look) → has p.look_set_prefix kind ≡ false
  pub last_kinds : (kind : Look) → has p.look_set_suffix kind ≡ false
  pub utf8_is : p.is_utf8 ≡ utf8
  pub one_literal : p.is_literal ≡ false
  pub literals : p.is_alternation_literal ≡ false
