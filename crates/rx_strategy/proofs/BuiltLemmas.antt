-- Which DFAs are there, by what was built.
use Rattle.std.proofs.Common.{◌≡◌, ◌+◌, ◌*◌, ◌<◌, refl, sym, subst}
use Rattle.std.proofs.lemmas.Bool.{and_left, and_right, le-leb, lt-leb}
use Rattle.std.specs.Prelude.{true, false, Option, Some, None, MatchOption}
use Rattle.rx_search.specs.declared.anchored.MatchKind.{MatchKind}
use Rattle.rx_search.specs.declared.anchored.MatchKind.TheVariants.{All}
use Rattle.rx_nfa.specs.Nfa.{Nfa}
use Rattle.rx_dfa.specs.Lazy.{LazyValue, minimum}
use Rattle.rx_dfa.specs.LazyBuild.{IsLazyOf}
use Rattle.rx_strategy.specs.Availability.{HasNoFull, AreDfasOf, AreDfasBeside, may_be_lazy}
use Rattle.rx_strategy.specs.Config.{kind_of, hybrid_of, hybrid_cache_capacity_of, byte_classes_of}
use Rattle.rx_strategy.specs.declared.config.Config.{Config}
use Rattle.rx_strategy.specs.declared.dfas.Dfas.{Dfas}
use Rattle.rx_strategy.specs.declared.dfas.Dfas.TheVariants.{Absent, Lazy}

not-lazy-below : (c : Config) (nfa : Nfa) → hybrid_cache_capacity_of c < minimum nfa → may_be_lazy c nfa ≡ false
not-lazy-below c nfa less = and_right (hybrid_of c) _ (lt-leb (minimum nfa) (hybrid_cache_capacity_of c) less)

module _ (c : Config) (nfa reverse : Nfa) (no_full : HasNoFull c nfa reverse) where
  pub absent-off : hybrid_of c ≡ false → AreDfasOf c nfa reverse Absent
  absent-off off = (no_full, and_left (hybrid_of c) _ off)

  pub absent-below : hybrid_cache_capacity_of c < minimum nfa → AreDfasOf c nfa reverse Absent
  absent-below less = (no_full, not-lazy-below c nfa less)

  -- both have the same minimum
  pub absent-behind : reverse.accounted ≡ nfa.accounted → hybrid_cache_capacity_of c < minimum reverse → AreDfasOf c nfa reverse Absent
  absent-behind same less = absent-below (subst (λ n. hybrid_cache_capacity_of c < 16384 + 16 * n) same less)

  pub both-lazy : hybrid_of c ≡ true → (f b : LazyValue) → IsLazyOf nfa (kind_of c) (byte_classes_of c) (hybrid_cache_capacity_of c) f
      → IsLazyOf reverse All (byte_classes_of c) (hybrid_cache_capacity_of c) b → AreDfasOf c nfa reverse (Lazy f b)
  both-lazy on f b first second = (no_full, (there, (first, second)))
    where
      there : may_be_lazy c nfa ≡ true
      there = rw (on, le-leb (minimum nfa) (hybrid_cache_capacity_of c) first.enough) refl

-- what the maker of a lazy DFA answered
module _ (c : Config) (nfa : Nfa) (kind : MatchKind) (o : Option LazyValue)
    (made : MatchOption o (hybrid_cache_capacity_of c < minimum nfa) (IsLazyOf nfa kind (byte_classes_of c) (hybrid_cache_capacity_of c))) where
  abbrev Made : Option LazyValue → Type 0
  Made x = MatchOption x (hybrid_cache_capacity_of c < minimum nfa) (IsLazyOf nfa kind (byte_classes_of c) (hybrid_cache_capacity_of c))

  pub none-made : o ≡ None → hybrid_cache_capacity_of c < minimum nfa
  none-made is = subst Made is made

  pub some-made : (l : LazyValue) → o ≡ Some l → IsLazyOf nfa kind (byte_classes_of c) (hybrid_cache_capacity_of c) l
  some-made l is = subst Made is made

-- what the maker of full DFAs answered
module _ (c : Config) (nfa reverse : Nfa) (o : Option Dfas) (made : MatchOption o (HasNoFull c nfa reverse) (AreDfasOf c nfa reverse)) where
  abbrev Full : Option Dfas → Type 0
  Full x = MatchOption x (HasNoFull c nfa reverse) (AreDfasOf c nfa reverse)

  pub none-full : o ≡ None → HasNoFull c nfa reverse
  none-full is = subst Full is made

  pub some-full : (dfas : Dfas) → o ≡ Some dfas → AreDfasOf c nfa reverse dfas
  some-full dfas is = subst Full is made

-- beside the NFA that reads backwards, if that is there
pub beside-none : (c : Config) (nfa : Nfa) (o : Option Nfa) → o ≡ None → AreDfasBeside c nfa o Absent
beside-none c nfa o is = subst (λ (x : Option Nfa). AreDfasBeside c nfa x Absent) (sym is) refl

pub beside-some : (c : Config) (nfa : Nfa) (o : Option Nfa) (reverse : Nfa) → o ≡ Some reverse → (dfas : Dfas) → AreDfasOf c nfa reverse dfas
    → AreDfasBeside c nfa o dfas
beside-some c nfa o reverse is dfas are = subst (λ (x : Option Nfa). AreDfasBeside c nfa x dfas) (sym is) are
