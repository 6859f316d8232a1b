-- Caches that were grown, and what is accounted for them.
use Rattle.std.proofs.Common.{◌≡◌, ℕ, ◌+◌, ◌-◌, ◌^◌, ◌≤◌, min, refl, sym, ap, ◌∙◌, subst, arith, true≢false}
use Rattle.std.specs.Prelude.{false, Result, Ok, Err, OnOk, OnErr, IsErr, Option, Some, None, IfSome, IsSomeAnd}
use Rattle.rx_dfa.specs.Lazy.{LazyValue}
use Rattle.rx_dfa.specs.LazyCache.{IsCacheOf}
use Rattle.rx_engines.specs.Engine.{PikeVMValue, Fits as FitsPikeVM}
use Rattle.rx_strategy.specs.Cache.{CacheValue, Fits, FitsAsBefore, FitsBacktracker, AccountsAlike, AccountsAlikeIn, memory_of}
use Rattle.rx_strategy.specs.Strategy.{has_lazy}
use Rattle.rx_strategy.specs.Core.{CoreValue, pikevm_of}
use Rattle.rx_strategy.specs.Dfas.{lazies_of, AreCachesOf, FitsLazies, HoldNoStates, states_memory}
use Rattle.rx_strategy.specs.OnePass.{FitsOnePass}
use Rattle.rx_strategy.specs.declared.dfas.Dfas.{Dfas}
use Rattle.rx_strategy.specs.declared.dfas.Dfas.TheVariants.{Lazy}
use Rattle.rx_strategy.specs.declared.lazies.Lazies.{Lazies}
use Rattle.rx_strategy.specs.declared.onepass.OnePass.{OnePass}
use Rattle.rx_strategy.specs.declared.strategy.Strategy.{Strategy}
use Rattle.rx_strategy.specs.declared.strategy.Strategy.TheVariants.{Core}

pub on-err : {T E P : Type 0} (r : Result T E) → P → OnErr r P
on-err (Ok x) p = tt
on-err (Err e) p = p

pub ok-of-err : {T E : Type 0} (P : Type 0) (r : Result T E) → IsErr r → OnOk r P
ok-of-err P (Ok x) is = absurd (true≢false (sym is))
ok-of-err P (Err e) is = tt

-- each part fits what it fitted, and so does the whole
module _ (old new : CacheValue) (pikevm : (vm : PikeVMValue) → FitsPikeVM vm old.pikevm → FitsPikeVM vm new.pikevm)
    (onepass : (o : OnePass) → FitsOnePass o old.onepass → FitsOnePass o new.onepass)
    (backtrack : (c : CoreValue) → FitsBacktracker c old.backtrack → FitsBacktracker c new.backtrack)
    (lazies : (dfas : Dfas) → FitsLazies dfas old.lazies → FitsLazies dfas new.lazies) where
  pub still-fits : (s : Strategy) → Fits s old → Fits s new
  still-fits (Core c) f =
      record {
        pikevm = pikevm (pikevm_of c) f.pikevm;
        onepass = onepass c.onepass f.onepass;
        backtrack = backtrack c f.backtrack;
        lazies = lazies c.dfas f.lazies;
      }

  pub as-before : new.memory ≡ old.memory → states_memory new.lazies ≡ states_memory old.lazies → FitsAsBefore old new
  as-before memory states = record { fits = still-fits; memory = λ i. min (2 ^ 64 - 1) (memory i + states i) }

-- caches without states account nothing
pub no-states : (o : Option Lazies) → IfSome o HoldNoStates → states_memory o ≡ 0
no-states None none = refl
no-states (Some both) none = λ i. none.0.size i + none.1.size i

pub fresh-memory : (o : Option Lazies) (memory n : ℕ) → IfSome o HoldNoStates → memory ≡ min (2 ^ 64 - 1) n
    → min (2 ^ 64 - 1) (memory + states_memory o) ≡ min (2 ^ 64 - 1) n
fresh-memory o memory n none is =
    let gone = no-states o none in
    let same : memory + states_memory o ≡ memory = omega arith in
    let small : memory ≤ 2 ^ 64 - 1 = omega arith in
    ap (min (2 ^ 64 - 1)) same ∙ least memory (2 ^ 64 - 1) small ∙ is
  where
    least : (k most : ℕ) → k ≤ most → min most k ≡ k
    least k most le = omega arith

-- one search after another
pub alike-then : (c : CoreValue) (old middle new : CacheValue) → AccountsAlikeIn c old middle → AccountsAlikeIn c middle new → AccountsAlikeIn c old new
alike-then c old middle new first second = record {
  memory = second.memory ∙ first.memory;
  states = λ off. second.states off ∙ first.states off;
}

-- where there are no lazy DFAs, a search changes nothing of what is accounted
pub alike-memory : (s : Strategy) (old new : CacheValue) → has_lazy s ≡ false → AccountsAlike s old new → memory_of new ≡ memory_of old
alike-memory (Core c) old new off alike = λ i. min (2 ^ 64 - 1) (alike.memory i + states_memory (alike.states off i))

-- and else what is accounted for states alone
pub alike-fixed : (s : Strategy) (old new : CacheValue) → AccountsAlike s old new → new.memory ≡ old.memory
alike-fixed (Core c) old new alike = alike.memory

-- caches that serve what others serve
pub more-lazies : (old new : Lazies) → ((pair : LazyValue × LazyValue) → AreCachesOf pair old → AreCachesOf pair new) → (dfas : Dfas)
    → FitsLazies dfas (Some old) → FitsLazies dfas (Some new)
more-lazies old new more dfas given = by_pair (lazies_of dfas) given
  where
    by_pair : (o : Option (LazyValue × LazyValue)) → IfSome o (λ pair. IsSomeAnd (Some old) (AreCachesOf pair)) → IfSome o (λ pair. IsSomeAnd (Some new) (AreCachesOf pair))
    by_pair None given = tt
    by_pair (Some pair) given = more pair given

-- the first one serves, and the second one stays
pub first-fits : (dfas : Dfas) (f b : LazyValue) (lazies : Option Lazies) (old new : Lazies) → dfas ≡ Lazy f b → lazies ≡ Some old
    → FitsLazies dfas lazies → IsCacheOf f new.forward → new.backward ≡ old.backward → FitsLazies dfas (Some new)
first-fits dfas f b lazies old new is there fits first same =
    let given : FitsLazies (Lazy f b) (Some old) = subst (λ (d : Dfas). FitsLazies d (Some old)) is (subst (λ (o : Option Lazies). FitsLazies dfas o) there fits) in
    subst (λ (d : Dfas). FitsLazies d (Some new)) (sym is) (first, subst (IsCacheOf b) (sym same) given.1)

-- the second one serves, and the first one stays
pub second-fits : (dfas : Dfas) (f b : LazyValue) (lazies : Option Lazies) (old new : Lazies) → dfas ≡ Lazy f b → lazies ≡ Some old
    → FitsLazies dfas lazies → IsCacheOf b new.backward → new.forward ≡ old.forward → FitsLazies dfas (Some new)
second-fits dfas f b lazies old new is there fits second same =
    let given : FitsLazies (Lazy f b) (Some old) = subst (λ (d : Dfas). FitsLazies d (Some old)) is (subst (λ (o : Option Lazies). FitsLazies dfas o) there fits) in
    subst (λ (d : Dfas). FitsLazies d (Some new)) (sym is) (subst (IsCacheOf f) (sym same) given.0, second)
