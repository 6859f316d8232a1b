-- What the rooms of a cache are: that they serve a core, and are made, reset, cloned and lent to a search.
use Rattle.std.proofs.Common.{◌≡◌, ℕ, ◌+◌, ◌-◌, ◌^◌, refl, sym, ap, ◌∙◌, subst, false, arith}
use Rattle.std.specs.Prelude.{Option, Some, None, IsSomeAnd, min, if◌then◌else◌}
use Rattle.rx_dfa.specs.declared.lazy.lazy_cache.LazyCache.{LazyCache}
use Rattle.rx_pre.specs.Pre.{PreValue}
use Rattle.rx_strategy.specs.Cache as core
use Rattle.rx_strategy.specs.Prefix.{PrefixValue, FitsPrefix, prefix_states, are_states}
use Rattle.rx_strategy.specs.declared.strategy.Strategy.{Strategy as CoreStrategy}
use Rattle.rx_strategies.specs.Attempting.{is_by_inner}
use Rattle.rx_strategies.specs.Attempts.{SuffixValue, InnerValue}
use Rattle.rx_strategies.specs.Cache.{CacheValue, Fits, FitsCore, FitsInner, FitsAsBefore, StillFits, accounted_for}
use Rattle.rx_strategies.specs.Cache.{rooms_memory, rooms_fixed, fixed_in, ServesMore, ServesAsBefore, AreAlike, AccountsAlike, AccountsAlikeIn}
use Rattle.rx_strategies.specs.declared.strategy.Strategy.{Strategy}
use Rattle.rx_strategies.specs.declared.strategy.Strategy.TheVariants.{Pre, Core, ReverseAnchored, ReverseSuffix, ReverseInner}

-- the cache of a core that is there, and what it has become
module _ (rooms : Option core.CacheValue) (old new : core.CacheValue) (is : rooms ≡ Some old) where
  pub there-fits : (c : CoreStrategy) → IsSomeAnd rooms (core.Fits c) → core.Fits c old
  there-fits c fits = subst (λ (o : Option core.CacheValue). IsSomeAnd o (core.Fits c)) is fits

  pub there-serves : core.StillFits old new → ServesMore rooms (Some new)
  there-serves still c fits = still c (there-fits c fits)

  pub there-before : core.FitsAsBefore old new → ServesAsBefore rooms (Some new)
  there-before before = record {
    fits = there-serves before.fits;
    memory = before.memory ∙ ap rooms_memory (sym is);
  }

  pub there-alike : (c : CoreStrategy) → core.AccountsAlike c old new → AreAlike c rooms (Some new)
  there-alike c alike = subst (λ (o : Option core.CacheValue). AreAlike c o (Some new)) (sym is) alike

-- .. and where there is none, whatever is asked
pub none-there : {A : Type 0} (rooms : Option core.CacheValue) → rooms ≡ None → (c : CoreStrategy) → IsSomeAnd rooms (core.Fits c) → A
none-there rooms is c fits = absurd (subst (λ (o : Option core.CacheValue). IsSomeAnd o (core.Fits c)) is fits)

-- rooms that stay as they are
pub same-rooms : (rooms : Option core.CacheValue) → ServesAsBefore rooms rooms
same-rooms rooms = record { fits = λ c f. f; memory = refl }

-- .. and a cache that does
pub same-cache : (cache : CacheValue) → FitsAsBefore cache cache
same-cache cache = record { fits = λ s f. f; memory = refl }

-- The strategy asks of a cache what this core asks, and reads no prefix.
pub record ByCore (s : Strategy) (c : CoreStrategy) : Type 0 where
  pub serves : (cache : CacheValue) → FitsCore c cache → Fits s cache
  pub served : (cache : CacheValue) → Fits s cache → FitsCore c cache
  pub accounted : core.accounted_for c ≡ accounted_for s
  pub alike : (old new : CacheValue) → AccountsAlikeIn c old new → AccountsAlike s old new
  pub inner : is_by_inner s ≡ false

pub by-core : (s : Strategy) (c : CoreStrategy) → s ≡ Core c → ByCore s c
by-core s c is =
    subst (λ (t : Strategy). ByCore t c) (sym is)
    (record { serves = λ cache f. f; served = λ cache f. f; accounted = refl; alike = λ old new a. a; inner = refl })

pub by-anchored : (s : Strategy) (a c : CoreStrategy) → s ≡ ReverseAnchored a → c ≡ a → ByCore s c
by-anchored s a c is same =
    subst (λ (p : Strategy × CoreStrategy). ByCore p.0 p.1) (λ i. (sym is i, sym same i))
    (record { serves = λ cache f. f; served = λ cache f. f; accounted = refl; alike = λ old new a. a; inner = refl })

pub by-suffix : (s : Strategy) (k : SuffixValue) (c : CoreStrategy) → s ≡ ReverseSuffix k → c ≡ k.core → ByCore s c
by-suffix s k c is same =
    subst (λ (p : Strategy × CoreStrategy). ByCore p.0 p.1) (λ i. (sym is i, sym same i))
    (record { serves = λ cache f. f; served = λ cache f. f; accounted = refl; alike = λ old new a. a; inner = refl })

-- a cache whose parts serve whatever the first one's do
pub still-fits : (old new : CacheValue) → ServesMore old.rooms new.rooms
    → ((p : PrefixValue) → FitsPrefix p old.prefix → FitsPrefix p new.prefix) → StillFits old new
still-fits old new more reads (Pre p) fits = tt
still-fits old new more reads (Core c) fits = more c fits
still-fits old new more reads (ReverseAnchored c) fits = more c fits
still-fits old new more reads (ReverseSuffix s) fits = more s.core fits
still-fits old new more reads (ReverseInner i) fits = record { core = more i.core fits.core; prefix = reads i.prefix fits.prefix }

-- .. and nothing else is changed
pub as-before : (old : CacheValue) (new : Option core.CacheValue) → ServesAsBefore old.rooms new → FitsAsBefore old (record old { rooms = new })
as-before old new before = record {
  fits = still-fits old (record old { rooms = new }) before.fits (λ p f. f);
  memory = λ i. if old.in_use then min (2 ^ 64 - 1) (before.memory i + (if old.reads_prefix then prefix_states old.prefix else 0)) else 0;
}

-- what a search is lent, and what it leaves: the cache is seen by its parts
module _ (was cache : CacheValue) (same : was ≡ cache) where
  pub lent-core : (c : CoreStrategy) → FitsCore c cache → IsSomeAnd was.rooms (core.Fits c)
  lent-core c fits = subst (λ (o : CacheValue). FitsCore c o) (sym same) fits

  pub lent-prefix : (i : InnerValue) → FitsInner i cache → FitsPrefix i.prefix was.prefix
  lent-prefix i fits = subst (λ (o : CacheValue). FitsPrefix i.prefix o.prefix) (sym same) fits.prefix

  pub left-still : (new : CacheValue) → ServesMore was.rooms new.rooms
      → ((p : PrefixValue) → FitsPrefix p was.prefix → FitsPrefix p new.prefix) → StillFits cache new
  left-still new more reads = subst (λ (o : CacheValue). StillFits o new) same (still-fits was new more reads)

  pub left-before : (new : Option core.CacheValue) → ServesAsBefore was.rooms new → FitsAsBefore cache (record was { rooms = new })
  left-before new before = subst (λ (o : CacheValue). FitsAsBefore o (record was { rooms = new })) same (as-before was new before)

  pub left-fixed : (new : Option core.CacheValue) → rooms_fixed new ≡ rooms_fixed was.rooms → (prefix : Option LazyCache)
      → fixed_in (record was { rooms = new; prefix = prefix }) ≡ fixed_in cache
  left-fixed new fixed prefix = (λ i. if was.in_use then fixed i else 0) ∙ ap fixed_in same

  -- .. of a strategy that asks what a core asks
  pub lent-fits : (s : Strategy) (c : CoreStrategy) → ByCore s c → Fits s cache → IsSomeAnd was.rooms (core.Fits c)
  lent-fits s c by fits = by.served was (subst (λ (o : CacheValue). Fits s o) (sym same) fits)

  pub left-alike : (s : Strategy) (c : CoreStrategy) → ByCore s c → (new : Option core.CacheValue) → AreAlike c was.rooms new
      → AccountsAlike s cache (record was { rooms = new })
  left-alike s c by new alike =
      subst (λ (o : CacheValue). AccountsAlike s o (record was { rooms = new })) same
      (by.alike was (record was { rooms = new }) (record { in_use = refl; rooms = alike; reads_prefix = refl; prefix = refl }))

  -- .. of one that reads a prefix
  module _ (s : Strategy) (i : InnerValue) (is : s ≡ ReverseInner i) where
    fits-inner : Fits s cache → FitsInner i cache
    fits-inner fits = subst (λ (t : Strategy). Fits t cache) is fits

    pub lent-inner : Fits s cache → IsSomeAnd was.rooms (core.Fits i.core)
    lent-inner fits = lent-core i.core (fits-inner fits).core

    pub lent-states : Fits s cache → FitsPrefix i.prefix was.prefix
    lent-states fits = lent-prefix i (fits-inner fits)

    pub left-inner : (new : Option core.CacheValue) (states : Option LazyCache) → AreAlike i.core was.rooms new
        → (are_states i.prefix ≡ false → states ≡ was.prefix) → AccountsAlike s cache (record was { rooms = new; prefix = states })
    left-inner new states alike kept =
        subst (λ (p : Strategy × CacheValue). AccountsAlike p.0 p.1 (record was { rooms = new; prefix = states })) (λ j. (sym is j, same j))
        (record { in_use = refl; rooms = alike; reads_prefix = refl; prefix = kept })

-- a cache that serves a strategy which reads a prefix
pub serves-inner : (s : Strategy) (i : InnerValue) → s ≡ ReverseInner i → (cache : CacheValue) → IsSomeAnd cache.rooms (core.Fits i.core)
    → FitsPrefix i.prefix cache.prefix → Fits s cache
serves-inner s i is cache rooms states = subst (λ (t : Strategy). Fits t cache) (sym is) (record { core = rooms; prefix = states })

pub serves-whole : (s : Strategy) (i : InnerValue) → s ≡ ReverseInner i → (cache : CacheValue) → FitsInner i cache → Fits s cache
serves-whole s i is cache fits = subst (λ (t : Strategy). Fits t cache) (sym is) fits

-- .. and one that looks for literals alone
pub serves-pre : (s : Strategy) (p : PreValue) → s ≡ Pre p → (cache : CacheValue) → Fits s cache
serves-pre s p is cache = subst (λ (t : Strategy). Fits t cache) (sym is) tt

pub no-more : (n : ℕ) → n ≡ 0 → n + 0 ≡ 0
no-more n none = omega arith

-- what is accounted for a cache whose states are gone
pub fresh-memory : (rooms : Option core.CacheValue) (n m : ℕ) → rooms_memory rooms ≡ n → m ≡ 0 → min (2 ^ 64 - 1) (rooms_memory rooms + m) ≡ n
fresh-memory None n m is none = omega arith
fresh-memory (Some r) n m is none = omega arith
