-- A cache of a core of which a search wrote to one part.
use Rattle.std.proofs.Common.{◌≡◌, ℕ, List, sym, ap, ◌∙◌, subst}
use Rattle.std.specs.Prelude.{false, Option, Some, None, IfSome, IsSomeAnd}
use Rattle.rx_search.specs.declared.anchored.MatchKind.{MatchKind}
use Rattle.rx_search.specs.declared.anchored.MatchKind.TheVariants.{LeftmostFirst}
use Rattle.rx_nfa.specs.Nfa.{Nfa}
use Rattle.rx_engines.specs.Bounded.{Room as BoundedRoom}
use Rattle.rx_engines.specs.Engine.{PikeVMValue, Fits as FitsPikeVM}
use Rattle.rx_engines.specs.Room.{Room as PikeRoom}
use Rattle.rx_strategy.specs.Cache.{CacheValue, FitsCore, FitsBacktracker, AccountsAlikeIn}
use Rattle.rx_strategy.specs.Core.{CoreValue, pikevm_of}
use Rattle.rx_onepass.specs.Dfa.{Dfa as OneDfa, Fits as FitsOne}
use Rattle.rx_strategy.specs.Dfas.{are_lazy, AreLeftmost, FitsLazies, ServeNfa}
use Rattle.rx_strategy.specs.OnePass.{FitsOnePass}
use Rattle.rx_strategy.specs.declared.dfas.Dfas.{Dfas}
use Rattle.rx_strategy.specs.declared.lazies.Lazies.{Lazies}
use Rattle.rx_strategy.specs.declared.onepass.OnePass.{OnePass}
use Rattle.rx_strategy.proofs.DfaLemmas.{core-leftmost}

-- What was there is what the contract sees.
module _ (core : CoreValue) (was old : CacheValue) (is : was ≡ old) where
  pub fit-before : FitsCore core old → FitsCore core was
  fit-before fits = subst (FitsCore core) (sym is) fits

  -- the caches of lazy DFAs
  module _ (dfas : Dfas) (same : dfas ≡ core.dfas) where
    pub own-lazies : FitsCore core old → FitsLazies dfas was.lazies
    own-lazies fits = subst (λ (d : Dfas). FitsLazies d was.lazies) (sym same) (fit-before fits).lazies

    pub lazies-fit : (lazies : Option Lazies) → FitsCore core old → FitsLazies dfas lazies → FitsCore core (record was { lazies = lazies })
    lazies-fit lazies fits now =
        let before = fit-before fits in
        record {
          pikevm = before.pikevm;
          onepass = before.onepass;
          backtrack = before.backtrack;
          lazies = subst (λ (d : Dfas). FitsLazies d lazies) same now;
        }

    pub lazies-alike : (lazies : Option Lazies) → (are_lazy dfas ≡ false → lazies ≡ was.lazies) → AccountsAlikeIn core old (record was { lazies = lazies })
    lazies-alike lazies stays = record {
      memory = ap (λ (v : CacheValue). v.memory) is;
      states = λ off. stays (ap are_lazy same ∙ off) ∙ ap (λ (v : CacheValue). v.lazies) is;
    }

  -- the cache of the one-pass DFA
  pub onepass-fit : (onepass : Option ℕ) → FitsCore core old → FitsOnePass core.onepass onepass → FitsCore core (record was { onepass = onepass })
  onepass-fit onepass fits now =
      let before = fit-before fits in
      record { pikevm = before.pikevm; onepass = now; backtrack = before.backtrack; lazies = before.lazies }

  pub onepass-alike : (onepass : Option ℕ) → AccountsAlikeIn core old (record was { onepass = onepass })
  onepass-alike onepass = record { memory = ap (λ (v : CacheValue). v.memory) is; states = λ off. ap (λ (v : CacheValue). v.lazies) is }

  -- that of the PikeVM
  pub pikevm-fit : (room : PikeRoom) → FitsCore core old → FitsPikeVM (pikevm_of core) room → FitsCore core (record was { pikevm = room })
  pikevm-fit room fits now =
      let before = fit-before fits in
      record { pikevm = now; onepass = before.onepass; backtrack = before.backtrack; lazies = before.lazies }

  -- .. which serves the core's engine
  module _ (vm : PikeVMValue) (own : vm ≡ pikevm_of core) where
    pub own-pikevm : FitsCore core old → FitsPikeVM vm was.pikevm
    own-pikevm fits = subst (λ (e : PikeVMValue). FitsPikeVM e was.pikevm) (sym own) (fit-before fits).pikevm

    pub pikevm-again : (room : PikeRoom) → FitsCore core old → FitsPikeVM vm room → FitsCore core (record was { pikevm = room })
    pikevm-again room fits now = pikevm-fit room fits (subst (λ (e : PikeVMValue). FitsPikeVM e room) own now)

  pub pikevm-alike : (room : PikeRoom) → AccountsAlikeIn core old (record was { pikevm = room })
  pikevm-alike room = record { memory = ap (λ (v : CacheValue). v.memory) is; states = λ off. ap (λ (v : CacheValue). v.lazies) is }

  -- that of the backtracker
  pub backtrack-fit : (room : Option BoundedRoom) → FitsCore core old → FitsBacktracker core room → FitsCore core (record was { backtrack = room })
  backtrack-fit room fits now =
      let before = fit-before fits in
      record { pikevm = before.pikevm; onepass = before.onepass; backtrack = now; lazies = before.lazies }

  pub backtrack-alike : (room : Option BoundedRoom) → AccountsAlikeIn core old (record was { backtrack = room })
  backtrack-alike room = record { memory = ap (λ (v : CacheValue). v.memory) is; states = λ off. ap (λ (v : CacheValue). v.lazies) is }

-- the DFAs of a leftmost-first core are leftmost-first, where needles are looked for
pub leftmost-dfas : (nfa : Nfa) (kind : MatchKind) (reverse : Option Nfa) (dfas : Dfas) → ServeNfa nfa kind reverse dfas → (needles : Option (List (List ℕ)))
    → IfSome needles (λ _. kind ≡ LeftmostFirst) → IfSome needles (λ _. AreLeftmost dfas)
leftmost-dfas nfa kind reverse dfas serve None given = tt
leftmost-dfas nfa kind reverse dfas serve (Some needles) given = core-leftmost nfa kind reverse dfas serve given

-- the PikeVM of a core
pub pikevm-is : (core : CoreValue) (vm : PikeVMValue) → vm.nfa ≡ core.nfa → vm.kind ≡ core.kind → vm.pre ≡ core.pre → vm ≡ pikevm_of core
pikevm-is core vm nfa kind pre = λ i. record { nfa = nfa i; kind = kind i; pre = pre i }

-- a one-pass DFA that is there has a cache
pub one-serves : (o : OnePass) (d : OneDfa) (room : Option ℕ) → o.dfa ≡ Some d → FitsOnePass o room → IsSomeAnd room (FitsOne d.nfa)
one-serves o d room is fits = subst (λ (x : Option OneDfa). IfSome x (λ (e : OneDfa). IsSomeAnd room (FitsOne e.nfa))) is fits

pub one-again : (o : OnePass) (d : OneDfa) (room : Option ℕ) → o.dfa ≡ Some d → IsSomeAnd room (FitsOne d.nfa) → FitsOnePass o room
one-again o d room is fits = subst (λ (x : Option OneDfa). IfSome x (λ (e : OneDfa). IsSomeAnd room (FitsOne e.nfa))) (sym is) fits
