-- The DFAs of a core as the pair that they are, and the caches of lazy ones.
use Rattle.std.proofs.Common.{◌≡◌, ℕ, ◌<◌, ◌≤◌, List, length, sym, ap, ◌∙◌, subst, true≢false}
use Rattle.std.specs.Prelude.{Bool, true, false, Option, Some, None, IfSome, IsSomeAnd, Result, Ok, Err, IfOk, OnOk}
use Rattle.rx_model.specs.Search.{Match, Patterns}
use Rattle.rx_search.specs.Input.{InputValue}
use Rattle.rx_search.specs.Promise.{Premises}
use Rattle.rx_search.specs.Sets.{GainsMatching, IsFilledFor}
use Rattle.rx_search.specs.declared.anchored.MatchKind.{MatchKind}
use Rattle.rx_search.specs.declared.anchored.MatchKind.TheVariants.{LeftmostFirst}
use Rattle.rx_nfa.specs.Nfa.{IsNfaOf}
use Rattle.rx_dfa.specs.Automaton.{Dfa}
use Rattle.rx_dfa.specs.Lazy.{LazyValue}
use Rattle.rx_dfa.specs.Search.{IsAnswerFor, AreAllOrdered}
use Rattle.rx_strategy.specs.Dfas.{pair_of, are_lazy, ArePair, ArePaired, AreCachesOf, AreLeftmost, HaveRoomIn, IsSearchFor, SearchFor, IsPatternOf, FitsLazies}
use Rattle.rx_strategy.specs.declared.dfas.Dfas.{Dfas}
use Rattle.rx_strategy.specs.declared.dfas.Dfas.TheVariants.{Lazy}
use Rattle.rx_strategy.specs.declared.lazies.Lazies.{Lazies}

-- These are the DFAs.
module _ (dfas : Dfas) (both : Dfa × Dfa) (is : pair_of dfas ≡ Some both) where
  pub paired-as : ArePaired dfas → ArePair both
  paired-as paired = subst (λ (o : Option (Dfa × Dfa)). IfSome o ArePair) is paired

  pub reads-on : ArePaired dfas → both.0.nfa.reverse ≡ false
  reads-on paired = (paired-as paired).reads_on

  pub reads-back : ArePaired dfas → both.1.nfa.reverse ≡ true
  reads-back paired = (paired-as paired).reads_back

  pub leftmost-if : (needles : Option (List (List ℕ))) → IfSome needles (λ _. AreLeftmost dfas) → IfSome needles (λ _. both.0.kind ≡ LeftmostFirst)
  leftmost-if None given = tt
  leftmost-if (Some needles) given = subst (λ (o : Option (Dfa × Dfa)). IfSome o (λ b. b.0.kind ≡ LeftmostFirst)) is given

  pub room-in : (size : ℕ) → HaveRoomIn size dfas → length both.0.nfa.starts ≤ size
  room-in size given = subst (λ (o : Option (Dfa × Dfa)). IfSome o (λ b. length b.0.nfa.starts ≤ size)) is given

  pub search-as : (needles : Option (List (List ℕ))) (kind : MatchKind) (r : Patterns) (v : InputValue) → SearchFor dfas needles kind r v
      → IsSearchFor needles kind r v both
  search-as needles kind r v given = subst (λ (o : Option (Dfa × Dfa)). IfSome o (IsSearchFor needles kind r v)) is given

  -- a pattern of the one that reads forwards is one of theirs
  module _ {T E : Type 0} (pattern : T → ℕ) where
    pub are-patterns : (result : Result (Option T) E) → IfOk result (λ found. IfSome found (λ x. pattern x < length both.0.nfa.starts))
        → IfOk result (λ found. IfSome found (λ x. IsPatternOf dfas (pattern x)))
    are-patterns (Err e) small = tt
    are-patterns (Ok None) small = tt
    are-patterns (Ok (Some x)) small = subst (λ (o : Option (Dfa × Dfa)). IsSomeAnd o (λ b. pattern x < length b.0.nfa.starts)) (sym is) small

  -- what the one that reads forwards answers
  module _ {T E : Type 0} (kind : MatchKind) (r : Patterns) (v : InputValue) (part : Match → T) (result : Result (Option T) E) where
    pub answer-on : (needles : Option (List (List ℕ))) → SearchFor dfas needles kind r v
        → (Premises (IsNfaOf both.0.nfa r) needles r v → AreAllOrdered r → IfOk result (IsAnswerFor both.0.kind r v part))
        → IfOk result (IsAnswerFor kind r v part)
    answer-on needles given answer =
        let own = search-as needles kind r v given in
        subst (λ (k : MatchKind). IfOk result (IsAnswerFor k r v part)) own.own_kind (answer own.premises own.starts.ordered)

  -- what it adds to a set
  module _ (kind : MatchKind) (r : Patterns) (v : InputValue) (old new : List Bool) where
    pub gains-on : SearchFor dfas None kind r v → (Premises (IsNfaOf both.0.nfa r) None r v → GainsMatching r v old new) → GainsMatching r v old new
    gains-on given gains = gains (search-as None kind r v given).premises

    pub filled-on : {E : Type 0} (result : Result Unit E) → SearchFor dfas None kind r v
        → (Premises (IsNfaOf both.0.nfa r) None r v → OnOk result (IsFilledFor r v old new both.0.kind)) → OnOk result (IsFilledFor r v old new kind)
    filled-on result given filled =
        let own = search-as None kind r v given in
        subst (λ (k : MatchKind). OnOk result (IsFilledFor r v old new k)) own.own_kind (filled own.premises)

-- Lazy ones have caches.
module _ (dfas : Dfas) (f b : LazyValue) (lazies : Option Lazies) (own : Lazies) (is : dfas ≡ Lazy f b) (there : lazies ≡ Some own) where
  pub caches-of : FitsLazies dfas lazies → AreCachesOf (f, b) own
  caches-of fits = subst (λ (p : Dfas × Option Lazies). FitsLazies p.0 p.1) (λ i. (is i, there i)) fits

  -- and then nothing is said of what stays where there are none
  pub not-lazy : {P : Type 0} → are_lazy dfas ≡ false → P
  not-lazy off = absurd (true≢false (sym (ap are_lazy is) ∙ off))

-- such caches serve
pub serve-lazy : (dfas : Dfas) (f b : LazyValue) (own : Lazies) → dfas ≡ Lazy f b → AreCachesOf (f, b) own → FitsLazies dfas (Some own)
serve-lazy dfas f b own is fits = subst (λ (d : Dfas). FitsLazies d (Some own)) (sym is) fits
