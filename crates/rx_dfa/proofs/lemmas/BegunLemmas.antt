-- What a start of a lazy DFA answers.
use Rattle.std.proofs.Common.{◌≡◌, ℕ, List, refl, sym, ap, subst}
use Rattle.std.specs.Prelude.{Bool, true, Option, Some, None, Result, IfOk}
use Rattle.std.specs.Result.{IfErr}
use Rattle.std.proofs.lemmas.Result.{IfErr-weaker}
use Rattle.rx_search.specs.declared.match_error.MatchError.{MatchError}
use Rattle.rx_search.specs.declared.match_error.MatchError.TheVariants.{Quit, GaveUp, HaystackTooLong, UnsupportedAnchored, Memory}
use Rattle.rx_model.specs.Search.{Anchor}
use Rattle.rx_nfa.specs.Nfa.{Nfa}
use Rattle.rx_nfa.specs.NextMatch.{start_of}
use Rattle.rx_determinize.specs.Key.{Key, is_dead}
use Rattle.rx_determinize.specs.Sight.{class_beside}
use Rattle.rx_determinize.specs.Span.{loops_in}
use Rattle.rx_dfa.specs.Automaton.{Dfa, StartFails, key_from, first_key}
use Rattle.rx_dfa.specs.Lazy.{LazyValue, StandsFor, begun_key}
use Rattle.rx_dfa.specs.LazyCache.{IsCacheOf}
use Rattle.rx_dfa.specs.declared.lazy.lazy_cache.LazyCache.{LazyCache}
use Rattle.rx_dfa.proofs.lemmas.RowsLemmas.{rows-same}

-- Where the mode, the byte beside the start and its place have other names too.

pub begun-state : (l : LazyValue) (r : Result ℕ MatchError) (keys : List Key) (mode told : Anchor) (beside byte : Option ℕ) → mode ≡ told
    → beside ≡ byte → IfOk r (λ state. StandsFor l.stride keys state (first_key l.dfa mode beside))
    → IfOk r (λ state. StandsFor l.stride keys state (first_key l.dfa told byte))
begun-state l r keys mode told beside byte same is h =
    subst (λ (k : Key). IfOk r (λ state. StandsFor l.stride keys state k)) (λ j. first_key l.dfa (same j) (is j)) h

-- Where it never gives up, it doesn't do so at another place either.
fails-at : (nfa : Nfa) (byte : Option ℕ) (beside place : ℕ) (gives_up : Type 0) (e : MatchError) → StartFails nfa byte beside beside ⊥ (Unit {0}) e
    → StartFails nfa byte beside place gives_up (Unit {0}) e
fails-at nfa byte beside place gives_up (Quit quit offset) h = h
fails-at nfa byte beside place gives_up (GaveUp offset) h = absurd (h.1)
fails-at nfa byte beside place gives_up (HaystackTooLong len) h = h
fails-at nfa byte beside place gives_up (UnsupportedAnchored mode) h = h
fails-at nfa byte beside place gives_up Memory h = h

pub begun-error : (nfa : Nfa) (r : Result ℕ MatchError) (byte told : Option ℕ) (at beside place : ℕ) (gives_up : Type 0) → byte ≡ told → at ≡ beside
    → IfErr r (StartFails nfa byte at at ⊥ (Unit {0})) → IfErr r (StartFails nfa told beside place gives_up (Unit {0}))
begun-error nfa r byte told at beside place gives_up is there h =
    IfErr-weaker r (StartFails nfa byte at at ⊥ (Unit {0})) (StartFails nfa told beside place gives_up (Unit {0}))
    (λ e f.
    fails-at nfa told beside place gives_up e
    (subst (λ n. StartFails nfa told n n ⊥ (Unit {0}) e) there (subst (λ (b : Option ℕ). StartFails nfa b at at ⊥ (Unit {0}) e) is f))) h

-- The key of a mode's start.

-- that of the state at which the mode's runs start
pub first-begun : (d : Dfa) (which : Anchor) (beside : Option ℕ) (start : ℕ) (loops : Bool) (before : Option ℕ) → Some start ≡ start_of d.nfa which
    → loops ≡ loops_in which → before ≡ class_beside d.keeps d.classes d.bytes beside → begun_key d start loops before ≡ first_key d which beside
first-begun d which beside start loops before begins mode kept = λ j. key_from d.kind d.nfa.states (mode j) (kept j) (begins j)

-- a dead one, where there is no such state
pub first-dead : (d : Dfa) (which : Anchor) (beside : Option ℕ) → None ≡ start_of d.nfa which → is_dead (first_key d which beside) ≡ true
first-dead d which beside none =
    let before = class_beside d.keeps d.classes d.bytes beside in
    sym (ap (λ (start : Option ℕ). is_dead (key_from d.kind d.nfa.states (loops_in which) before start)) none)

-- A cache that counts no steps of a search serves as it did.
pub fits-uncounted : (l : LazyValue) (c : LazyCache) → IsCacheOf l c → IsCacheOf l (record c { rows = record c.rows { since = None } })
fits-uncounted l c h = record { rows = rows-same l c.rows _ h.rows refl refl refl refl; room = h.room }
