-- The backtracker of a core, and its cache.
use Rattle.std.proofs.Common.{◌≡◌, ◌≤◌, sym, ◌∙◌, subst, true≢false}
use Rattle.std.proofs.lemmas.Bool.{and_parts, leb-true}
use Rattle.std.specs.Prelude.{true, nat_le, Option, Some, None, IsSomeAnd}
use Rattle.rx_search.specs.Input.{InputValue, span_len}
use Rattle.rx_engines.specs.Bounded.{BacktrackerValue, Room, Fits, max_len}
use Rattle.rx_strategy.specs.Cache.{FitsBacktracker}
use Rattle.rx_strategy.specs.Core.{CoreValue, backtracker_of, backtracker_serves}

-- where it serves, it is there, and the span is not too long for it
module _ (c : CoreValue) (v : InputValue) (engine : BacktrackerValue) (serves : backtracker_serves c v ≡ true) (is : engine ≡ backtracker_of c) where
  pub short-enough : span_len v ≤ max_len engine.nfa
  short-enough =
      subst (λ (e : BacktrackerValue). span_len v ≤ max_len e.nfa) (sym is)
      (leb-true (span_len v) (max_len c.nfa) (and_parts c.backtracks (nat_le (span_len v) (max_len c.nfa)) serves).1)

  pub has-room : (room : Option Room) → FitsBacktracker c room → IsSomeAnd room (Fits engine.nfa)
  has-room None fits = absurd (true≢false (sym (and_parts c.backtracks (nat_le (span_len v) (max_len c.nfa)) serves).0 ∙ fits))
  has-room (Some room) fits =
      subst (λ (e : BacktrackerValue). Fits e.nfa room) (sym is) (fits (and_parts c.backtracks (nat_le (span_len v) (max_len c.nfa)) serves).0)

-- a cache for it serves the core
pub room-again : (c : CoreValue) (engine : BacktrackerValue) → engine ≡ backtracker_of c → (room : Option Room) → IsSomeAnd room (Fits engine.nfa)
    → FitsBacktracker c room
room-again c engine is None fits = absurd fits
room-again c engine is (Some room) fits = λ _. subst (λ (e : BacktrackerValue). Fits e.nfa room) is fits
