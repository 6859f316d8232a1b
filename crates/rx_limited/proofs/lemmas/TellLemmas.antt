-- What the search backwards tells, from what its loop came to.
use Rattle.std.proofs.Common.{◌≡◌, ℕ, ◌+◌, ◌-◌, ◌≤◌, ◌<◌, length, ◌∙◌, ap, arith}
use Rattle.std.specs.Prelude.{true, Option, Some, None, IfSome}
use Rattle.std.proofs.lemmas.Option.{none-some}
use Rattle.rx_model.specs.Search.{is_anchored}
use Rattle.rx_search.specs.Input.{InputValue}
use Rattle.rx_search.specs.Matches.{HalfMatchValue}
use Rattle.rx_determinize.specs.Key.{Key, is_dead}
use Rattle.rx_dfa.specs.Automaton.{Dfa, IsSound}
use Rattle.rx_dfa.proofs.lemmas.BackwardLemmas.{reverse-past}
use Rattle.rx_limited.specs.Calls.{calls_backwards}
use Rattle.rx_limited.specs.Limited.{each_in, FindsStart, LiesInRange, LimitedFails, IsBelow, IsWithin, key_down_to}
use Rattle.rx_limited.specs.Back.{IsOver, IsDeadFrom, GoesBack, IsEnded, EndFails}
use Rattle.rx_limited.specs.declared.retry_error.RetryError.{RetryError}
use Rattle.rx_limited.proofs.lemmas.RetryLemmas.{limited-ends}
use Rattle.rx_limited.proofs.lemmas.BackLemmas.{past-calls, over-finds, over-lies, dead-from, down-is, within-dead, within-end, goes-last}

-- what an answer tells
pub record Tells (d : Dfa) (v : InputValue) (min_start old new : ℕ) (found : Option HalfMatchValue) : Type 0 where
  pub answer : FindsStart d v found
  pub lies : LiesInRange d v found
  pub within : IsWithin d v min_start found
  pub near : IfSome found (λ h. v.end ≤ h.offset + (v.end - min_start) + 1)
  pub ticks : new ≡ old + calls_backwards d v
  pub few : new ≤ old + (v.end - min_start) + 2

nears : (floor end more : ℕ) → end ≤ floor + more + 1 → (best : Option HalfMatchValue) → IfSome best (λ h. floor ≤ h.offset)
    → IfSome best (λ h. end ≤ h.offset + more + 1)
nears floor end more le None near = tt
nears floor end more le (Some h) near = omega arith

-- a span that begins behind its end
pub past-tells : (d : Dfa) (v : InputValue) → v.end < v.start → (min_start old new : ℕ) → new ≡ old → Tells d v min_start old new None
past-tells d v past min_start old new same =
    let none = past-calls d v past in
    record {
      answer = λ r runs all. reverse-past d.nfa r (each_in v) past;
      lies = (tt, tt);
      within = record {
        below = λ at b. let inside = b.inside in let read = b.read in omega arith;
        at_start = λ h is. absurd (none-some h is);
      };
      near = tt;
      ticks = omega (arith, none, same);
      few = omega arith;
    }

module _ (d : Dfa) (sound : IsSound d) (v : InputValue) (in_order : v.start ≤ v.end)
    (within : v.end ≤ length v.haystack) (anchored : is_anchored v.anchor ≡ true) (min_start floor old new : ℕ) (low : v.start ≤ floor)
    (first : (place : ℕ) → floor ≤ place → place + 1 < v.end → min_start ≤ place) (few : v.end - floor ≤ v.end - min_start + 1) where
  pub over-tells : (best : Option HalfMatchValue) → new ≤ old + (v.end - floor)
      → IsOver d v best × IsDeadFrom d v floor × (new ≡ old + calls_backwards d v) × IfSome best (λ h. floor ≤ h.offset)
      → Tells d v min_start old new best
  over-tells best taken o = record {
    answer = over-finds d sound v in_order within anchored best o.0;
    lies = over-lies d sound v in_order within best o.0;
    within = within-dead d v min_start floor low (dead-from d v in_order within floor o.1) first best;
    near = nears floor v.end (v.end - min_start) (omega (arith, few)) best o.3;
    ticks = o.2;
    few = omega (arith, taken, few);
  }

  pub end-tells : (Held : ℕ → Key → Type 0) (mid state : ℕ) (best found : Option HalfMatchValue) → floor ≡ v.start → mid ≡ old + (v.end - floor)
      → new ≡ mid + 1 → GoesBack Held d v v.start state best → IsEnded d v found → Tells d v min_start old new found
  end-tells Held mid state best found same taken ticks going ended =
      let all = goes-last d v in_order within Held state best going in
      let lies = over-lies d sound v in_order within found ended.0 in
      record {
        answer = over-finds d sound v in_order within anchored found ended.0;
        lies = lies;
        within = within-end d v min_start floor (omega (arith, same)) first found ended.1;
        near = nears v.start v.end (v.end - min_start) (omega (arith, few, same)) found (starts found lies.0);
        ticks = omega (arith, all, taken, ticks, same);
        few = omega (arith, taken, ticks, few);
      }
    where
      starts : (o : Option HalfMatchValue) → IfSome o (λ h. (v.start ≤ h.offset) × (h.offset ≤ v.end)) → IfSome o (λ h. v.start ≤ h.offset)
      starts None h = tt
      starts (Some x) h = h.0

  -- the search at the span's start is not over, so its refusals have their causes
  pub end-refuses : (Held : ℕ → Key → Type 0) (state : ℕ) (best : Option HalfMatchValue) (gives_up wants : Type 0) → GoesBack Held d v v.start state best
      → (e : RetryError) → EndFails d v gives_up wants e → LimitedFails d v min_start gives_up wants e
  end-refuses Held state best gives_up wants going e h =
      limited-ends d v min_start gives_up wants (ap is_dead (down-is d v v.start in_order within) ∙ going.going.going.alive)
      (λ told o. (over-finds d sound v in_order within anchored told o, over-lies d sound v in_order within told o)) e h

  -- before a byte under the place at which it is to stop
  pub is-below : (Held : ℕ → Key → Type 0) (state : ℕ) (best : Option HalfMatchValue) → v.start < floor → floor + 1 ≤ v.end → floor ≤ min_start
      → GoesBack Held d v floor state best → IsBelow d v (floor - 1) min_start
  is-below Held state best lt read under going =
      let place : floor - 1 + 1 ≡ floor = omega arith in
      record {
        inside = omega arith;
        read = omega arith;
        under = omega arith;
        alive = ap (λ i. is_dead (key_down_to d v i)) place ∙ ap is_dead (down-is d v floor (omega arith) within) ∙ going.going.going.alive;
      }
