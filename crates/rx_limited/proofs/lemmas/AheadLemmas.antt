-- The loop of the search forwards, which keeps the last end that it met, the calls that are left and where it will stop.
use Rattle.std.proofs.Common.{◌≡◌, ℕ, suc, ◌+◌, ◌-◌, ◌≤◌, ◌<◌, length, refl, sym, ◌∙◌, ap, subst, arith, true≢false}
use Rattle.std.specs.Prelude.{Bool, true, false, ◌&&◌, is_some, Option, Some, None, slice_index, if◌then◌else◌, nat_le}
use Rattle.std.proofs.lemmas.Bool.Decides.{nat_tests}
use Rattle.rx_model.specs.Look.{byte_before, byte_after}
use Rattle.rx_model.specs.Search.{is_permitted}
use Rattle.rx_search.specs.Input.{InputValue}
use Rattle.rx_search.specs.Matches.{HalfMatchValue}
use Rattle.rx_nfa.specs.Automaton.{Surroundings, forwards}
use Rattle.rx_determinize.specs.Key.{Key, is_dead}
use Rattle.rx_determinize.specs.Sight.{AreBytes}
use Rattle.rx_determinize.specs.Permitted.{fresh}
use Rattle.rx_dfa.specs.Automaton.{Dfa, IsSound, first_key, next_key, IsReadable}
use Rattle.rx_dfa.specs.Course.{end_of}
use Rattle.rx_dfa.proofs.lemmas.CourseLemmas.{nothing_held, next-key, first-key}
use Rattle.rx_dfa.proofs.lemmas.ForwardLemmas.{key_ahead, GoingAhead, ahead-start, ahead-next, ahead-dead, ahead-early, ahead-end, ahead-none}
use Rattle.rx_limited.specs.Calls.{calls, calls_forwards}
use Rattle.rx_limited.specs.Parts.{best_within}
use Rattle.rx_limited.specs.Stopat.{left_dead, stop_forwards, IsStop}
use Rattle.rx_limited.proofs.lemmas.CallLemmas.{calls-step, calls-last, calls-dead, calls-some, left-on, left-here, left-end, left-first}
use Rattle.rx_limited.proofs.lemmas.MetLemmas.{beside, met-is}

-- A search that is not over stands behind the byte before the place, in this state, and met this last match.
pub record GoesAhead (Held : ℕ → Key → Type 0) (d : Dfa) (v : InputValue) (at state : ℕ) (best : Option HalfMatchValue) : Type 0 where
  pub refused : Option ℕ
  pub going : GoingAhead nothing_held (tt {0}) (tt {0}) 0 d v at (record { best = best; refused = refused })
  pub held : Held state (key_ahead d v at)
  pub calls : calls_forwards d v ≡ (at - v.start) + calls d (forwards d.nfa.terminator v.haystack) (v.end - at) at (key_ahead d v at)
  pub stop : stop_forwards d v ≡ left_dead d (forwards d.nfa.terminator v.haystack) (v.end - at) at (key_ahead d v at)

-- of a span that is in order
counted : (d : Dfa) (v : InputValue) → v.start ≤ v.end → calls_forwards d v
    ≡ calls d (forwards d.nfa.terminator v.haystack) (v.end - v.start) v.start (first_key d v.anchor (byte_before v.haystack v.start))
counted d v le =
    let yes : nat_le v.start v.end ≡ true = grind (arith, nat_tests) in
    ap
    (λ b. if b then calls d (forwards d.nfa.terminator v.haystack) (v.end - v.start) v.start (first_key d v.anchor (byte_before v.haystack v.start)) else 0)
    yes

stops : (d : Dfa) (v : InputValue) → v.start ≤ v.end → stop_forwards d v
    ≡ left_dead d (forwards d.nfa.terminator v.haystack) (v.end - v.start) v.start (first_key d v.anchor (byte_before v.haystack v.start))
stops d v le =
    let yes : nat_le v.start v.end ≡ true = grind (arith, nat_tests) in
    ap
    (λ b. if b then left_dead d (forwards d.nfa.terminator v.haystack) (v.end - v.start) v.start (first_key d v.anchor (byte_before v.haystack v.start))
    else v.end) yes

-- a span that begins behind its end
pub past-stop : (d : Dfa) (v : InputValue) → v.end < v.start → (v.end ≡ stop_forwards d v) × (0 ≡ calls_forwards d v)
past-stop d v lt =
    let no : nat_le v.start v.end ≡ false = grind (arith, nat_tests) in (
      ap
          (λ b. if b then left_dead d (forwards d.nfa.terminator v.haystack) (v.end - v.start) v.start (first_key d v.anchor (byte_before v.haystack v.start))
          else v.end) (sym no),
      ap
          (λ b. if b then calls d (forwards d.nfa.terminator v.haystack) (v.end - v.start) v.start (first_key d v.anchor (byte_before v.haystack v.start)) else 0)
          (sym no),
    )

module _ (d : Dfa) (sound : IsSound d) (forward : d.nfa.reverse ≡ false) (v : InputValue) (in_order : v.start ≤ v.end) (spanned : v.end ≤ length v.haystack)
    (bytes : AreBytes v.haystack) where
  abbrev ahead : Surroundings
  ahead = forwards d.nfa.terminator v.haystack

  abbrev opening : Key
  opening = first_key d v.anchor (byte_before v.haystack v.start)

  abbrev allowed : ℕ → Bool
  allowed = is_permitted d.nfa.utf8 v.haystack

  -- one byte on
  key-on : (at byte : ℕ) → v.start ≤ at → byte ≡ slice_index v.haystack at → next_key d (key_ahead d v at) byte ≡ key_ahead d v (at + 1)
  key-on at byte le is =
      ap (next_key d (key_ahead d v at)) is
      ∙ sym (next-key d ahead allowed (byte_before v.haystack) (length v.haystack) v.end v.start spanned opening at le)

  calls-on : (at : ℕ) → v.start ≤ at → at < v.end → is_dead (key_ahead d v at) ≡ false
      → calls d ahead (v.end - at) at (key_ahead d v at) ≡ suc (calls d ahead (v.end - (at + 1)) (at + 1) (key_ahead d v (at + 1)))
  calls-on at le lt alive =
      let count : v.end - at ≡ suc (v.end - (at + 1)) = omega arith in
      ap (λ n. calls d ahead n at (key_ahead d v at)) count
      ∙ calls-step d ahead (v.end - (at + 1)) at (key_ahead d v at) alive
      ∙ ap (λ k. suc (calls d ahead (v.end - (at + 1)) (at + 1) k)) (key-on at (ahead.byte at) le refl)

  left-next : (at byte : ℕ) → v.start ≤ at → at < v.end → byte ≡ slice_index v.haystack at → is_dead (next_key d (key_ahead d v at) byte) ≡ false
      → left_dead d ahead (v.end - at) at (key_ahead d v at) ≡ left_dead d ahead (v.end - (at + 1)) (at + 1) (key_ahead d v (at + 1))
  left-next at byte le lt is alive =
      let count : v.end - at ≡ suc (v.end - (at + 1)) = omega arith in
      ap (λ n. left_dead d ahead n at (key_ahead d v at)) count
      ∙ left-on d ahead (v.end - (at + 1)) at (key_ahead d v at) (ap (λ b. is_dead (next_key d (key_ahead d v at) b)) (sym is) ∙ alive)
      ∙ ap (λ k. left_dead d ahead (v.end - (at + 1)) (at + 1) k) (key-on at (ahead.byte at) le refl)

  left-now : (at byte : ℕ) → at < v.end → byte ≡ slice_index v.haystack at → is_dead (next_key d (key_ahead d v at) byte) ≡ true
      → left_dead d ahead (v.end - at) at (key_ahead d v at) ≡ at
  left-now at byte lt is dead =
      let count : v.end - at ≡ suc (v.end - (at + 1)) = omega arith in
      ap (λ n. left_dead d ahead n at (key_ahead d v at)) count
      ∙ left-here d ahead (v.end - (at + 1)) at (key_ahead d v at) (ap (λ b. is_dead (next_key d (key_ahead d v at) b)) (sym is) ∙ dead)

  module _ (Old New : ℕ → Key → Type 0) where
    pub goes-first : (state at : ℕ) → at ≡ v.start → New state opening → IsReadable d.nfa (byte_before v.haystack v.start) → is_dead opening ≡ false
        → GoesAhead New d v at state None
    goes-first state at at_is held readable alive =
        let all = calls d ahead (v.end - v.start) v.start (key_ahead d v v.start) in
        let whole : all ≡ v.start - v.start + all = omega arith in
        let here : key_ahead d v v.start ≡ opening =
        first-key d ahead allowed (byte_before v.haystack) (length v.haystack) v.end v.start spanned opening in
        subst (λ i. GoesAhead New d v i state None) (sym at_is)
        (record {
          refused = None;
          going = ahead-start d sound forward v in_order spanned bytes nothing_held tt tt 0 v.start fresh refl refl tt readable alive;
          held = subst (New state) (sym here) held;
          calls = counted d v in_order
              ∙ ap (λ x. calls d ahead (v.end - v.start) v.start x) (sym here)
              ∙ whole;
          stop = stops d v in_order ∙ ap (λ x. left_dead d ahead (v.end - v.start) v.start x) (sym here);
        })

    pub goes-on : (at state next byte : ℕ) (best best' : Option HalfMatchValue) → v.start ≤ at → at < v.end → byte ≡ slice_index v.haystack at
        → GoesAhead Old d v at state best
        → New next (next_key d (key_ahead d v at) byte) → IsReadable d.nfa (Some byte) → is_dead (next_key d (key_ahead d v at) byte) ≡ false
        → best' ≡ best_within allowed (next_key d (key_ahead d v at) byte).matches at best
        → GoesAhead New d v (at + 1) next best'
    goes-on at state next byte best best' le lt byte_is g held readable alive is =
        let ms = (next_key d (key_ahead d v at) byte).matches in
        let refused = beside allowed ms at best g.refused in
        let left = calls d ahead (v.end - (at + 1)) (at + 1) (key_ahead d v (at + 1)) in
        let count : at - v.start + 1 ≡ at + 1 - v.start = omega arith in
        let more : at - v.start + suc left ≡ at - v.start + 1 + left = omega arith in
        record {
          refused = refused;
          going = ahead-next d sound forward v in_order spanned bytes nothing_held tt tt tt 0 0 at (record { best = best; refused = g.refused })
              (record { best = best'; refused = refused }) byte le lt byte_is g.going tt readable alive (met-is allowed ms at best best' g.refused is);
          held = subst (New next) (key-on at byte le byte_is) held;
          calls = g.calls
              ∙ ap (λ n. at - v.start + n) (calls-on at le lt g.going.alive)
              ∙ more
              ∙ ap (λ n. n + left) count;
          stop = g.stop ∙ left-next at byte le lt byte_is alive;
        }

    -- Where the next key is dead, the search is over.
    pub goes-over : (old new at state byte : ℕ) (best best' : Option HalfMatchValue) → v.start ≤ at → at < v.end → byte ≡ slice_index v.haystack at
        → GoesAhead Old d v at state best
        → IsReadable d.nfa (Some byte) → is_dead (next_key d (key_ahead d v at) byte) ≡ true
        → best' ≡ best_within allowed (next_key d (key_ahead d v at) byte).matches at best
        → new ≡ old + (at - v.start) + 1
        → IsStop d v old new best' at
    goes-over old new at state byte best best' le lt byte_is g readable dead is taken =
        let ms = (next_key d (key_ahead d v at) byte).matches in
        let refused = beside allowed ms at best g.refused in
        let there : is_dead (key_ahead d v (at + 1)) ≡ true = ap is_dead (sym (key-on at byte le byte_is)) ∙ dead in
        let all : calls_forwards d v ≡ at - v.start + 1 =
        g.calls
        ∙ ap (λ n. at - v.start + n)
        (calls-on at le lt g.going.alive ∙ ap suc (calls-dead d ahead (v.end - (at + 1)) (at + 1) (key_ahead d v (at + 1)) there)) in
        record {
          refused = refused;
          met = ahead-dead d sound forward v in_order spanned bytes nothing_held tt tt 0 at (record { best = best; refused = g.refused })
              (record { best = best'; refused = refused }) byte le lt byte_is g.going readable dead (met-is allowed ms at best best' g.refused is);
          stop = λ none. sym (g.stop ∙ left-now at byte lt byte_is dead);
          ticks = λ each. omega (arith, all, taken);
        }

    -- The search may stop at the first match, and there is one.
    pub goes-early : (old new at state byte : ℕ) (best best' : Option HalfMatchValue) → v.start ≤ at → at < v.end → byte ≡ slice_index v.haystack at
        → GoesAhead Old d v at state best
        → IsReadable d.nfa (Some byte)
        → best' ≡ best_within allowed (next_key d (key_ahead d v at) byte).matches at best
        → (v.earliest && is_some best') ≡ true
        → IsStop d v old new best' at
    goes-early old new at state byte best best' le lt byte_is g readable is enough =
        let ms = (next_key d (key_ahead d v at) byte).matches in
        let refused = beside allowed ms at best g.refused in
        record {
          refused = refused;
          met = ahead-early d sound forward v in_order spanned bytes nothing_held tt tt 0 at (record { best = best; refused = g.refused })
              (record { best = best'; refused = refused }) byte le lt byte_is g.going readable (met-is allowed ms at best best' g.refused is) enough;
          stop = λ none. absurd (never v.earliest best' none enough);
          ticks = λ each. absurd (not-early v.earliest (is_some best') each enough);
        }
      where
        never : (b : Bool) (o : Option HalfMatchValue) → o ≡ None → (b && is_some o) ≡ true → ⊥
        never true None e h = true≢false (sym h)
        never false None e h = true≢false (sym h)
        never b (Some x) e h = cc

        not-early : (a b : Bool) → a ≡ false → (a && b) ≡ true → ⊥
        not-early true b e h = true≢false e
        not-early false b e h = true≢false (sym h)

    -- at the span's end
    pub goes-end : (old new state : ℕ) (best best' : Option HalfMatchValue) (last : Key) → GoesAhead Old d v v.end state best
        → IsReadable d.nfa (byte_after v.haystack v.end) → last.matches ≡ (end_of d (key_ahead d v v.end) (byte_after v.haystack v.end)).matches
        → best' ≡ best_within allowed last.matches v.end best
        → new ≡ old + (v.end - v.start) + 1
        → IsStop d v old new best' v.end
    goes-end old new state best best' last g readable told is taken =
        let refused = beside allowed last.matches v.end best g.refused in
        let none : v.end - v.end ≡ 0 = omega arith in
        let all : calls_forwards d v ≡ v.end - v.start + 1 =
        g.calls
        ∙ ap (λ n. v.end - v.start + n)
        (ap (λ n. calls d ahead n v.end (key_ahead d v v.end)) none ∙ calls-last d ahead v.end (key_ahead d v v.end) g.going.alive) in
        record {
          refused = refused;
          met = ahead-end d sound forward v in_order spanned bytes nothing_held tt tt 0 (record { best = best; refused = g.refused })
              (record { best = best'; refused = refused }) last g.going readable told (met-is allowed last.matches v.end best best' g.refused is);
          stop = λ missing. sym (g.stop ∙ ap (λ n. left_dead d ahead n v.end (key_ahead d v v.end)) none ∙ left-end d ahead v.end (key_ahead d v v.end));
          ticks = λ each. omega (arith, all, taken);
        }

    -- some calls are left
    pub goes-left : (at state : ℕ) (best : Option HalfMatchValue) → GoesAhead Old d v at state best → at - v.start + 1 ≤ calls_forwards d v
    goes-left at state best g =
        let e = g.calls in
        let some = calls-some d ahead (v.end - at) at (key_ahead d v at) g.going.alive in
        omega (arith, e, some)

-- where the first key is dead
pub stop-none : (d : Dfa) (v : InputValue) → v.start ≤ v.end → v.end ≤ length v.haystack
    → is_dead (first_key d v.anchor (byte_before v.haystack v.start)) ≡ true → (old new at : ℕ) → at ≡ v.start → new ≡ old → IsStop d v old new None at
stop-none d v in_order spanned dead old new at at_is same =
    let ahead = forwards d.nfa.terminator v.haystack in
    let opening = first_key d v.anchor (byte_before v.haystack v.start) in
    let none : calls_forwards d v ≡ 0 = counted d v in_order ∙ calls-dead d ahead (v.end - v.start) v.start opening dead in
    record {
      refused = None;
      met = ahead-none d v in_order spanned fresh refl dead;
      stop = λ missing. at_is ∙ sym (stops d v in_order ∙ left-first d ahead (v.end - v.start) v.start opening dead);
      ticks = λ each. omega (arith, none, same);
    }
