-- What a search by the automaton has read.
use Rattle.std.proofs.Common.{◌≡◌, ◌≢◌, ℕ, ◌+◌, ◌-◌, ◌*◌, ◌/◌, ◌%◌, ◌<◌, ◌≤◌, List, [], ◌∷◌, ◌++◌, None, Some, length, slice_index, refl, sym, ap, subst, ◌∙◌, arith}
use Rattle.std.proofs.lemmas.List.{length-append}
use Rattle.memchr.specs.Find.{OccursAt}
use Rattle.rx_search.specs.declared.span.Span.{Span}
use Rattle.rx_prefilter.specs.Needles.{span_among, first_span}
use Rattle.rx_prefilter.specs.Tries.{stop, word_of, word_at}
use Rattle.rx_prefilter.specs.Automata.{Leads, IsAutomatonOf, IsReading}
use Rattle.rx_prefilter.proofs.NeedleLemmas.{first_span-window_found, first_span-window_next}
use Rattle.rx_prefilter.proofs.LeadLemmas.{occurs_next}

module _ (needles : List (List ℕ)) (next depths text : List ℕ) (from : ℕ) where
  pub reading-root : (a : IsAutomatonOf needles next depths) (at : ℕ) → at ≤ length text → first_span needles text from ≡ first_span needles text at
      → IsReading needles next depths text from at 0
  reading-root a at low same =
      let tall = a.tall in
      let some = a.some in
      let w = word_of a.words 0 in
      let none : length w ≡ 0 = ap (λ (u : List ℕ). length u) a.root in
      let here : at ≡ at - length w = omega (arith, none) in record {
        automaton = a;
        within = omega (arith, tall, some);
        behind = omega (arith, none);
        reads = record { fits = omega (arith, none, low); reads = λ j l. absurd (omega (arith, none, l)) };
        keeps = same ∙ ap (first_span needles text) here;
      }

  pub reading-depth : (at state : ℕ) (r : IsReading needles next depths text from at state)
      → slice_index depths state ≡ length (word_of r.automaton.words state)
  reading-depth at state r = let tall = r.automaton.tall in let within = r.within in r.automaton.depths_are state (omega (arith, tall, within))

  pub reading-within : (at state b : ℕ) → IsReading needles next depths text from at state → b < 256 → state * 256 + b < length next
  reading-within at state b r byte =
      let tall = r.automaton.tall in let rows = r.automaton.rows in let within = r.within in omega (arith, tall, rows, within, byte)

  pub reading-behind : (at state : ℕ) → IsReading needles next depths text from at state → slice_index depths state ≤ at
  reading-behind at state r = let behind = r.behind in let d = reading-depth at state r in omega (arith, behind, d)

  pub reading-next : (at state b to : ℕ) → IsReading needles next depths text from at state → at < length text → b < 256 → slice_index text at ≡ b
      → slice_index next (state * 256 + b) ≡ to → to ≢ stop → IsReading needles next depths text from (at + 1) to
  reading-next at state b to r low byte is there some =
      let a = r.automaton in
      let w = word_of a.words state in
      let v = w ++ b ∷ [] in
      let s = at - length w in
      let behind = r.behind in
      let tall = a.tall in
      let end : s + length w ≡ at = omega (arith, behind) in
      let long = length-append w (b ∷ []) in
      let o : OccursAt text v s = occurs_next text w b s r.reads (omega (arith, end, low)) (ap (slice_index text) end ∙ is) in
      let row : (state * 256 + b) / 256 ≡ state = omega (arith, byte) in
      let column : (state * 256 + b) % 256 ≡ b = omega (arith, byte) in
      let found = (a.places (state * 256 + b) (reading-within at state b r byte)).1 (λ e. some (sym there ∙ e)) in
      let below : to < length a.words = subst (λ n. n < length a.words) there found.0 in
      let same_word : word_at a.words (state * 256 + b) ≡ v = rw (row, column) refl in
      let leads : Leads needles v (word_of a.words to) =
      subst (λ n. Leads needles v (word_of a.words n)) there
      (subst (λ u. Leads needles u (word_of a.words (slice_index next (state * 256 + b)))) same_word found.1) in
      let shorter = leads.shorter in
      let start : s + (length v - length (word_of a.words to)) ≡ at + 1 - length (word_of a.words to) = omega (arith, end, long, shorter) in record {
        automaton = a;
        within = omega (arith, below, tall);
        behind = omega (arith, long, shorter, behind);
        reads = subst (OccursAt text (word_of a.words to)) start (leads.reads text s o);
        keeps = r.keeps ∙ leads.keeps text s o ∙ ap (first_span needles text) start;
      }

  -- a look back finds the needle that is sought, or there is none up to the present place
  pub reading-found : (at state : ℕ) (span : Span) → IsReading needles next depths text from at state → at ≤ length text
      → span_among needles text (at - slice_index depths state) (slice_index depths state + 1) ≡ Some span → first_span needles text from ≡ Some span
  reading-found at state span r low e =
      let d = reading-depth at state r in
      let behind = r.behind in
      r.keeps ∙ ap (λ n. first_span needles text (at - n)) (sym d)
      ∙ first_span-window_found needles text (at - slice_index depths state) (slice_index depths state + 1) span (omega (arith, d, behind, low)) e

  pub reading-missed : (at state : ℕ) → IsReading needles next depths text from at state → at < length text
      → span_among needles text (at - slice_index depths state) (slice_index depths state + 1) ≡ None → IsReading needles next depths text from (at + 1) 0
  reading-missed at state r low e =
      let d = reading-depth at state r in
      let behind = r.behind in
      let past : at - slice_index depths state + (slice_index depths state + 1) ≡ at + 1 = omega (arith, d, behind) in
      reading-root r.automaton (at + 1) (omega arith) (r.keeps ∙ ap (λ n. first_span needles text (at - n)) (sym d)
      ∙ first_span-window_next needles text (at - slice_index depths state) (slice_index depths state + 1) (omega (arith, d, behind, low)) e
      ∙ ap (first_span needles text) past)

  pub reading-end : (at state : ℕ) → IsReading needles next depths text from at state → at ≡ length text
      → span_among needles text (at - slice_index depths state) (slice_index depths state + 1) ≡ first_span needles text from
  reading-end at state r end =
      let d = reading-depth at state r in
      let behind = r.behind in
      let all : slice_index depths state + 1 ≡ length text + 1 - (at - slice_index depths state) = omega (arith, d, behind, end) in
      ap (span_among needles text (at - slice_index depths state)) all ∙ sym (r.keeps ∙ ap (λ n. first_span needles text (at - n)) (sym d))
