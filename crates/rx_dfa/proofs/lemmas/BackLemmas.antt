-- The loop of a search that stops where it may as well begin anew.
use Rattle.std.proofs.Common.{◌≡◌, ℕ, ◌+◌, ◌-◌, ◌≤◌, ◌<◌, List, [], ◌∷◌, length, refl, sym, ◌∙◌, ap, subst, arith}
use Rattle.std.specs.Prelude.{Bool, true, false, Option, Some, None, option_map, slice_index}
use Rattle.std.specs.Option.{option_or}
use Rattle.rx_model.specs.Look.{byte_before}
use Rattle.rx_model.specs.Search.{free, is_anchored, is_permitted}
use Rattle.rx_model.proofs.lemmas.runs.FirstLemmas.{none-is-some}
use Rattle.rx_search.specs.Input.{InputValue}
use Rattle.rx_search.specs.Matches.{half_match_value}
use Rattle.rx_search.specs.declared.anchored.MatchKind.TheVariants.{LeftmostFirst}
use Rattle.rx_nfa.specs.Automaton.{Surroundings, forwards, byte_within}
use Rattle.rx_nfa.specs.NextMatch.{next_match_of}
use Rattle.rx_nfa.specs.Ordered.{HoldsAt}
use Rattle.rx_determinize.specs.Key.{Key, start_key, step_key}
use Rattle.rx_determinize.specs.Sight.{class_beside, AreBytes}
use Rattle.rx_determinize.specs.Permitted.{Progress, fresh, recorded, met_within, KeepsCharacters}
use Rattle.rx_determinize.proofs.lemmas.KeepsLemmas.{walks-keep}
use Rattle.rx_determinize.proofs.lemmas.SeenLemmas.{seen-at}
use Rattle.rx_determinize.proofs.lemmas.SpanLemmas.{byte-here}
use Rattle.rx_dfa.specs.Automaton.{Dfa, IsSound, IsStartKey, IsReadable, sight_of, first_key, next_key}
use Rattle.rx_dfa.specs.Candidates.{IsBack}
use Rattle.rx_dfa.proofs.lemmas.AnewLemmas.{IsComing, coming-start, coming-step, coming-again, next-alike}
use Rattle.rx_dfa.proofs.lemmas.BothLemmas.{not-anchored}
use Rattle.rx_dfa.proofs.lemmas.CourseLemmas.{first-key, next-key, readable-next}
use Rattle.rx_dfa.proofs.lemmas.ForwardLemmas.{key_ahead, tells-forwards, first-before}

-- where nothing was met after these patterns, there are none, and nothing was met before
recorded-some : (t : Bool) (q place : ℕ) (r : Progress) → recorded t q place r ≡ fresh → ⊥
recorded-some true q place r h = none-is-some (sym (ap (λ (x : Progress). x.best) h))
recorded-some false q place r h = later r.refused (ap (λ (x : Progress). x.refused) h)
  where
    later : (o : Option ℕ) → option_or o (Some place) ≡ None → ⊥
    later None e = none-is-some (sym e)
    later (Some p) e = none-is-some (sym e)

unmet : (may : ℕ → Bool) (ms : List ℕ) (place : ℕ) (r : Progress) → met_within may ms place r ≡ fresh → (ms ≡ []) × (r ≡ fresh)
unmet may [] place r h = (refl, h)
unmet may (q ∷ qs) place r h = absurd (recorded-some (may place) q place r h)

module _ (d : Dfa) (v : InputValue) where
  abbrev ahead : Surroundings
  ahead = forwards d.nfa.terminator v.haystack

  -- What comes of the key is what comes of the start, where nothing was met.
  abbrev pub Comes : (at : ℕ) → Key → Type 0
  Comes at k =
      (sound : IsSound d) (spanned : v.end ≤ length v.haystack)
      → IsComing ahead (length v.haystack) d.nfa.states sound.in_range.names v.end d.nfa.start_anchored sound.in_range.start_anchored (sight_of d) spanned
      v.start at k

module _ (d : Dfa) (leftmost : d.kind ≡ LeftmostFirst) (v : InputValue) (unanchored : is_anchored v.anchor ≡ false) where
  abbrev opening : Key
  opening = first_key d v.anchor (byte_before v.haystack v.start)

  -- at the first place
  pub comes-first : v.start ≤ v.end → (at : ℕ) → at ≡ v.start → Comes d v at (key_ahead d v at)
  comes-first in_order at at_is sound spanned =
      let before = class_beside d.keeps d.classes d.bytes (byte_before v.haystack v.start) in
      let first : start_key LeftmostFirst d.nfa.states d.nfa.start_anchored true before ≡ key_ahead d v v.start =
      (λ j. start_key (sym leftmost j) d.nfa.states d.nfa.start_anchored true before)
      ∙ (λ j. first_key d (sym (not-anchored v.anchor unanchored) j) (byte_before v.haystack v.start))
      ∙ sym (first-key d (ahead d v) (is_permitted d.nfa.utf8 v.haystack) (byte_before v.haystack) (length v.haystack) v.end v.start spanned opening) in
      subst (λ i. IsComing (ahead d v) (length v.haystack) d.nfa.states sound.in_range.names v.end d.nfa.start_anchored sound.in_range.start_anchored
      (sight_of d) spanned v.start i (key_ahead d v i)) (sym at_is)
      (subst (λ k. IsComing (ahead d v) (length v.haystack) d.nfa.states sound.in_range.names v.end d.nfa.start_anchored sound.in_range.start_anchored
      (sight_of d) spanned v.start v.start k) first
      (coming-start (ahead d v) (length v.haystack) d.nfa.states sound.in_range.names v.end d.nfa.start_anchored sound.in_range.start_anchored
      (sight_of d) spanned v.start in_order before))

  -- one byte on
  pub comes-next : d.nfa.reverse ≡ false → AreBytes v.haystack → (at : ℕ) (r r' : Progress) (byte : ℕ) → v.start ≤ at → at < v.end
      → byte ≡ slice_index v.haystack at
      → ((j : ℕ) → v.start ≤ j → j ≤ at → IsReadable d.nfa (byte_before v.haystack j)) → IsReadable d.nfa (byte_before v.haystack (at + 1))
      → (r ≡ fresh → Comes d v at (key_ahead d v at))
      → r' ≡ met_within (is_permitted d.nfa.utf8 v.haystack) (next_key d (key_ahead d v at) byte).matches at r
      → r' ≡ fresh → Comes d v (at + 1) (key_ahead d v (at + 1))
  comes-next forward bytes at r r' byte low lt byte_is readable here comes met nothing sound spanned =
      let around = ahead d v in
      let key = key_ahead d v at in
      let size = length v.haystack in
      let both = unmet (is_permitted d.nfa.utf8 v.haystack) (next_key d key byte).matches at r (sym met ∙ nothing) in
      let le : at ≤ v.end = omega arith in
      let sees = tells-forwards d sound forward v.haystack bytes opening at v.start (first-before d v.anchor (byte_before v.haystack v.start)) low (omega arith)
      (readable-next d around (is_permitted d.nfa.utf8 v.haystack) (byte_before v.haystack) size v.end v.start spanned opening at readable here) in
      let place : v.start + (at - v.start) ≡ at = omega arith in
      let seen = seen-at d.kind around size d.nfa.states d.nfa.start_anchored (sight_of d) at v.start opening sees (at - v.start) (omega arith) in
      let holds : HoldsAt around d.nfa.states ((sight_of d).holds key.before (Some (around.byte at))) at =
      subst (λ o. HoldsAt around d.nfa.states ((sight_of d).holds key.before o) at) (byte-here around.byte size at (omega arith))
      (subst (λ i. HoldsAt around d.nfa.states ((sight_of d).holds key.before (byte_within around.byte size i)) i) place seen) in
      let next : step_key LeftmostFirst d.nfa.states d.nfa.start_anchored (sight_of d) key (around.byte at) ≡ key_ahead d v (at + 1) =
      (λ j. step_key (sym leftmost j) d.nfa.states d.nfa.start_anchored (sight_of d) key (around.byte at))
      ∙ sym (next-key d around (is_permitted d.nfa.utf8 v.haystack) (byte_before v.haystack) size v.end v.start spanned opening at low) in
      let none : (step_key LeftmostFirst d.nfa.states d.nfa.start_anchored (sight_of d) key (around.byte at)).matches ≡ [] =
      (λ j. (step_key (sym leftmost j) d.nfa.states d.nfa.start_anchored (sight_of d) key (sym byte_is j)).matches) ∙ both.0 in
      subst (λ k. IsComing around size d.nfa.states sound.in_range.names v.end d.nfa.start_anchored sound.in_range.start_anchored (sight_of d) spanned
      v.start (at + 1) k) next
      (coming-step around size d.nfa.states sound.in_range.names v.end d.nfa.start_anchored sound.in_range.start_anchored (sight_of d) spanned v.start at key lt
      (comes both.1 sound spanned) holds none)

  -- at a key of a start, with nothing met
  pub comes-back : IsSound d → v.end ≤ length v.haystack → (at : ℕ) → v.start < at → at ≤ v.end → Comes d v at (key_ahead d v at)
      → IsStartKey d (key_ahead d v at) → IsBack d v at
  comes-back sound spanned at after within comes start =
      let is : key_ahead d v at ≡ start_key LeftmostFirst d.nfa.states d.nfa.start_anchored true start.0 =
      start.1 ∙ (λ j. start_key (leftmost j) d.nfa.states d.nfa.start_anchored true start.0) in
      let again = coming-again (ahead d v) (length v.haystack) d.nfa.states sound.in_range.names v.end d.nfa.start_anchored sound.in_range.start_anchored
      (sight_of d) spanned v.start at (key_ahead d v at) within (comes sound spanned) start.0 is in
      let anchor = not-anchored v.anchor unanchored in
      record {
        after = after;
        within = within;
        alike = λ r p.
            let keeps : d.nfa.utf8 ≡ true → KeepsCharacters d.nfa.terminator d.nfa.states v.haystack v.end d.nfa.start_anchored = λ on.
            walks-keep d.nfa r p.is_for.runs v.haystack (p.utf8 (p.is_for.utf8 ∙ on)) v.end spanned free d.nfa.start_anchored refl in
            subst (λ a. option_map half_match_value (next_match_of d.nfa d.nfa.utf8 v.haystack a v.end v.start)
            ≡ option_map half_match_value (next_match_of d.nfa d.nfa.utf8 v.haystack a v.end at)) (sym anchor)
            (next-alike d.nfa sound.in_range (sight_of d) v.haystack v.end spanned keeps v.start at (omega arith) within again);
      }
