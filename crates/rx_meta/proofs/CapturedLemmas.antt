-- The match that captures tell, and the slots of groups that are not told.
use Rattle.std.proofs.Common.{◌≡◌, ℕ, suc, ◌+◌, ◌*◌, ◌≤◌, ◌<◌, Bool, true, false, List, [], length, map, get_or, inl, inr, refl, sym, ap, ◌∙◌, subst, arith, true≢false}
use Rattle.std.proofs.lemmas.Bool.Decides.{nat_tests}
use Rattle.std.proofs.lemmas.List.{length-replicate, get_or-replicate, get_or_past}
use Rattle.std.proofs.lemmas.Option.{slice_get-map}
use Rattle.std.specs.List.{range_with_len}
use Rattle.std.specs.Prelude.{Option, Some, None, option_map, unwrap_or, is_some, replicate, IfSome, slice_get, slice_index_or, nat_lt, if◌then◌else◌}
use Rattle.rx_model.specs.Expression.{Expression}
use Rattle.rx_model.specs.Matches.{IsMatch, IsSlotOf}
use Rattle.rx_model.specs.Search.{Patterns, WhichCaptures, all as every_group, implicit, none as no_group, Match, told_of, slot_value, slot_of, has_explicit_groups, greatest_group}
use Rattle.rx_model.proofs.lemmas.runs.FirstLemmas.{none-is-some}
use Rattle.rx_model.proofs.lemmas.runs.RunLemmas.{by_test}
use Rattle.rx_model.proofs.lemmas.matches.WithinLemmas.{next-run, match-within, match-slots, match-others}
use Rattle.rx_search.specs.Captures.{CapturesValue, held, span_of, span_from, span_in, group_span, match_at, captured_match}
use Rattle.rx_search.specs.GroupInfo.{slot_at}
use Rattle.rx_search.specs.Input.{InputValue, next_in}
use Rattle.rx_search.specs.Matches.{MatchValue, match_value}
use Rattle.rx_search.specs.PatternGroups.{pattern_groups, group_names, name_in}
use Rattle.rx_search.specs.Promise.{Premises, Promised}
use Rattle.rx_search.specs.Told.{tells, IsMatchWith, matched_pattern, HasSlots}
use Rattle.rx_search.specs.declared.span.Span.{Span}
use Rattle.rx_meta.specs.Captures.{emptied, AreTold, IsToldWith}
use Rattle.rx_meta.specs.Laws.{HaveRoomFor, AreImplicitAlone, AreOfPatternAlone, HoldAlike, HoldSpanOf}
use Rattle.rx_meta.specs.Regex.{RegexValue, Serves, given_needles, kind_in}
use Rattle.rx_meta.specs.Search.{IsAnswer, AreSlotsOfAnswer}
use Rattle.rx_meta.proofs.FinderLemmas.{untold-none}

silent : {T : Type 0} (found : Option T) → is_some found ≡ false → found ≡ None
silent None e = refl
silent (Some x) e = absurd (true≢false e)

positive : (n : ℕ) → nat_lt 0 (suc n) ≡ true
positive n = grind (arith, nat_tests)

-- the slot of the implicit group
implicit-slot : (hs : List Expression) (p : ℕ) (h : Expression) → slice_get hs p ≡ Some h → slot_at (pattern_groups hs) p 0 ≡ Some (2 * p)
implicit-slot hs p h there =
    let at : slice_get (pattern_groups hs) p ≡ Some (group_names h) = slice_get-map group_names hs p ∙ ap (option_map group_names) there in
    ap (λ (o : Option (List (Option (List ℕ)))). if nat_lt 0 (length (unwrap_or o [])) then Some (2 * p) else None) at
    ∙ ap (λ (b : Bool). if b then Some (2 * p) else None) (positive (length (map (λ g. name_in g h) (range_with_len 1 (greatest_group h)))))

-- captures with the slots of a match tell that match
module _ (r : Patterns) (v : InputValue) (m : Match) (is : IsMatch r v.haystack v.anchor v.end v.start m) (c : CapturesValue) (room : HaveRoomFor r c)
    (has : HasSlots c.slots m) where
  spans-match : span_in c (Some m.trace.pattern) 0 ≡ Some (record { start = m.start; end = m.trace.end })
  spans-match =
      let p = m.trace.pattern in
      let own = match-slots r v.haystack v.anchor v.end v.start m is in
      let below = own.0 in
      let wide = room.slots in
      let first : held c.slots (2 * p) ≡ Some m.start = has (2 * p) (omega arith) ∙ own.1 in
      let second : held c.slots (2 * p + 1) ≡ Some m.trace.end = has (2 * p + 1) (omega arith) ∙ own.2 in
      let slot : slot_at c.groups p 0 ≡ Some (2 * p) =
      ap (λ groups. slot_at groups p 0) room.groups ∙ implicit-slot r.expressions p is.expression is.is_there in
      ap (span_from c.slots) slot ∙ (λ i. span_of (first i) (second i))

  pub group-match : c.pattern ≡ Some m.trace.pattern → group_span c 0 ≡ Some (record { start = m.start; end = m.trace.end })
  group-match pattern = ap (λ (o : Option ℕ). span_in c o 0) pattern ∙ spans-match

  pub captured-match : c.pattern ≡ Some m.trace.pattern → captured_match c ≡ Some (match_value m)
  captured-match pattern = (λ i. match_at (pattern i) (group-match pattern i))

-- what a match tells where matches are told is the match
told-whole : (w : WhichCaptures) (m : Match) (slots : List (Option ℕ)) → tells w ≡ true → HasSlots slots (told_of w m) → HasSlots slots m
told-whole every_group m slots told has = has
told-whole implicit m slots told has = has
told-whole no_group m slots told has = absurd (true≢false (sym told))

told-value : (w : WhichCaptures) (m : Match) → match_value (told_of w m) ≡ match_value m
told-value every_group m = refl
told-value implicit m = refl
told-value no_group m = refl

told-pattern : (w : WhichCaptures) (m : Match) → matched_pattern (told_of w m) ≡ matched_pattern m
told-pattern every_group m = refl
told-pattern implicit m = refl
told-pattern no_group m = refl

-- a slot in which a match leaves nothing holds nothing of what is told of it
told-nothing : (w : WhichCaptures) (m : Match) (k : ℕ) → slot_value m k ≡ None → slot_value (told_of w m) k ≡ None
told-nothing every_group m k e = e
told-nothing implicit m k e = e
told-nothing no_group m k e = refl

abbrev nothing : Option ℕ
nothing = None

-- empty slots hold nothing
empty-slot : (n k : ℕ) → get_or (replicate n nothing) k nothing ≡ nothing
empty-slot n k =
    let size : length (replicate n nothing) ≡ n = length-replicate n nothing in
    by_test (nat_lt k n)
    (λ e. get_or-replicate n k nothing nothing (grind (arith, nat_tests)))
    (λ e. let past : n ≤ k = grind (arith, nat_tests) in get_or_past (replicate n nothing) k nothing (omega arith))

empty-tells : (c : CapturesValue) → c.pattern ≡ None → captured_match c ≡ None
empty-tells c e = ap (λ (o : Option ℕ). match_at o (span_in c o 0)) e

module _ (regex : RegexValue) (r : Patterns) (v : InputValue) (premises : Premises (Serves regex r) (given_needles regex) r v) where
  -- nothing is found where matches are not told
  pub nothing-found : {T : Type 0} (part : Match → T) → tells r.which_captures ≡ false → (found : Option T) → IsAnswer regex v part found → found ≡ None
  nothing-found part untold found answer =
      silent found (answer.exists r premises ∙ ap (λ (o : Option Match). is_some o) (untold-none r v untold))

  pub nothing-captured : tells r.which_captures ≡ false → (c : CapturesValue) → AreTold regex v c → c ≡ emptied c
  nothing-captured untold c told = told.none (nothing-found matched_pattern untold c.pattern told.pattern)

  -- where something is found, matches are told
  found-told : {T : Type 0} (part : Match → T) (found : Option T) (x : T) → IsAnswer regex v part found → found ≡ Some x → tells r.which_captures ≡ true
  found-told part found x answer is =
      by_test (tells r.which_captures) (λ told. told) (λ untold. none-is-some (sym (nothing-found part untold found answer) ∙ is))

  module _ (c : CapturesValue) (room : HaveRoomFor r c) where
    pub given-match : (found : Option MatchValue) → IsToldWith regex v c found → captured_match c ≡ found
    given-match found is = by_found found refl
      where
        by_found : (o : Option MatchValue) → found ≡ o → captured_match c ≡ found
        by_found None none = empty-tells c (is.pattern ∙ ap (option_map (λ (m : MatchValue). m.pattern)) none) ∙ sym none
        by_found (Some x) some =
            let told = found-told match_value found x is.answer some in
            let known = subst (λ (o : Option MatchValue). IfSome o (λ answer. IsMatchWith r v (λ m. (answer ≡ match_value m) × HasSlots c.slots m))) some
            (is.slots.is_match r premises) in
            let m = known.0 in
            let value : x ≡ match_value m = known.2.0 ∙ told-value r.which_captures m in
            let pattern : c.pattern ≡ Some m.trace.pattern =
            is.pattern ∙ ap (option_map (λ (m : MatchValue). m.pattern)) some ∙ ap (λ (y : MatchValue). Some y.pattern) value in
            captured-match r v m known.1 c room (told-whole r.which_captures m c.slots told known.2.1) pattern ∙ sym (some ∙ ap (λ (y : MatchValue). Some y) value)

    -- the captures of a promised search tell the next match
    pub next-match : Promised (Serves regex r) (given_needles regex) (kind_in regex) r v → (found : Option MatchValue) → AreTold regex v c
        → IsAnswer regex v match_value found → captured_match c ≡ found
    next-match p found are answer = by_next (next_in r v) refl
      where
        by_next : (o : Option Match) → next_in r v ≡ o → captured_match c ≡ found
        by_next None none =
            empty-tells c (are.pattern.value r p ∙ ap (option_map matched_pattern) none) ∙ sym (answer.value r p ∙ ap (option_map match_value) none)
        by_next (Some m) some =
            captured-match r v m (next-run r v.haystack v.anchor v.end v.start m some) c room
            (subst (λ (o : Option Match). IfSome o (HasSlots c.slots)) some (are.slots.value r p)) (are.pattern.value r p ∙ ap (option_map matched_pattern) some)
            ∙ sym (answer.value r p ∙ ap (option_map match_value) some)

    pub captured-order : AreTold regex v c → IfSome (group_span c 0) (λ span. span.start ≤ span.end)
    captured-order are = by_pattern c.pattern refl
      where
        by_pattern : (o : Option ℕ) → c.pattern ≡ o → IfSome (group_span c 0) (λ span. span.start ≤ span.end)
        by_pattern None none = subst (λ (o : Option Span). IfSome o (λ span. span.start ≤ span.end)) (sym (ap (λ (o : Option ℕ). span_in c o 0) none)) tt
        by_pattern (Some p) some =
            let told = found-told matched_pattern c.pattern p are.pattern some in
            let known = subst (λ (o : Option ℕ). IfSome o (λ answer. IsMatchWith r v (λ m. (answer ≡ matched_pattern m) × HasSlots c.slots m))) some
            (are.slots.is_match r premises) in
            let m = known.0 in
            let pattern : c.pattern ≡ Some m.trace.pattern = some ∙ ap (λ (q : ℕ). Some q) (known.2.0 ∙ told-pattern r.which_captures m) in
            subst (λ (o : Option Span). IfSome o (λ span. span.start ≤ span.end))
            (sym (group-match r v m known.1 c room (told-whole r.which_captures m c.slots told known.2.1) pattern))
            (match-within r v.haystack v.anchor v.end v.start m known.1).1

  module _ (untold : has_explicit_groups r.which_captures ≡ false) where
    -- a slot behind those of the implicit groups is of no group
    no-slot : (p k : ℕ) (h : Expression) → p < length r.expressions → 2 * length r.expressions ≤ k → IsSlotOf r p h k → ⊥
    no-slot p k h below le (inl first) = omega arith
    no-slot p k h below le (inr (inl second)) = omega arith
    no-slot p k h below le (inr (inr explicit)) =
        none-is-some (sym (ap (λ (b : Bool). if b then slot_of (record r { which_captures = every_group }) p explicit.0 else None) untold) ∙ explicit.3)

    pub implicit-alone : (slots : List (Option ℕ)) (found : Option ℕ) → AreSlotsOfAnswer regex v matched_pattern slots found
        → IfSome found (λ _. AreImplicitAlone r slots)
    implicit-alone slots found are = by_found found (are.is_match r premises)
      where
        by_found : (o : Option ℕ) → IfSome o (λ answer. IsMatchWith r v (λ m. (answer ≡ matched_pattern m) × HasSlots slots m)) → IfSome o (λ _. AreImplicitAlone r slots)
        by_found None known = tt
        by_found (Some p) (m, is, tells_it) = λ k le lt.
            let below = (match-slots r v.haystack v.anchor v.end v.start m is).0 in
            let nothing = match-others r v.haystack v.anchor v.end v.start m is is.expression is.is_there k
            (λ own. no-slot m.trace.pattern k is.expression below le own) in
            tells_it.1 k lt ∙ told-nothing r.which_captures m k nothing

    pub implicit-captured : (c : CapturesValue) → AreTold regex v c → AreImplicitAlone r c.slots
    implicit-captured c are = by_pattern c.pattern refl
      where
        by_pattern : (o : Option ℕ) → c.pattern ≡ o → AreImplicitAlone r c.slots
        by_pattern None none = λ k le lt. ap (λ (x : CapturesValue). slice_index_or x.slots k None) (are.none none) ∙ empty-slot (length c.slots) k
        by_pattern (Some p) some = subst (λ (o : Option ℕ). IfSome o (λ _. AreImplicitAlone r c.slots)) some (implicit-alone c.slots c.pattern are.slots)

-- What slots hold after two searches of one input, where the next match is promised.
module _ (regex : RegexValue) (r : Patterns) (v : InputValue) (p : Promised (Serves regex r) (given_needles regex) (kind_in regex) r v) where
  abbrev pub AreOfNext : List (Option ℕ) → Type 0
  AreOfNext slots = IfSome (next_in r v) (HasSlots slots)

  pub alike : {T : Type 0} (part : Match → T) (found : Option T) (slots others : List (Option ℕ)) → IsAnswer regex v part found → AreOfNext slots
      → AreOfNext others → IfSome found (λ _. HoldAlike slots others)
  alike {T} part found slots others answer first second =
      subst (λ (o : Option T). IfSome o (λ _. HoldAlike slots others)) (sym (answer.value r p)) (by_next (next_in r v) first second)
    where
      by_next : (o : Option Match) → IfSome o (HasSlots slots) → IfSome o (HasSlots others) → IfSome (option_map part o) (λ _. HoldAlike slots others)
      by_next None first second = tt
      by_next (Some m) first second = λ k lt lt'. first k lt ∙ sym (second k lt')

  pub span-held : (found : Option MatchValue) (slots : List (Option ℕ)) → IsAnswer regex v match_value found → AreOfNext slots
      → IfSome found (HoldSpanOf slots)
  span-held found slots answer held =
      subst (λ (o : Option MatchValue). IfSome o (HoldSpanOf slots)) (sym (answer.value r p)) (by_next (next_in r v) refl held)
    where
      by_next : (o : Option Match) → next_in r v ≡ o → IfSome o (HasSlots slots) → IfSome (option_map match_value o) (HoldSpanOf slots)
      by_next None none held = tt
      by_next (Some m) some held =
          let own = match-slots r v.haystack v.anchor v.end v.start m (next-run r v.haystack v.anchor v.end v.start m some) in
          record {
            start = λ lt. held (2 * m.trace.pattern) lt ∙ own.1;
            end = λ lt. held (2 * m.trace.pattern + 1) lt ∙ own.2;
          }

-- No slot of another pattern than the one that is found holds a place.
module _ (regex : RegexValue) (r : Patterns) (v : InputValue) (premises : Premises (Serves regex r) (given_needles regex) r v) where
  pub of-pattern-alone : (slots : List (Option ℕ)) (found : Option ℕ) → AreSlotsOfAnswer regex v matched_pattern slots found
      → IfSome found (AreOfPatternAlone r slots)
  of-pattern-alone slots found are = by_found found (are.is_match r premises)
    where
      by_found : (o : Option ℕ) → IfSome o (λ answer. IsMatchWith r v (λ m. (answer ≡ matched_pattern m) × HasSlots slots m))
          → IfSome o (AreOfPatternAlone r slots)
      by_found None known = tt
      by_found (Some p) (m, is, tells_it) =
          let same : p ≡ m.trace.pattern = tells_it.0 ∙ told-pattern r.which_captures m in
          subst (AreOfPatternAlone r slots) (sym same)
          (λ h there k lt other.
          tells_it.1 k lt ∙ told-nothing r.which_captures m k (match-others r v.haystack v.anchor v.end v.start m is h there k other))
