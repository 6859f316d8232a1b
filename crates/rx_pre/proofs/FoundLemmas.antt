-- The next match of an expression that is its literals is where the first literal lies.
use Rattle.std.proofs.Common.{◌≡◌, ℕ, zero, suc, ◌+◌, ◌-◌, ◌≤◌, List, [], ◌∷◌, length, map, take, refl, sym, ◌∙◌, ap, subst, arith, length-take-le}
use Rattle.std.proofs.lemmas.Bool.Decides.{nat_tests}
use Rattle.std.specs.Prelude.{Bool, true, false, ◌==◌, nat_lt, Option, Some, None, option_map, slice_get, if◌then◌else◌}
use Rattle.std.specs.Option.{option_or}
use Rattle.rx_model.specs.Expression.{Expression}
use Rattle.rx_model.specs.Runs.{Trace}
use Rattle.rx_model.specs.Search.{Patterns, Anchor, free, anchored, anchored_to, Match, first, first_of_patterns, first_of_pattern, first_start, is_permitted, next_match, starting_at}
use Rattle.rx_model.specs.Utf8.{MeansUtf8}
use Rattle.rx_model.proofs.lemmas.graphs.GraphLemmas.{first-means, first-pattern}
use Rattle.rx_model.proofs.lemmas.meaning.BoundaryLemmas.{part-permitted}
use Rattle.rx_model.proofs.lemmas.runs.OptionLemmas.{or-none_right}
use Rattle.rx_model.proofs.lemmas.runs.RunLemmas.{by_test}
use Rattle.rx_search.specs.Input.{InputValue, next_in}
use Rattle.rx_search.specs.Matches.{match_value}
use Rattle.rx_search.specs.Told.{tells, told_in}
use Rattle.rx_search.specs.declared.span.Span.{Span}
use Rattle.rx_literal.specs.First.{first_there}
use Rattle.rx_literal.specs.Literals.{exact}
use Rattle.rx_prefilter.specs.Needles.{span_at, span_among, prefix_in}
use Rattle.rx_pre.specs.Found.{match_of, part_of, span_from, span_in}
use Rattle.rx_pre.specs.Pre.{PreValue, IsPreFor, match_over, finds}
use Rattle.rx_pre.proofs.NeedleLemmas.{span_to, there-long, served-long}
use Rattle.rx_pre.proofs.NextLemmas.{started, starts-found}
use Rattle.rx_pre.proofs.WriteLemmas.{first-writes}

map-same : {A : Type 0} (o : Option A) → option_map (λ x. x) o ≡ o
map-same None = refl
map-same (Some x) = refl

among-one : (needles : List (List ℕ)) (text : List ℕ) (i : ℕ) → span_among needles text i 1 ≡ span_at needles text i
unfolding span_among
among-one needles text i = or-none_right (span_at needles text i)

module _ (p : PreValue) (r : Patterns) (v : InputValue) (is : IsPreFor p r) (within : v.end ≤ length v.haystack)
    (utf8 : r.utf8_empty ≡ true → MeansUtf8 r v.haystack) where
  abbrev h : Expression
  h = is.expression

  abbrev text : List ℕ
  text = v.haystack

  abbrev from : ℕ → Option Trace
  from i = first r text v.end 0 h i

  there : slice_get r.expressions 0 ≡ Some h
  there = ap (λ hs. slice_get hs 0) is.one

  told : (i : ℕ) → option_map (λ (t : Trace). t.end) (from i) ≡ first_there text v.end i (map exact p.needles)
  told i = is.whole.ends r text v.end 0 i

  -- a match with bytes starts where one may
  allowed : (i : ℕ) (t : Trace) → from i ≡ Some t → is_permitted r.utf8_empty text i ≡ true
  allowed i t e =
      by_test r.utf8_empty
      (λ on.
      let m = utf8 on in
      let long = there-long text v.end i p.needles (served-long p.needles is.whole.fit) t.end (sym (told i) ∙ ap (option_map (λ (u : Trace). u.end)) e) in
      let means = first-means r text v.end 0 h is.whole.ordered i t e in
      ap (λ u. is_permitted u text i) on
      ∙ (part-permitted text m.whole i t.end long.0 (m.parts 0 h there i t.end long.0 means)).0)
      (λ off. rw off refl)

  of_first : (i : ℕ) (t : Trace) → from i ≡ Some t → match_value (started i t) ≡ match_of (span_to i t.end)
  of_first i t e = let is_zero = first-pattern r text v.end 0 h i t e in λ k. record { pattern = is_zero k; start = i; end = t.end }

  module _ {T : Type 0} (view : Match → T) (of : Span → T) (same : (i : ℕ) (t : Trace) → from i ≡ Some t → view (started i t) ≡ of (span_to i t.end)) where
    -- the n places from i on
    places : (n i : ℕ) → option_map view (first_start (is_permitted r.utf8_empty text) from n i) ≡ option_map of (span_among p.needles (take v.end text) i n)
    places = starts-found text v.end within p.needles (is_permitted r.utf8_empty text) from view of told allowed same

    -- what a match that starts at a place tells
    from-all : (i : ℕ) → first_of_patterns r text v.end 0 r.expressions i ≡ from i
    unfolding first_of_patterns
    from-all i = ap (λ hs. first_of_patterns r text v.end 0 hs i) is.one ∙ or-none_right (from i)

    from-one : (i : ℕ) → first_of_pattern r text v.end 0 (slice_get r.expressions 0) i ≡ from i
    from-one i = ap (λ o. first_of_pattern r text v.end 0 o i) there

    from-other : (q i : ℕ) → (q == 0) ≡ false → first_of_pattern r text v.end q (slice_get r.expressions q) i ≡ None
    from-other q i other =
        let none : slice_get r.expressions q ≡ None = ap (λ hs. slice_get hs q) is.one ∙ past q other in
        ap (λ o. first_of_pattern r text v.end q o i) none
      where
        past : (q : ℕ) → (q == 0) ≡ false → slice_get (h ∷ []) q ≡ None
        past zero other = cc
        past (suc q) other = refl

    abbrev cut : List ℕ
    cut = take v.end text

    cut-long : length cut ≡ v.end
    cut-long = length-take-le v.end text within

    no-start : (f : ℕ → Option Trace) → ((i : ℕ) → f i ≡ None) → (n i : ℕ) → first_start (is_permitted r.utf8_empty text) f n i ≡ None
    unfolding first_start
    no-start f none zero i = refl
    no-start f none (suc n) i = rw (none i) (skip (is_permitted r.utf8_empty text i)) ∙ no-start f none n (i + 1)
      where
        skip : (may : Bool) → option_or (if may then None else None) (first_start (is_permitted r.utf8_empty text) f n (i + 1))
            ≡ first_start (is_permitted r.utf8_empty text) f n (i + 1)
        skip true = refl
        skip false = refl

    -- one place, where the search is anchored
    one-place : (f : ℕ → Option Trace) → ((i : ℕ) → f i ≡ from i)
        → option_map view (first_start (is_permitted r.utf8_empty text) f 1 v.start) ≡ option_map of (prefix_in p.needles text (part_of v))
    one-place f alike =
        ap (λ (g : ℕ → Option Trace). option_map view (first_start (is_permitted r.utf8_empty text) g 1 v.start)) (λ k i. alike i k)
        ∙ places 1 v.start ∙ ap (option_map of) (among-one p.needles cut v.start)

    by_anchor : (anchor : Anchor) → v.start ≤ v.end
        → option_map view (next_match r text anchor v.end v.start) ≡ option_map of (span_from p.needles v anchor)
    unfolding next_match starting_at
    by_anchor free le =
        let over : nat_lt v.end v.start ≡ false = grind (arith, nat_tests) in
        let count : length cut + 1 - v.start ≡ v.end + 1 - v.start = ap (λ n. n + 1 - v.start) cut-long in
        rw over (
        ap (λ (g : ℕ → Option Trace). option_map view (first_start (is_permitted r.utf8_empty text) g (v.end + 1 - v.start) v.start)) (λ k i. from-all i k)
        ∙ places (v.end + 1 - v.start) v.start ∙ sym (ap (λ n. option_map of (span_among p.needles cut v.start n)) count))
    by_anchor anchored le =
        let over : nat_lt v.end v.start ≡ false = grind (arith, nat_tests) in
        rw over (one-place (λ i. first_of_patterns r text v.end 0 r.expressions i) from-all)
    by_anchor (anchored_to q) le =
        let over : nat_lt v.end v.start ≡ false = grind (arith, nat_tests) in
        by_test (q == 0)
        (λ zeroth.
        let is_zero : q ≡ 0 = grind (arith, nat_tests) in
        rw (over, zeroth) (subst (λ x. option_map view (first_start (is_permitted r.utf8_empty text)
        (λ i. first_of_pattern r text v.end x (slice_get r.expressions x) i) 1 v.start) ≡ option_map of (prefix_in p.needles text (part_of v)))
        (sym is_zero) (one-place (λ i. first_of_pattern r text v.end 0 (slice_get r.expressions 0) i) from-one)))
        (λ other. rw (over, other) (ap (option_map view)
        (no-start (λ i. first_of_pattern r text v.end q (slice_get r.expressions q) i) (λ i. from-other q i other) 1 v.start)))

    done-none : nat_lt v.end v.start ≡ true → next_in r v ≡ None
    unfolding next_match first_start
    done-none e = rw e refl

    span-done : nat_lt v.end v.start ≡ true → span_in p.needles v ≡ None
    span-done e = rw e refl

    span-more : nat_lt v.end v.start ≡ false → span_in p.needles v ≡ span_from p.needles v v.anchor
    span-more e = rw e refl

    pub viewed : option_map view (next_in r v) ≡ option_map of (span_in p.needles v)
    viewed =
        by_test (nat_lt v.end v.start)
        (λ done. ap (option_map view) (done-none done) ∙ sym (ap (option_map of) (span-done done)))
        (λ more. by_anchor v.anchor (grind (arith, nat_tests)) ∙ sym (ap (option_map of) (span-more more)))

  -- the next match covers the span that is found
  pub next-found : option_map match_value (next_in r v) ≡ option_map match_of (span_in p.needles v)
  next-found = viewed match_value match_of of_first

  of_whole : (i : ℕ) (t : Trace) → from i ≡ Some t → started i t ≡ match_over (span_to i t.end)
  of_whole i t e =
      let is_zero = first-pattern r text v.end 0 h i t e in
      let writes = first-writes r text v.end 0 h is.whole.no_groups i t e in
      λ k. record { start = i; trace = record { pattern = is_zero k; end = t.end; writes = writes k } }

  -- and has what its run writes
  pub finds-told : finds p v ≡ told_in r v
  finds-told =
      by_test p.tells
      (λ told. finds-yes told ∙ sym (viewed (λ m. m) match_over of_whole) ∙ map-same (next_in r v) ∙ sym (told-yes (is.told ∙ told)))
      (λ silent. finds-no silent ∙ sym (told-no (is.told ∙ silent)))
    where
      finds-yes : p.tells ≡ true → finds p v ≡ option_map match_over (span_in p.needles v)
      finds-yes e = rw e refl

      finds-no : p.tells ≡ false → finds p v ≡ None
      finds-no e = rw e refl

      told-yes : tells r.which_captures ≡ true → told_in r v ≡ next_in r v
      told-yes e = rw e refl

      told-no : tells r.which_captures ≡ false → told_in r v ≡ None
      told-no e = rw e refl
