-- What each match begins with, where a prefilter is made of the patterns.
use Rattle.std.proofs.Common.{◌≡◌, ℕ, zero, suc, ◌+◌, ◌≤◌, Bool, true, false, List, [], ◌∷◌, length, map, get_or}
use Rattle.std.proofs.Common.{Option, Some, None, slice_get, refl, sym, ap, subst, inl, inr, ◌∙◌, arith, true≢false}
use Rattle.std.proofs.lemmas.Option.{slice_get-get_or, slice_get_within, slice_get_past, slice_get_cases}
use Rattle.std.specs.Prelude.{option_map, is_some, if◌then◌else◌}
use Rattle.std.specs.Option.{option_or}
use Rattle.rx_model.specs.Expression.{Expression, alternation, AreOrdered}
use Rattle.rx_model.specs.Meaning.{Means}
use Rattle.rx_model.specs.Runs.{Trace}
use Rattle.rx_model.specs.Search.{Patterns, told, Anchor, free, anchored, anchored_to, is_anchored, first, first_of_patterns}
use Rattle.rx_model.proofs.lemmas.graphs.GraphLemmas.{first-end, first-means}
use Rattle.rx_model.proofs.lemmas.matches.MatchLemmas.{first_of_patterns-some}
use Rattle.rx_model.proofs.lemmas.runs.FirstLemmas.{none-is-some, some-is}
use Rattle.rx_search.specs.Input.{InputValue}
use Rattle.rx_search.specs.Needles.{MeansSome, OneBegins, BeginsEachMatch}
use Rattle.rx_search.specs.declared.anchored.MatchKind.{MatchKind}
use Rattle.rx_search.specs.declared.anchored.MatchKind.TheVariants.{All, LeftmostFirst}
use Rattle.rx_hir.specs.Normal.{expressions}
use Rattle.rx_literal.specs.Extract.{prefixes_of}
use Rattle.rx_literal.specs.Literals.{Literal, Seq, infinite, finite, bytes_of}
use Rattle.rx_literal.specs.Spans.{BeginsWith, OneOf, OneIn}
use Rattle.rx_literal.proofs.lemmas.prefixes.BeginLemmas.{some-begins}
use Rattle.rx_literal.proofs.lemmas.trimming.TrimLemmas.{begins-with, trimmed-begins, sorted-begins}
use Rattle.rx_prefilter.specs.Choices.{choice_of}
use Rattle.rx_prefilter.specs.Prefixes.{trimmed, served_by}
use Rattle.rx_prefilter.specs.declared.choice.Choice.{Choice}
use Rattle.rx_nfa.specs.Nfa.{Nfa, IsNfaOf, HasFirstRuns}
use Rattle.rx_nfa.specs.NextMatch.{start_of, first_from}
use Rattle.rx_nfa.proofs.lemmas.runs.PatternLemmas.{HasRuns-first}
use Rattle.rx_engines.specs.Needles.{BeginsEachRun}
use Rattle.rx_strategy.specs.Config.{kind_of, auto_prefilter_of, prefilter_of}
use Rattle.rx_strategy.specs.Impossible.{is_always_anchored_start}
use Rattle.rx_strategy.specs.Prefilter.{automatic_prefilter, prefilter_for}
use Rattle.rx_strategy.specs.declared.config.Config.{Config}

-- one of the literals is one of the needles
listed : (text : List ℕ) (i j : ℕ) (ls : List Literal) → OneOf (BeginsWith text i j) ls → OneBegins text i j (map bytes_of ls)
listed text i j [] one = one
listed text i j (l ∷ ls) (inl here) = inl here
listed text i j (l ∷ ls) (inr later) = inr (listed text i j ls later)

module _ (r : Patterns) where
  served-begins : (needles : List (List ℕ)) (choice : Option Choice)
      → ((text : List ℕ) (i j : ℕ) → MeansSome r.terminator text r.expressions i j → OneBegins text i j needles)
      → BeginsEachMatch (option_map (λ (c : Choice). needles) choice) r
  served-begins needles None begins = tt
  served-begins needles (Some choice) begins = begins

  sequence-begins : (ss : Seq) → ((text : List ℕ) (i j : ℕ) → MeansSome r.terminator text r.expressions i j → OneIn (BeginsWith text i j) ss)
      → BeginsEachMatch (served_by ss) r
  sequence-begins infinite begins = tt
  sequence-begins (finite ls) begins = served-begins (map bytes_of ls) (choice_of (map bytes_of ls)) (λ text i j m. listed text i j ls (begins text i j m))

  trimmed-kind : (kind : MatchKind) (text : List ℕ) (i j : ℕ) → MeansSome r.terminator text r.expressions i j
      → OneIn (BeginsWith text i j) (trimmed kind (prefixes_of r.expressions))
  trimmed-kind All text i j m =
      begins-with text i j (trimmed All (prefixes_of r.expressions))
      (sorted-begins text i j (prefixes_of r.expressions) (some-begins text r.terminator r.expressions i j m))
  trimmed-kind LeftmostFirst text i j m =
      trimmed-begins text i j (prefixes_of r.expressions) (begins-with text i j (prefixes_of r.expressions) (some-begins text r.terminator r.expressions i j m))

  -- each match begins with one of the trimmed prefixes
  prefixes-begin : (kind : MatchKind) → BeginsEachMatch (served_by (trimmed kind (prefixes_of r.expressions))) r
  prefixes-begin kind = sequence-begins (trimmed kind (prefixes_of r.expressions)) (trimmed-kind kind)

  none-begins : (b : Bool) (o : Option (List (List ℕ))) → BeginsEachMatch o r → BeginsEachMatch (if b then o else None) r
  none-begins true o begins = begins
  none-begins false o begins = tt

  -- the one that was handed in, and else the other one
  first-begins : (given made : Option (List (List ℕ))) → BeginsEachMatch given r → BeginsEachMatch made r → BeginsEachMatch (option_or given made) r
  first-begins None made given-begins made-begins = made-begins
  first-begins (Some needles) made given-begins made-begins = given-begins

  unless-begins : (b : Bool) (o : Option (List (List ℕ))) → BeginsEachMatch o r → BeginsEachMatch (if b then None else o) r
  unless-begins true o begins = tt
  unless-begins false o begins = begins

  -- Each match begins with a needle of the prefilter that the patterns have, where each begins with one of the prefilter
  -- that was handed in, if one was.
  pub chosen-begins : (config : Config) → BeginsEachMatch (prefilter_of config) r → BeginsEachMatch (prefilter_for config r.expressions) r
  chosen-begins config given =
      unless-begins (is_always_anchored_start (alternation (expressions r.expressions)))
      (option_or (prefilter_of config) (automatic_prefilter config r.expressions))
      (first-begins (prefilter_of config) (automatic_prefilter config r.expressions) given
      (none-begins (auto_prefilter_of config) (served_by (trimmed (kind_of config) (prefixes_of r.expressions))) (prefixes-begin (kind_of config))))

-- one of the patterns means what its first run tells
some-means : (t : ℕ) (text : List ℕ) (i j : ℕ) (hs : List Expression) (k : ℕ) (h : Expression) → slice_get hs k ≡ Some h → Means t text h i j
    → MeansSome t text hs i j
some-means t text i j [] k h is m = none-is-some is
some-means t text i j (x ∷ hs) zero h is m = inl (subst (λ y. Means t text y i j) (sym (some-is is)) m)
some-means t text i j (x ∷ hs) (suc k) h is m = inr (some-means t text i j hs k h is m)

-- what is told of something is told
was-some : {A B : Type 0} (f : A → B) (o : Option A) → is_some (option_map f o) ≡ true → (x : A) × (o ≡ Some x)
was-some f None some = absurd (true≢false (sym some))
was-some f (Some x) some = (x, refl)

-- what begins a part of the span begins the span
begins-longer : (text : List ℕ) (i j k : ℕ) → j ≤ k → (needles : List (List ℕ)) → OneBegins text i j needles → OneBegins text i k needles
begins-longer text i j k le [] none = none
begins-longer text i j k le (needle ∷ needles) (inl here) = inl (here.0, let ends = here.1 in omega arith)
begins-longer text i j k le (needle ∷ needles) (inr later) = inr (begins-longer text i j k le needles later)

module _ (needles : List (List ℕ)) (nfa : Nfa) (r : Patterns) (v : InputValue) (of : IsNfaOf nfa r)
    (ordered : (p : ℕ) (h : Expression) → slice_get r.expressions p ≡ Some h → AreOrdered h)
    (within : v.end ≤ length v.haystack) (begins : BeginsEachMatch (Some needles) r) (i : ℕ) where
  runs : HasFirstRuns nfa r
  runs = HasRuns-first nfa r of.runs

  -- the first run of a pattern begins with a needle
  pattern-begins : (p k : ℕ) (h : Expression) → slice_get r.expressions k ≡ Some h → (t : Trace) → first r v.haystack v.end p h i ≡ Some t
      → OneBegins v.haystack i v.end needles
  pattern-begins p k h there t is =
      begins-longer v.haystack i t.end v.end (first-end r v.haystack v.end p h i t is).1 needles
      (begins v.haystack i t.end
      (some-means r.terminator v.haystack i t.end r.expressions k h there (first-means r v.haystack v.end p h (ordered k h there) i t is)))

  -- and so does the first of the patterns that has a run
  patterns-begin : (told_run : Option Trace) → told_run ≡ option_map (told r.which_captures) (first_of_patterns r v.haystack v.end 0 r.expressions i)
      → is_some told_run ≡ true → OneBegins v.haystack i v.end needles
  patterns-begin told_run is some =
      let x = was-some (told r.which_captures) (first_of_patterns r v.haystack v.end 0 r.expressions i) (ap is_some (sym is) ∙ some) in
      let y = first_of_patterns-some r v.haystack v.end i 0 r.expressions x.0 x.1 in
      pattern-begins (0 + y.0) y.0 y.1 y.2 x.0 y.3

  -- and the pattern that is asked for
  named-begins : (p : ℕ) (o : Option Expression) → slice_get r.expressions p ≡ o
      → is_some (first_from nfa.terminator nfa.states v.haystack v.end (slice_get nfa.starts p) i) ≡ true → OneBegins v.haystack i v.end needles
  named-begins p None e some =
      elim (slice_get_cases r.expressions p).1 [
        | inl there ↦ none-is-some (sym e ∙ there.2)
        | inr past ↦
            let le = past.0 in
            let same = runs.patterns in
            let gone : slice_get nfa.starts p ≡ None = slice_get_past nfa.starts p (omega arith) in
            absurd (true≢false (sym (sym (ap (λ s. is_some (first_from nfa.terminator nfa.states v.haystack v.end s i)) gone) ∙ some)))
      ]
  named-begins p (Some h) e some =
      let lt = slice_get_within r.expressions p h e in
      let same = runs.patterns in
      let start : slice_get nfa.starts p ≡ Some (get_or nfa.starts p 0) = slice_get-get_or nfa.starts p 0 (omega arith) in
      let run = sym (ap (λ s. first_from nfa.terminator nfa.states v.haystack v.end s i) start ∙ runs.each v.haystack v.end p i h within e) in
      let x = was-some (told r.which_captures) (first r v.haystack v.end p h i) (ap is_some run ∙ some) in
      pattern-begins p p h e x.0 x.1

  anchor-begins : (anchor : Anchor) → is_some (first_from nfa.terminator nfa.states v.haystack v.end (start_of nfa anchor) i) ≡ true
      → OneBegins v.haystack i v.end needles
  anchor-begins free some = patterns-begin _ (runs.all v.haystack v.end i within) some
  anchor-begins anchored some = patterns-begin _ (runs.all v.haystack v.end i within) some
  anchor-begins (anchored_to p) some = named-begins p (slice_get r.expressions p) refl some

-- Each run of the NFA of the patterns begins with a needle, where each match of them does. An anchored search asks nothing.
pub begins-run : (needles : Option (List (List ℕ))) (nfa : Nfa) (r : Patterns) (v : InputValue) → IsNfaOf nfa r
    → ((p : ℕ) (h : Expression) → slice_get r.expressions p ≡ Some h → AreOrdered h)
    → v.end ≤ length v.haystack → (is_anchored v.anchor ≡ false → BeginsEachMatch needles r) → BeginsEachRun needles nfa v
begins-run None nfa r v of ordered within begins = tt
begins-run (Some needles) nfa r v of ordered within begins =
    λ loose i low high some. anchor-begins needles nfa r v of ordered within (begins loose) i v.anchor some

-- which prefilter the patterns have, by the tests of the choice
module _ (config : Config) (hs : List Expression) where
  pub chosen-none : is_always_anchored_start (alternation (expressions hs)) ≡ true → None ≡ prefilter_for config hs
  chosen-none starts = rw starts refl

  pub chosen-given : (needles : List (List ℕ)) → is_always_anchored_start (alternation (expressions hs)) ≡ false → prefilter_of config ≡ Some needles
      → Some needles ≡ prefilter_for config hs
  chosen-given needles starts given = rw (starts, given) refl

  pub chosen-made : is_always_anchored_start (alternation (expressions hs)) ≡ false → prefilter_of config ≡ None
      → automatic_prefilter config hs ≡ prefilter_for config hs
  chosen-made starts given = rw (starts, given) refl
