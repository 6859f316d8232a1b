-- Where needles lie in a text, and the first of them that a search finds.
use Rattle.std.specs.Prelude.{◌≡◌, ℕ, zero, suc, ◌+◌, ◌-◌, ◌≤◌, List, [], ◌∷◌, length, take, Option, None, Some, MatchOption, if◌then◌else◌}
use Rattle.std.specs.Option.{option_or}
use Rattle.memchr.specs.Find.{occurs_at}
use Rattle.rx_search.specs.declared.span.Span.{Span}

-- where the needle lies that begins at place `at`
abbrev pub needle_span : List ℕ → ℕ → Span
needle_span needle at = record { start = at; end = at + length needle }

-- where the first needle of the list lies that begins at place `at`
unfoldable pub span_at : List (List ℕ) → List ℕ → ℕ → Option Span
span_at [] text at = None
span_at (needle ∷ needles) text at = if occurs_at text needle at then Some (needle_span needle at) else span_at needles text at

-- the same at the least of the n places from `from` on at which a needle begins
unfoldable pub span_among : List (List ℕ) → List ℕ → ℕ → ℕ → Option Span
span_among needles text from zero = None
span_among needles text from (suc n) = option_or (span_at needles text from) (span_among needles text (from + 1) n)

-- the same at the least place from `from` on
abbrev pub first_span : List (List ℕ) → List ℕ → ℕ → Option Span
first_span needles text from = span_among needles text from (length text + 1 - from)

-- what a search of a part of the text finds: the needle begins and ends in that part
abbrev pub find_in : List (List ℕ) → List ℕ → Span → Option Span
find_in needles text part = first_span needles (take part.end text) part.start

-- the same of a needle that begins where the part does
abbrev pub prefix_in : List (List ℕ) → List ℕ → Span → Option Span
prefix_in needles text part = span_at needles (take part.end text) part.start

-- a part of the text
pub record IsPart (text : List ℕ) (part : Span) : Type 0 where
  pub ordered : part.start ≤ part.end
  pub within : part.end ≤ length text

-- a needle begins at place `at`, and this is where the first of the list lies
abbrev pub LiesAt : List (List ℕ) → List ℕ → Span → Type 0
LiesAt needles text span = span_at needles text span.start ≡ Some span

-- no needle of the list begins at place `at`
abbrev pub NoneLies : List (List ℕ) → List ℕ → ℕ → Type 0
NoneLies needles text at = span_at needles text at ≡ None

-- What a search from place `from` on answers: nothing, where no needle begins there or later; else where a needle lies
-- before which none begins, the first of the list among those at its place.
abbrev pub IsFirstSpan : List (List ℕ) → List ℕ → ℕ → Option Span → Type 0
IsFirstSpan needles text from r = MatchOption r
    ((at : ℕ) → from ≤ at → at ≤ length text → NoneLies needles text at)
    (λ span. (from ≤ span.start) × ((at : ℕ) → from ≤ at → at + 1 ≤ span.start → NoneLies needles text at) × LiesAt needles text span)
