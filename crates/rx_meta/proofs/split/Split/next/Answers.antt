use Rattle.std.proofs.Common.{◌≡◌, ℕ, suc, ◌≤◌, List, length, refl, ap, ◌∙◌, subst, inl, inr, arith}
use Rattle.std.specs.Prelude.{Some, None, Ok}
use Rattle.rx_search.specs.Input.{InputValue}
use Rattle.rx_memory.specs.declared.memory.Memory.{Memory}
use Rattle.rx_search.specs.declared.span.Span.{Span}
use Rattle.rx_meta.specs.Gaps.{span_between}
use Rattle.rx_meta.specs.Iterators.{SplitValue, PromisesEach, RestsWithin, text_len, gaps_to_come, pieces_up_to, GivesFirst, IsSpan, IsPieceOf, IsCut}
use Rattle.rx_meta.proofs.IteratorLemmas.{split-gap, split-piece, split-rest, split-rest_piece}
use Rattle.rx_meta.proofs.split.Split.next.Goals as goal

pub returns-in-Some-Ok-clause-piece : goal.returns-in-Some-Ok-clause-piece
returns-in-Some-Ok-clause-piece c =
    let found = c.in-Some-Ok.found in
    let v = c.self.inside.matches.searcher.input in
    let lies = rw c.in-Some-Ok.field-0-is at c.in-Some-Ok.ensures.within in
    let rests = subst (RestsWithin c.self.inside.matches) c.in-Some.is c.self.invariant in
    let low : c.in-Some.start ≤ v.start = rests.0 in
    let from : v.start ≤ found.start = lies.0 in
    let high : found.end ≤ v.end = lies.1 in
    let order : found.start ≤ found.end = c.end.ensures.in_order in
    let end : v.end ≤ length v.haystack = subst (λ (i : InputValue). i.end ≤ length i.haystack) c.input.ensures c.haystack-haystack.ensures.spanned.end in
    let is : c.start.result ≡ found.start = c.start.ensures.value in
    subst (λ (s : SplitValue). IsPieceOf (text_len s) (span_between (c.in-Some.start, c.start.result))) c.self.view_is
    (record { in_order = omega arith; within = omega arith })

pub returns-in-Some-Ok-clause-any : goal.returns-in-Some-Ok-clause-any
returns-in-Some-Ok-clause-any c =
    let after : SplitValue = record { matches = c.next.new.self; rest = Some c.end.result } in
    let span : Span = record { start = c.in-Some.start; end = c.start.result } in
    let rests = subst (RestsWithin c.self.inside.matches) c.in-Some.is c.self.invariant in
    subst (λ (s : SplitValue). IsCut s after span) c.self.view_is
    (inl (
      c.in-Some-Ok.found,
      rw c.in-Some-Ok.field-0-is at (c.in-Some-Ok.ensures.any rests.2),
      c.start.ensures.value,
      ap Some c.end.ensures.value,
      rw c.in-Some-Ok.field-0-is at c.in-Some-Ok.ensures.moved,
    ))

pub returns-in-None-clause-any : goal.returns-in-None-clause-any
returns-in-None-clause-any c =
    let after : SplitValue = record { matches = c.next.new.self; rest = None } in
    let rests = subst (RestsWithin c.self.inside.matches) c.in-Some.is c.self.invariant in
    subst (λ (s : SplitValue). IsCut s after c.rest_from-last.result) c.self.view_is
    (inr (
      c.in-None.ensures.any rests.2,
      ap (λ (s : Span). s.end) c.rest_from-last.ensures ∙ ap length c.next.ensures.haystack,
      refl,
      c.in-None.ensures.moved,
    ))

pub returns-in-Some-Ok-clause-gives : goal.returns-in-Some-Ok-clause-gives
returns-in-Some-Ok-clause-gives c =
    let before : SplitValue = record { matches = c.self.inside.matches; rest = c.self.inside.rest } in
    let after : SplitValue = record { matches = c.next.new.self; rest = Some c.end.result } in
    let span : Span = record { start = c.in-Some.start; end = c.start.result } in
    subst (λ (s : SplitValue). PromisesEach s.matches → GivesFirst {E = Memory} IsSpan (gaps_to_come s) (gaps_to_come after) (Ok span)) c.self.view_is
    (λ promised. split-gap before after c.in-Some.start c.in-Some.is c.in-Some-Ok.found span
    (ap (λ (k : ℕ). span_between (c.in-Some.start, k)) c.start.ensures.value) (ap Some c.end.ensures.value) (ap length c.next.ensures.haystack)
    (rw c.in-Some-Ok.field-0-is at (c.in-Some-Ok.ensures.gives promised)))

pub returns-in-Some-Ok-clause-pieces : goal.returns-in-Some-Ok-clause-pieces
returns-in-Some-Ok-clause-pieces c n =
    let before : SplitValue = record { matches = c.self.inside.matches; rest = c.self.inside.rest } in
    let after : SplitValue = record { matches = c.next.new.self; rest = Some c.end.result } in
    let span : Span = record { start = c.in-Some.start; end = c.start.result } in
    subst
    (λ (s : SplitValue). PromisesEach s.matches
    → GivesFirst {E = Memory} IsSpan (pieces_up_to (suc (suc n)) s) (pieces_up_to (suc n) after) (Ok span))
    c.self.view_is
    (λ promised. split-piece before after c.in-Some.start c.in-Some.is c.in-Some-Ok.found span
    (ap (λ (k : ℕ). span_between (c.in-Some.start, k)) c.start.ensures.value) (ap Some c.end.ensures.value) (ap length c.next.ensures.haystack)
    (rw c.in-Some-Ok.field-0-is at (c.in-Some-Ok.ensures.gives promised)) n)

pub returns-in-None-clause-gives : goal.returns-in-None-clause-gives
returns-in-None-clause-gives c =
    let before : SplitValue = record { matches = c.self.inside.matches; rest = c.self.inside.rest } in
    let after : SplitValue = record { matches = c.next.new.self; rest = None } in
    subst (λ (s : SplitValue). PromisesEach s.matches → GivesFirst {E = Memory} IsSpan (gaps_to_come s) (gaps_to_come after) (Ok c.rest_from-last.result))
    c.self.view_is
    (λ promised. split-rest before after c.in-Some.start c.in-Some.is c.rest_from-last.result
    (c.rest_from-last.ensures ∙ ap (λ (text : List ℕ). span_between (c.in-Some.start, length text)) c.next.ensures.haystack) refl
    (c.in-None.ensures.gives promised).0)

pub returns-in-None-clause-pieces : goal.returns-in-None-clause-pieces
returns-in-None-clause-pieces c n =
    let before : SplitValue = record { matches = c.self.inside.matches; rest = c.self.inside.rest } in
    let after : SplitValue = record { matches = c.next.new.self; rest = None } in
    subst
    (λ (s : SplitValue). PromisesEach s.matches
    → GivesFirst {E = Memory} IsSpan (pieces_up_to (suc (suc n)) s) (pieces_up_to (suc n) after) (Ok c.rest_from-last.result))
    c.self.view_is
    (λ promised. split-rest_piece before after c.in-Some.start c.in-Some.is c.rest_from-last.result
    (c.rest_from-last.ensures ∙ ap (λ (text : List ℕ). span_between (c.in-Some.start, length text)) c.next.ensures.haystack) refl n
    (c.in-None.ensures.gives promised).0)

pub returns-in-Some-Ok-clause-goes_on : goal.returns-in-Some-Ok-clause-goes_on
returns-in-Some-Ok-clause-goes_on c = subst (λ (s : SplitValue). PromisesEach s.matches → PromisesEach c.next.new.self) c.self.view_is c.next.ensures.goes_on

pub returns-in-Some-Err-clause-goes_on : goal.returns-in-Some-Err-clause-goes_on
returns-in-Some-Err-clause-goes_on c = subst (λ (s : SplitValue). PromisesEach s.matches → PromisesEach c.next.new.self) c.self.view_is c.next.ensures.goes_on

pub returns-in-None-clause-goes_on : goal.returns-in-None-clause-goes_on
returns-in-None-clause-goes_on c = subst (λ (s : SplitValue). PromisesEach s.matches → PromisesEach c.next.new.self) c.self.view_is c.next.ensures.goes_on
