use Rattle.std.proofs.Common.{◌≤◌, length, refl, sym, ap, ◌∙◌, subst, true≢false}
use Rattle.std.specs.Prelude.{true, Some, None}
use Rattle.rx_search.specs.Input.{InputValue}
use Rattle.rx_search.specs.Searcher.{AtEachPlace, IsAnsweredBy}
use Rattle.rx_meta.specs.Finder.{PromisesFor}
use Rattle.rx_meta.specs.Iterators.{MatchesValue, PromisesEach, IsReported, IsFoundIn, IsGiven, NoneIsFound}
use Rattle.rx_meta.specs.Regex.{RegexValue}
use Rattle.rx_meta.proofs.IteratorLemmas.{answers-within, left, Giving, NoneGiven, next-given, next-none}
use Rattle.rx_meta.proofs.find_matches.FindMatches.next.Goals as goal

pub returns-in-Ok-Some-clause-gives : goal.returns-in-Ok-Some-clause-gives
returns-in-Ok-Some-clause-gives c =
    let it = c.self.inside in
    let called = c.in-Ok-Some in
    let end = subst (λ (v : InputValue). v.end ≤ length v.haystack) c.input.ensures c.haystack-haystack.ensures.spanned.end in
    let regex = c.advance.new.finder.regex.now in
    subst (Giving IsReported called.found (left regex c.advance.new.self it.is_ended)) c.self.view_is
    (λ promised. next-given it.finder.regex.now regex (c.advance.ensures.stays it.finder refl) it.searcher c.advance.new.self it.is_ended
    c.if-self.false it.is_ended c.if-self.false called.found
    (rw called.field-0-is at (called.ensures.gives promised (answers-within it.finder.regex.now it.searcher.input end promised))))

pub returns-in-Ok-None-clause-gives : goal.returns-in-Ok-None-clause-gives
returns-in-Ok-None-clause-gives c =
    let it = c.self.inside in
    let called = c.in-Ok-None in
    let end = subst (λ (v : InputValue). v.end ≤ length v.haystack) c.input.ensures c.haystack-haystack.ensures.spanned.end in
    let regex = c.advance.new.finder.regex.now in
    subst (NoneGiven (left regex c.advance.new.self true)) c.self.view_is
    (λ promised. next-none it.finder.regex.now regex (c.advance.ensures.stays it.finder refl) it.searcher c.advance.new.self it.is_ended
    c.if-self.false (rw called.field-0-is at (called.ensures.gives promised (answers-within it.finder.regex.now it.searcher.input end promised))))

pub returns-then-self-clause-any : goal.returns-then-self-clause-any
returns-then-self-clause-any c going =
    absurd (true≢false (sym c.if-self.true ∙ ap (λ (it : MatchesValue). it.ended) c.self.view_is ∙ going))

pub returns-in-Ok-Some-clause-any : goal.returns-in-Ok-Some-clause-any
returns-in-Ok-Some-clause-any c _ =
    let it = c.self.inside in
    let called = c.in-Ok-Some in
    subst (λ (before : MatchesValue). IsGiven before called.found) c.self.view_is
    (subst (λ (r : RegexValue). IsAnsweredBy (IsFoundIn r) it.searcher (Some called.found)) (c.advance.ensures.stays it.finder refl)
    (rw called.field-0-is at called.ensures.any))

pub returns-in-Ok-None-clause-any : goal.returns-in-Ok-None-clause-any
returns-in-Ok-None-clause-any c _ =
    let it = c.self.inside in
    let called = c.in-Ok-None in
    subst NoneIsFound c.self.view_is
    (subst (λ (r : RegexValue). IsAnsweredBy (IsFoundIn r) it.searcher None) (c.advance.ensures.stays it.finder refl)
    (rw called.field-0-is at called.ensures.any))

pub returns-in-Ok-Some-clause-goes_on : goal.returns-in-Ok-Some-clause-goes_on
returns-in-Ok-Some-clause-goes_on c =
    subst (λ (it : MatchesValue). PromisesEach it → AtEachPlace (PromisesFor c.advance.new.finder.regex.now) c.advance.new.self.input) c.self.view_is
    c.advance.ensures.goes_on

pub returns-in-Ok-Some-clause-regex : goal.returns-in-Ok-Some-clause-regex
returns-in-Ok-Some-clause-regex c = c.advance.ensures.stays c.self.inside.finder refl ∙ ap (λ (it : MatchesValue). it.regex) c.self.view_is

pub returns-in-Ok-None-clause-goes_on : goal.returns-in-Ok-None-clause-goes_on
returns-in-Ok-None-clause-goes_on c =
    subst (λ (it : MatchesValue). PromisesEach it → AtEachPlace (PromisesFor c.advance.new.finder.regex.now) c.advance.new.self.input) c.self.view_is
    c.advance.ensures.goes_on

pub returns-in-Ok-None-clause-regex : goal.returns-in-Ok-None-clause-regex
returns-in-Ok-None-clause-regex c = c.advance.ensures.stays c.self.inside.finder refl ∙ ap (λ (it : MatchesValue). it.regex) c.self.view_is

pub returns-in-Err-clause-goes_on : goal.returns-in-Err-clause-goes_on
returns-in-Err-clause-goes_on c =
    subst (λ (it : MatchesValue). PromisesEach it → AtEachPlace (PromisesFor c.advance.new.finder.regex.now) c.advance.new.self.input) c.self.view_is
    c.advance.ensures.goes_on

pub returns-in-Err-clause-regex : goal.returns-in-Err-clause-regex
returns-in-Err-clause-regex c = c.advance.ensures.stays c.self.inside.finder refl ∙ ap (λ (it : MatchesValue). it.regex) c.self.view_is
