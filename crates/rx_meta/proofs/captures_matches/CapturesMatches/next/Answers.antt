use Rattle.std.proofs.Common.{◌≡◌, ◌≤◌, length, refl, sym, ap, ◌∙◌, subst, true≢false}
use Rattle.std.proofs.lemmas.Result.{IfOk-weaker}
use Rattle.std.specs.Prelude.{true, Some, None, IfOk}
use Rattle.rx_search.specs.Captures.{CapturesValue}
use Rattle.rx_search.specs.GroupInfo.{slot_count}
use Rattle.rx_search.specs.Input.{InputValue}
use Rattle.rx_search.specs.Searcher.{AtEachPlace, IsAnsweredBy}
use Rattle.rx_meta.specs.Captures.{AreOfMatch, IsToldWith}
use Rattle.rx_meta.specs.Finder.{PromisesFor}
use Rattle.rx_meta.specs.Iterators.{MatchesValue, PromisesEach, matches_to_come, GivesFirst, AreGiven, IsFoundIn, NoneIsFound}
use Rattle.rx_meta.specs.Regex.{RegexValue, groups_in}
use Rattle.rx_meta.proofs.IteratorLemmas.{answers-within, left, NoneGiven, next-none, captures-given, none-found}
use Rattle.rx_meta.proofs.captures_matches.CapturesMatches.next.Goals as goal

pub returns-in-Ok-Some-clause-gives : goal.returns-in-Ok-Some-clause-gives
returns-in-Ok-Some-clause-gives c =
    let it = c.self.inside in
    let called = c.in-Ok-Some in
    let end = subst (λ (v : InputValue). v.end ≤ length v.haystack) c.input.ensures c.haystack-haystack.ensures.spanned.end in
    let regex = c.advance.new.finder.regex.now in
    subst
    (λ (before : MatchesValue). PromisesEach before
    → GivesFirst AreOfMatch (matches_to_come before) (left regex c.advance.new.self c.is_err-self-inside.result) c.clone-given.result)
    c.self.view_is
    (λ promised. captures-given it.finder.regex.now regex (c.advance.ensures.stays it.finder refl) it.searcher c.advance.new.self it.is_ended
    c.if-self.false c.advance.new.finder.captures called._found c.clone-given.result c.is_err-self-inside.result c.clone-given.ensures
    c.is_err-self-inside.ensures.value
    (rw called.field-0-is at (called.ensures.gives promised (answers-within it.finder.regex.now it.searcher.input end promised)))
    (called.ensures.told promised))

pub returns-in-Ok-None-clause-gives : goal.returns-in-Ok-None-clause-gives
returns-in-Ok-None-clause-gives c =
    let it = c.self.inside in
    let called = c.in-Ok-None in
    let end = subst (λ (v : InputValue). v.end ≤ length v.haystack) c.input.ensures c.haystack-haystack.ensures.spanned.end in
    let regex = c.advance.new.finder.regex.now in
    subst (NoneGiven (left regex c.advance.new.self true)) c.self.view_is
    (λ promised. next-none it.finder.regex.now regex (c.advance.ensures.stays it.finder refl) it.searcher c.advance.new.self it.is_ended
    c.if-self.false (rw called.field-0-is at (called.ensures.gives promised (answers-within it.finder.regex.now it.searcher.input end promised))))

pub returns-in-Ok-Some-clause-groups : goal.returns-in-Ok-Some-clause-groups
returns-in-Ok-Some-clause-groups c =
    let regex = c.advance.ensures.stays c.self.inside.finder refl ∙ ap (λ (it : MatchesValue). it.regex) c.self.view_is in
    IfOk-weaker c.clone-given.result _ _
    (λ given is. ap (λ (k : CapturesValue). k.groups) is ∙ c.advance.new.finder.groups ∙ ap groups_in regex) c.clone-given.ensures

pub returns-in-Ok-Some-clause-slots : goal.returns-in-Ok-Some-clause-slots
returns-in-Ok-Some-clause-slots c =
    let regex = c.advance.ensures.stays c.self.inside.finder refl ∙ ap (λ (it : MatchesValue). it.regex) c.self.view_is in
    IfOk-weaker c.clone-given.result _ _
    (λ given is. ap (λ (k : CapturesValue). length k.slots) is ∙ c.advance.new.finder.wide
    ∙ ap (λ (r : RegexValue). slot_count (groups_in r)) regex)
    c.clone-given.ensures

pub returns-then-self-clause-any : goal.returns-then-self-clause-any
returns-then-self-clause-any c going =
    absurd (true≢false (sym c.if-self.true ∙ ap (λ (it : MatchesValue). it.ended) c.self.view_is ∙ going))

pub returns-in-Ok-Some-clause-any : goal.returns-in-Ok-Some-clause-any
returns-in-Ok-Some-clause-any c _ =
    let it = c.self.inside in
    let called = c.in-Ok-Some in
    let after : MatchesValue = record { regex = c.advance.new.finder.regex.now; searcher = c.advance.new.self; ended = c.is_err-self-inside.result } in
    subst (λ (before : MatchesValue). IfOk c.clone-given.result (AreGiven before after)) c.self.view_is
    (IfOk-weaker c.clone-given.result _ _
    (λ given is. (
      called._found,
      rw called.field-0-is at called.ensures.moved,
      rw called.field-0-is at called.ensures.within,
      subst (λ (k : CapturesValue). IsAnsweredBy (λ v found. IsToldWith it.finder.regex.now v k found) it.searcher (Some called._found)) (sym is)
          (subst (λ (r : RegexValue). IsAnsweredBy (λ v found. IsToldWith r v c.advance.new.finder.captures found) it.searcher (Some called._found))
          (c.advance.ensures.stays it.finder refl) (rw called.field-0-is at called.ensures.any)),
    ))
    c.clone-given.ensures)

pub returns-in-Ok-None-clause-any : goal.returns-in-Ok-None-clause-any
returns-in-Ok-None-clause-any c _ =
    let it = c.self.inside in
    let called = c.in-Ok-None in
    subst (λ (before : MatchesValue). (c.advance.new.self ≡ before.searcher) × NoneIsFound before) c.self.view_is (
      rw called.field-0-is at called.ensures.moved,
      subst (λ (r : RegexValue). IsAnsweredBy (IsFoundIn r) it.searcher None) (c.advance.ensures.stays it.finder refl)
          (none-found c.advance.new.finder.regex.now c.advance.new.finder.captures it.searcher (rw called.field-0-is at called.ensures.any)),
    )

pub returns-in-Ok-Some-clause-goes_on : goal.returns-in-Ok-Some-clause-goes_on
returns-in-Ok-Some-clause-goes_on c =
    subst (λ (it : MatchesValue). PromisesEach it → AtEachPlace (PromisesFor c.advance.new.finder.regex.now) c.advance.new.self.input) c.self.view_is
    c.advance.ensures.goes_on

pub returns-in-Ok-Some-clause-regex : goal.returns-in-Ok-Some-clause-regex
returns-in-Ok-Some-clause-regex c = c.advance.ensures.stays c.self.inside.finder refl ∙ ap (λ (it : MatchesValue). it.regex) c.self.view_is

pub returns-in-Ok-None-clause-goes_on : goal.returns-in-Ok-None-clause-goes_on
returns-in-Ok-None-clause-goes_on c =
    subst (λ (it : MatchesValue). PromisesEach it → AtEachPlace (PromisesFor c.advance.new.finder.regex.now) c.advance.new.self.input) c.self.view_is
    c.advance.ensures.goes_on

pub returns-in-Ok-None-clause-regex : goal.returns-in-Ok-None-clause-regex
returns-in-Ok-None-clause-regex c = c.advance.ensures.stays c.self.inside.finder refl ∙ ap (λ (it : MatchesValue). it.regex) c.self.view_is

pub returns-in-Err-clause-goes_on : goal.returns-in-Err-clause-goes_on
returns-in-Err-clause-goes_on c =
    subst (λ (it : MatchesValue). PromisesEach it → AtEachPlace (PromisesFor c.advance.new.finder.regex.now) c.advance.new.self.input) c.self.view_is
    c.advance.ensures.goes_on

pub returns-in-Err-clause-regex : goal.returns-in-Err-clause-regex
returns-in-Err-clause-regex c = c.advance.ensures.stays c.self.inside.finder refl ∙ ap (λ (it : MatchesValue). it.regex) c.self.view_is
