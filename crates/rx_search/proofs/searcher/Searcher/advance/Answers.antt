use Rattle.std.proofs.Common.{◌≡◌, ◌<◌, ◌∙◌, ap, sym, subst}
use Rattle.std.proofs.lemmas.Result.{err_from_is_err_and}
use Rattle.std.specs.Prelude.{IfSome, Some}
use Rattle.rx_search.specs.Input.{InputValue, from_place}
use Rattle.rx_search.specs.Told.{LiesIn}
use Rattle.rx_search.specs.Searcher.{SearcherValue}
use Rattle.rx_search.proofs.SearcherLemmas.{gives-none, gives-some, places-fall}
use Rattle.rx_search.proofs.searcher.Searcher.advance.Given.{Over}
use Rattle.rx_search.proofs.searcher.Searcher.advance.Goals as goal

-- the input of the next search
next-input : (g : Over) (c : goal.After-self-1 g) → c.set_start.new.self ≡ from_place c.in-Some.found.end c.args.self.now.input
next-input g c = c.set_start.ensures ∙ ap (λ n. from_place n c.self.inside.input) c.end.ensures.value
    ∙ ap (λ (s : SearcherValue). from_place c.in-Some.found.end s.input) c.self.view_is

pub returns-in_default-clause-gives : goal.returns-in_default-clause-gives
returns-in_default-clause-gives g c = λ promised answers. gives-none _ _ c.in_default.is (c.in_ok-found.ensures.answer promised)

pub returns-clause-gives : goal.returns-clause-gives
returns-clause-gives g c = λ promised answers.
    let within : LiesIn c.args.self.now.input c.in-Some.found = rw c.in-Some.is at c.in_ok-found.ensures.within in
    let later : IfSome c.args.self.now.last_end (λ last. last < c.in-Some.found.end) = rw c.in-Some.is at c.in_ok-found.ensures.later in
    gives-some _ _ answers c.in-Some.is (c.in_ok-found.ensures.answer promised) (λ j. record { input = next-input g c j; last_end = Some (c.end-2.ensures.value j) })
    (places-fall c.args.self.now c.in-Some.found later within.0 c.end.ensures.in_order within.1)

pub returns-clause-answer : goal.returns-clause-answer
returns-clause-answer g c = λ promised. sym c.in-Some.is ∙ c.in_ok-found.ensures.answer promised

pub returns-clause-any : goal.returns-clause-any
returns-clause-any g c = rw c.in-Some.is at c.in_ok-found.ensures.any

pub returns-clause-within : goal.returns-clause-within
returns-clause-within g c = rw c.in-Some.is at c.in_ok-found.ensures.within

pub returns-clause-told : goal.returns-clause-told
returns-clause-told g c = c.in_ok-found.ensures.told

pub returns-clause-can_go_on : goal.returns-clause-can_go_on
returns-clause-can_go_on g c = λ i.
    subst (λ (v : InputValue). g.F.Finder.can_search c.find_next.new.finder (from_place i v)) (sym (next-input g c)) (c.find_next.ensures.still_can _ (c.requires i))

pub returns-clause-goes_on : goal.returns-clause-goes_on
returns-clause-goes_on g c = λ promised i.
    subst (λ (v : InputValue). g.F.Finder.promises c.find_next.new.finder (from_place i v)) (sym (next-input g c)) (c.find_next.ensures.still_promises _ (promised i))

pub returns-clause-moved : goal.returns-clause-moved
returns-clause-moved g c = λ j. record { input = next-input g c j; last_end = Some (c.end-2.ensures.value j) }

pub returns-in_default-clause-answer : goal.returns-in_default-clause-answer
returns-in_default-clause-answer g c = λ promised. sym c.in_default.is ∙ c.in_ok-found.ensures.answer promised

pub returns-in_default-clause-any : goal.returns-in_default-clause-any
returns-in_default-clause-any g c = rw c.in_default.is at c.in_ok-found.ensures.any

pub returns-in_default-clause-none : goal.returns-in_default-clause-none
returns-in_default-clause-none g c = rw c.in_default.is at c.in_ok-found.ensures.none

pub returns-in_default-clause-told : goal.returns-in_default-clause-told
returns-in_default-clause-told g c = c.in_ok-found.ensures.told

pub returns-in_default-clause-can_go_on : goal.returns-in_default-clause-can_go_on
returns-in_default-clause-can_go_on g c = λ i. c.find_next.ensures.still_can _ (c.requires i)

pub returns-in_default-clause-goes_on : goal.returns-in_default-clause-goes_on
returns-in_default-clause-goes_on g c = λ promised i. c.find_next.ensures.still_promises _ (promised i)

pub returns-in_err-found-clause-can_go_on : goal.returns-in_err-found-clause-can_go_on
returns-in_err-found-clause-can_go_on g c = λ i. c.find_next.ensures.still_can _ (c.requires i)

pub returns-in_err-found-clause-goes_on : goal.returns-in_err-found-clause-goes_on
returns-in_err-found-clause-goes_on g c = λ promised i. c.find_next.ensures.still_promises _ (promised i)

pub returns-in_err-found-clause-cause : goal.returns-in_err-found-clause-cause
returns-in_err-found-clause-cause g c =
    let p = err_from_is_err_and c.from_residual.result c.from_residual.ensures.1 in
    rw (p.1, p.2) c.in_err-found.ensures.cause
