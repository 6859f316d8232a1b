use Rattle.std.proofs.Common.{◌≡◌, ◌+◌, true, sym, ◌∙◌, ap, subst, inl, inr}
use Rattle.std.proofs.lemmas.Result.{err_from_is_err_and, IfOk-from_err, IfOk-weaker}
use Rattle.std.specs.Prelude.{ℕ, ◌⊎◌, ◌≢◌, Option, None, Some, IfOk, OnOk, option_map}
use Rattle.rx_model.specs.Search.{Match, is_empty_at}
use Rattle.rx_search.specs.Matches.{match_value}
use Rattle.rx_search.specs.Input.{InputValue, from_place}
use Rattle.rx_search.specs.Told.{LiesIn}
use Rattle.rx_search.specs.Searcher.{SearcherValue, upcoming, AtEachPlace}
use Rattle.rx_search.proofs.FindLemmas.{found-none, found-apart, found-empty, IfErr-weaker, at-place, next-first, next-here, next-behind, later-here, within-behind}
use Rattle.rx_search.proofs.searcher.Searcher.find_next.Given.{Over}
use Rattle.rx_search.proofs.searcher.Searcher.find_next.Goals.{then-start-last-via-then-start-last, then-start-last-via-else-start-last+then-end-last}
use Rattle.rx_search.proofs.searcher.Searcher.find_next.Goals as goal

pub find-requires : goal.find-requires
find-requires g c = at-place (g.F.Finder.can_search c.args.finder.now) c.self.view_is c.requires c.self.inside.input.start

pub returns-in_err-found-clause-answer : goal.returns-in_err-found-clause-answer
returns-in_err-found-clause-answer g c = λ promised. IfOk-from_err c.from_residual.result _ c.from_residual.ensures.0

pub returns-in_err-found-clause-within : goal.returns-in_err-found-clause-within
returns-in_err-found-clause-within g c = IfOk-from_err c.from_residual.result _ c.from_residual.ensures.0

pub returns-in_err-found-clause-later : goal.returns-in_err-found-clause-later
returns-in_err-found-clause-later g c = IfOk-from_err c.from_residual.result _ c.from_residual.ensures.0

pub returns-in_err-found-clause-cause : goal.returns-in_err-found-clause-cause
returns-in_err-found-clause-cause g c =
    let fails = g.F.Finder.fails c.args.finder.now in
    let p = err_from_is_err_and c.from_residual.result c.from_residual.ensures.1 in
    let C : SearcherValue → Type 0 = λ s. fails s.input c.in_err-found.field-0.0 in
    rw (p.1, p.2) (inl (subst C c.self.view_is c.in_err-found.ensures.err))

pub returns-in_err-found-clause-any : goal.returns-in_err-found-clause-any
returns-in_err-found-clause-any g c = IfOk-from_err c.from_residual.result _ c.from_residual.ensures.0

pub returns-in_err-found-clause-none : goal.returns-in_err-found-clause-none
returns-in_err-found-clause-none g c = IfOk-from_err c.from_residual.result _ c.from_residual.ensures.0

pub returns-in_err-found-clause-silent : goal.returns-in_err-found-clause-silent
returns-in_err-found-clause-silent g c =
    let p = err_from_is_err_and c.from_residual.result c.from_residual.ensures.1 in
    rw p.1 c.in_err-found.ensures.silent

pub returns-in_err-found-clause-told : goal.returns-in_err-found-clause-told
returns-in_err-found-clause-told g c = λ promised. IfOk-from_err c.from_residual.result (λ _. _) c.from_residual.ensures.0

pub returns-in_default-clause-answer : goal.returns-in_default-clause-answer
returns-in_default-clause-answer g c = λ promised.
    let start = at-place (g.F.Finder.promises c.args.finder.now) c.self.view_is promised c.self.inside.input.start in
    c.in_ok-found.ensures.answer start
    ∙ ap (option_map match_value) (sym (next-first (g.F.Finder.searches c.args.finder.now) c.self.view_is c.in_default.is))

pub returns-in_default-clause-any : goal.returns-in_default-clause-any
returns-in_default-clause-any g c =
    inl (subst (λ (s : SearcherValue). g.F.Finder.answers c.find.new.self s.input c.in_ok-found.found) c.self.view_is c.in_ok-found.ensures.any)

pub returns-in_default-clause-told : goal.returns-in_default-clause-told
returns-in_default-clause-told g c = λ promised.
    let start = at-place (g.F.Finder.promises c.args.finder.now) c.self.view_is promised c.self.inside.input.start in
    subst (g.F.Finder.tells c.find.new.self) (sym (next-first (g.F.Finder.searches c.args.finder.now) c.self.view_is c.in_default.is))
    (c.in_ok-found.ensures.told start)

pub returns-in_default-found-clause-answer : goal.returns-in_default-found-clause-answer
returns-in_default-found-clause-answer g c = λ promised.
    let searches = g.F.Finder.searches c.args.finder.now in
    let start = at-place (g.F.Finder.promises c.args.finder.now) c.self.view_is promised c.self.inside.input.start in
    let answer = c.in_ok-found.ensures.answer start in
    sym c.in_default-found.is ∙ answer
    ∙ ap (option_map match_value) (sym (next-here searches c.self.view_is c.self.invariant c.in-Some.is
    (found-none c.in-Some.last (searches c.self.inside.input) c.in_default-found.is answer)))

pub returns-in_default-found-clause-any : goal.returns-in_default-found-clause-any
returns-in_default-found-clause-any g c =
    let any = rw c.in_default-found.is at c.in_ok-found.ensures.any in
    inl (subst (λ (s : SearcherValue). g.F.Finder.answers c.find.new.self s.input None) c.self.view_is any)

pub returns-in_default-found-clause-none : goal.returns-in_default-found-clause-none
returns-in_default-found-clause-none g c = rw c.in_default-found.is at c.in_ok-found.ensures.none

pub returns-in_default-found-clause-told : goal.returns-in_default-found-clause-told
returns-in_default-found-clause-told g c = λ promised.
    let searches = g.F.Finder.searches c.args.finder.now in
    let start = at-place (g.F.Finder.promises c.args.finder.now) c.self.view_is promised c.self.inside.input.start in
    subst (g.F.Finder.tells c.find.new.self) (sym (next-here searches c.self.view_is c.self.invariant c.in-Some.is
    (found-none c.in-Some.last (searches c.self.inside.input) c.in_default-found.is (c.in_ok-found.ensures.answer start)))) (c.in_ok-found.ensures.told start)

-- what was found is not the empty match at the end of the last match
apart : (g : Over) (c : goal.Joined-then-start-last g) → (c.in-Some-found.first.start ≢ c.in-Some.last) ⊎ (c.in-Some-found.first.end ≢ c.in-Some.last)
apart g c = elim c.then-start-last.branch [
  | then-start-last-via-then-start-last w ↦ inl (subst (λ (n : ℕ). n ≢ c.in-Some.last) c.start.ensures.value w.if-start-last.true)
  | then-start-last-via-else-start-last+then-end-last w ↦ inr (subst (λ (n : ℕ). n ≢ c.in-Some.last) w.end.ensures.value w.if-end-last.true)
]

pub returns-then-start-last-clause-answer : goal.returns-then-start-last-clause-answer
returns-then-start-last-clause-answer g c = λ promised.
    let searches = g.F.Finder.searches c.args.finder.now in
    let start = at-place (g.F.Finder.promises c.args.finder.now) c.self.view_is promised c.self.inside.input.start in
    let answer = c.in_ok-found.ensures.answer start in
    sym c.in-Some-found.is ∙ answer
    ∙ ap (option_map match_value) (sym (next-here searches c.self.view_is c.self.invariant c.in-Some.is
    (found-apart c.in-Some.last (searches c.self.inside.input) c.in-Some-found.is answer (apart g c))))

pub returns-then-start-last-clause-within : goal.returns-then-start-last-clause-within
returns-then-start-last-clause-within g c =
    let within : LiesIn c.self.inside.input c.in-Some-found.first = rw c.in-Some-found.is at c.in_ok-found.ensures.within in
    subst (λ (s : SearcherValue). LiesIn s.input c.in-Some-found.first) c.self.view_is within

pub returns-then-start-last-clause-later : goal.returns-then-start-last-clause-later
returns-then-start-last-clause-later g c =
    let within : LiesIn c.self.inside.input c.in-Some-found.first = rw c.in-Some-found.is at c.in_ok-found.ensures.within in
    later-here (g.F.Finder.searches c.args.finder.now) c.self.view_is c.self.invariant c.in-Some.is c.in-Some-found.first within c.start.ensures.in_order (apart g c)

pub returns-then-start-last-clause-any : goal.returns-then-start-last-clause-any
returns-then-start-last-clause-any g c =
    let any = rw c.in-Some-found.is at c.in_ok-found.ensures.any in
    inl (subst (λ (s : SearcherValue). g.F.Finder.answers c.find.new.self s.input (Some c.in-Some-found.first)) c.self.view_is any)

pub returns-then-start-last-clause-told : goal.returns-then-start-last-clause-told
returns-then-start-last-clause-told g c = λ promised.
    let searches = g.F.Finder.searches c.args.finder.now in
    let start = at-place (g.F.Finder.promises c.args.finder.now) c.self.view_is promised c.self.inside.input.start in
    subst (g.F.Finder.tells c.find.new.self) (sym (next-here searches c.self.view_is c.self.invariant c.in-Some.is
    (found-apart c.in-Some.last (searches c.self.inside.input) c.in-Some-found.is (c.in_ok-found.ensures.answer start) (apart g c))))
    (c.in_ok-found.ensures.told start)

pub find-requires-2 : goal.find-requires-2
find-requires-2 g c =
    let P : InputValue → Type 0 = λ v. g.F.Finder.can_search c.find.new.self v in
    let same : from_place (c.in-Some.last + 1) c.args.self.now.input ≡ c.set_start.new.self =
    ap (λ (s : SearcherValue). from_place (c.in-Some.last + 1) s.input) (sym c.self.view_is)
    ∙ ap (from_place (c.in-Some.last + 1)) (sym c.clone-further.ensures.value)
    ∙ sym c.set_start.ensures in
    subst P same (c.find.ensures.still_can _ (c.requires (c.in-Some.last + 1)))

-- the input of the second search
behind : (g : Over) (c : goal.After-find-2 g) → c.set_start.new.self ≡ from_place (c.in-Some.last + 1) c.self.inside.input
behind g c = c.set_start.ensures ∙ ap (from_place (c.in-Some.last + 1)) c.clone-further.ensures.value

behind-self : (g : Over) (c : goal.After-find-2 g) → c.set_start.new.self ≡ from_place (c.in-Some.last + 1) c.args.self.now.input
behind-self g c = behind g c ∙ ap (λ (s : SearcherValue). from_place (c.in-Some.last + 1) s.input) c.self.view_is

ended : (g : Over) (c : goal.After-find-2 g) → c.args.self.now.last_end ≡ Some c.in-Some.last
ended g c = ap (λ (s : SearcherValue). s.last_end) (sym c.self.view_is) ∙ c.in-Some.is

-- the first search found the empty match at the end of the last match
empty : (g : Over) (c : goal.After-find-2 g) → AtEachPlace (g.F.Finder.promises c.args.finder.now) c.args.self.now.input
    → is_empty_at c.in-Some.last (g.F.Finder.searches c.args.finder.now c.self.inside.input) ≡ true
empty g c promised =
    let start = at-place (g.F.Finder.promises c.args.finder.now) c.self.view_is promised c.self.inside.input.start in
    found-empty c.in-Some.last (g.F.Finder.searches c.args.finder.now c.self.inside.input) c.in-Some-found.is (c.in_ok-found.ensures.answer start)
    (sym c.start.ensures.value ∙ c.if-start-last.false) (sym c.end.ensures.value ∙ c.if-end-last.false)

next : (g : Over) (c : goal.After-find-2 g) → AtEachPlace (g.F.Finder.promises c.args.finder.now) c.args.self.now.input
    → g.F.Finder.searches c.find.new.self c.set_start.new.self ≡ upcoming (g.F.Finder.searches c.args.finder.now) c.args.self.now
next g c promised =
    ap (g.F.Finder.searches c.find.new.self) (behind g c)
    ∙ c.find.ensures.same_answers (from_place (c.in-Some.last + 1) c.self.inside.input)
    ∙ sym (next-behind (g.F.Finder.searches c.args.finder.now) c.self.view_is c.self.invariant c.in-Some.is (empty g c promised))

promised-behind : (g : Over) (c : goal.After-find-2 g) → AtEachPlace (g.F.Finder.promises c.args.finder.now) c.args.self.now.input
    → g.F.Finder.promises c.find.new.self c.set_start.new.self
promised-behind g c promised =
    subst (g.F.Finder.promises c.find.new.self) (sym (behind-self g c)) (c.find.ensures.still_promises _ (promised (c.in-Some.last + 1)))

pub returns-clause-answer : goal.returns-clause-answer
returns-clause-answer g c = λ promised.
    subst (λ (o : Option Match). IfOk c.find-2.result (λ found. found ≡ option_map match_value o)) (next g c promised)
    (c.find-2.ensures.answer (promised-behind g c promised))

pub returns-clause-told : goal.returns-clause-told
returns-clause-told g c = λ promised.
    subst (λ (o : Option Match). OnOk c.find-2.result (g.F.Finder.tells c.find-2.new.self o)) (next g c promised)
    (c.find-2.ensures.told (promised-behind g c promised))

pub returns-clause-within : goal.returns-clause-within
returns-clause-within g c =
    IfOk-weaker c.find-2.result _ _ (λ found lies. within-behind (g.F.Finder.searches c.args.finder.now) c.self.view_is c.self.invariant c.in-Some.is
    found (behind g c) lies) c.find-2.ensures.within

pub returns-clause-any : goal.returns-clause-any
returns-clause-any g c =
    IfOk-weaker c.find-2.result _ _ (λ found any. inr (
      c.in-Some.last,
      ended g c,
      subst (λ (v : InputValue). g.F.Finder.answers c.find-2.new.self v found) (behind-self g c) any,
    )) c.find-2.ensures.any

pub returns-clause-cause : goal.returns-clause-cause
returns-clause-cause g c =
    let searches = g.F.Finder.searches c.args.finder.now in
    let at_end : AtEachPlace (g.F.Finder.promises c.args.finder.now) c.args.self.now.input → is_empty_at c.in-Some.last (searches c.args.self.now.input) ≡ true =
    λ promised. subst (λ (s : SearcherValue). is_empty_at c.in-Some.last (searches s.input) ≡ true) c.self.view_is (empty g c promised) in
    IfErr-weaker c.find-2.result _ _ (λ e fails. inr (
      c.in-Some.last,
      ended g c,
      at_end,
      c.find.ensures.same_failures _ e (subst (λ (v : InputValue). g.F.Finder.fails c.find.new.self v e) (behind-self g c) fails),
    )) c.find-2.ensures.err

pub returns-clause-same_answers : goal.returns-clause-same_answers
returns-clause-same_answers g c = λ v. c.find-2.ensures.same_answers v ∙ c.find.ensures.same_answers v

pub returns-clause-still_can : goal.returns-clause-still_can
returns-clause-still_can g c = λ v can. c.find-2.ensures.still_can v (c.find.ensures.still_can v can)

pub returns-clause-still_promises : goal.returns-clause-still_promises
returns-clause-still_promises g c = λ v promised. c.find-2.ensures.still_promises v (c.find.ensures.still_promises v promised)

pub returns-clause-same_failures : goal.returns-clause-same_failures
returns-clause-same_failures g c = λ v e cause. c.find.ensures.same_failures v e (c.find-2.ensures.same_failures v e cause)

pub returns-clause-stays : goal.returns-clause-stays
returns-clause-stays g c = λ s kept. c.find-2.ensures.stays s (c.find.ensures.stays s kept)
