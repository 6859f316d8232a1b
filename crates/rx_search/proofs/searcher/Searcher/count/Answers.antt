use Rattle.std.proofs.Common.{ℕ, ◌+◌, ◌<◌, ◌≤◌, [], ◌∷◌, ◌++◌, length, refl, sym, ◌∙◌, ap, inl, arith, length-append}
use Rattle.std.specs.Prelude.{Option, Some, None}
use Rattle.std.proofs.lemmas.List.{length-map}
use Rattle.std.proofs.lemmas.Result.{err_from_is_err_and}
use Rattle.rx_search.specs.Input.{InputValue}
use Rattle.rx_search.specs.Matches.{match_value}
use Rattle.rx_search.specs.Searcher.{places_left, places_after, to_come, AtEachPlace}
use Rattle.rx_search.proofs.SearcherLemmas.{Progress-begun, Progress-more, Progress-contains, Progress-over, AnswersAlike-begun, AnswersAlike-more, IsReached-more, HasCause-later}
use Rattle.rx_search.proofs.searcher.Searcher.count.Goals as goal

pub loop-count-init : goal.loop-count-init
loop-count-init g c = record {
  counted = λ promised. record { so_far = []; progress = Progress-begun _ refl refl; counted = refl };
  can = c.requires;
  promised = λ promised. promised;
  alike = AnswersAlike-begun _;
  reached = inl refl;
  room = omega arith;
}

pub advance-requires : goal.advance-requires
advance-requires g c = c.loop-count.invariant.can

-- each place is where at most one match ends, and so is the start
places-bound : (o : Option ℕ) (v : InputValue) → places_after o v ≤ v.end + 2
places-bound None v = omega arith
places-bound (Some last) v = omega arith

pub overflow_add-count : goal.overflow_add-count
overflow_add-count g c =
    let less : places_left c.advance.new.self < places_left c.loop-count.self = rw c.in-Some.is at c.in_ok-advance.ensures.fewer_left in
    let few = places-bound c.args.self.last_end c.args.self.input in
    let within : c.args.self.input.end ≤ length c.haystack-haystack.result.now =
    rw (c.haystack-haystack.ensures.value, ← c.self.view_is) c.haystack-haystack.ensures.spanned.end in
    let short = c.haystack-haystack.type_inv in
    let room = c.loop-count.invariant.room in
    omega arith

pub loop-count-smaller : goal.loop-count-smaller
loop-count-smaller g c = rw c.in-Some.is at c.in_ok-advance.ensures.fewer_left

pub loop-count-preserved : goal.loop-count-preserved
loop-count-preserved g c =
    let i = c.loop-count.invariant in
    let less : places_left c.advance.new.self < places_left c.loop-count.self = rw c.in-Some.is at c.in_ok-advance.ensures.fewer_left in
    let room = i.room in
    record {
      counted = λ promised.
          let before = i.counted promised in
          record {
            so_far = before.so_far ++ c.in-Some.field-0 ∷ [];
            progress =
                Progress-more before.progress c.in-Some.is (c.in_ok-advance.ensures.answer (i.promised promised)) c.in_ok-advance.ensures.moved
                c.in_ok-advance.ensures.fewer_left c.in_ok-advance.ensures.same_answers (λ x next value. value) refl;
            counted = length-append before.so_far (c.in-Some.field-0 ∷ []) ∙ ap (λ n. n + 1) before.counted;
          };
      can = c.in_ok-advance.ensures.can_go_on;
      promised = λ promised. c.in_ok-advance.ensures.goes_on (i.promised promised);
      alike =
          AnswersAlike-more i.alike c.in_ok-advance.ensures.same_answers c.in_ok-advance.ensures.still_can c.in_ok-advance.ensures.still_promises
          c.in_ok-advance.ensures.same_failures c.in_ok-advance.ensures.stays;
      reached =
          IsReached-more (g.F.Finder.searches c.args.finder.now) (AtEachPlace (g.F.Finder.promises c.args.finder.now) c.args.self.input) _ _ _ i.reached
          c.in-Some.is c.in_ok-advance.ensures.moved c.in_ok-advance.ensures.forward c.in_ok-advance.ensures.within
          (λ promised.
          Progress-contains (i.counted promised).progress _ c.in-Some.is (c.in_ok-advance.ensures.answer (i.promised promised)) c.in_ok-advance.ensures.moved
          c.in_ok-advance.ensures.fewer_left _ (λ x next value. value));
      room = omega arith;
    }

pub returns-clause-value : goal.returns-clause-value
returns-clause-value g c = λ promised.
    let i = c.loop-count.invariant in
    let all = to_come (g.F.Finder.searches c.args.finder.now) c.args.self in
    let counted = i.counted promised in
    sym counted.counted
    ∙ ap length (Progress-over counted.progress c.in_default.is (c.in_ok-advance.ensures.answer (i.promised promised)))
    ∙ length-map all match_value

pub returns-in_err-advance-clause-cause : goal.returns-in_err-advance-clause-cause
returns-in_err-advance-clause-cause g c =
    let i = c.loop-count.invariant in
    let p = err_from_is_err_and c.from_residual.result c.from_residual.ensures.1 in
    rw (p.1, p.2) (HasCause-later (g.F.Finder.fails c.args.finder.now) (g.F.Finder.fails c.loop-count.finder) (g.F.Finder.searches c.args.finder.now)
    (g.F.Finder.searches c.loop-count.finder) _ _ i.alike.same_failures i.alike.same_answers i.promised _ _ _ i.reached c.in_err-advance.ensures.cause)

pub returns-in_err-advance-clause-still_promises : goal.returns-in_err-advance-clause-still_promises
returns-in_err-advance-clause-still_promises g c = λ v promised. c.in_err-advance.ensures.still_promises v
    (c.loop-count.invariant.alike.still_promises v promised)

pub returns-in_err-advance-clause-same_failures : goal.returns-in_err-advance-clause-same_failures
returns-in_err-advance-clause-same_failures g c = λ v e cause. c.loop-count.invariant.alike.same_failures v e (c.in_err-advance.ensures.same_failures v e cause)

pub returns-clause-still_promises : goal.returns-clause-still_promises
returns-clause-still_promises g c = λ v promised. c.in_ok-advance.ensures.still_promises v (c.loop-count.invariant.alike.still_promises v promised)

pub returns-clause-same_failures : goal.returns-clause-same_failures
returns-clause-same_failures g c = λ v e cause. c.loop-count.invariant.alike.same_failures v e (c.in_ok-advance.ensures.same_failures v e cause)

pub returns-clause-same_answers : goal.returns-clause-same_answers
returns-clause-same_answers g c = λ v. c.advance.ensures.same_answers v ∙ c.loop-count.invariant.alike.same_answers v

pub returns-clause-still_can : goal.returns-clause-still_can
returns-clause-still_can g c = λ v can. c.advance.ensures.still_can v (c.loop-count.invariant.alike.still_can v can)

pub returns-clause-stays : goal.returns-clause-stays
returns-clause-stays g c = λ s kept. c.advance.ensures.stays s (c.loop-count.invariant.alike.stays s kept)

pub returns-in_err-advance-clause-same_answers : goal.returns-in_err-advance-clause-same_answers
returns-in_err-advance-clause-same_answers g c = λ v. c.advance.ensures.same_answers v ∙ c.loop-count.invariant.alike.same_answers v

pub returns-in_err-advance-clause-still_can : goal.returns-in_err-advance-clause-still_can
returns-in_err-advance-clause-still_can g c = λ v can. c.advance.ensures.still_can v (c.loop-count.invariant.alike.still_can v can)

pub returns-in_err-advance-clause-stays : goal.returns-in_err-advance-clause-stays
returns-in_err-advance-clause-stays g c = λ s kept. c.advance.ensures.stays s (c.loop-count.invariant.alike.stays s kept)
