use Rattle.std.proofs.Common.{refl, inl, ◌∙◌}
use Rattle.std.proofs.lemmas.Result.{err_from_is_err_and}
use Rattle.rx_search.specs.Searcher.{AtEachPlace}
use Rattle.rx_search.proofs.SearcherLemmas.{Progress-begun, Progress-more, Progress-contains, Progress-over, AnswersAlike-begun, AnswersAlike-more, IsReached-more, HasCause-later}
use Rattle.rx_search.proofs.searcher.Searcher.collect.Goals as goal

pub loop-all-init : goal.loop-all-init
loop-all-init g c = record {
  progress = λ promised. Progress-begun _ refl c.new-all.ensures.items;
  can = c.requires;
  promised = λ promised. promised;
  alike = AnswersAlike-begun _;
  reached = inl refl;
}

pub advance-requires : goal.advance-requires
advance-requires g c = c.loop-all.invariant.can

pub loop-all-smaller : goal.loop-all-smaller
loop-all-smaller g c = rw c.in-Some.is at c.in_ok-found.ensures.fewer_left

pub loop-all-preserved : goal.loop-all-preserved
loop-all-preserved g c =
    let i = c.loop-all.invariant in
    record {
      progress = λ promised.
          Progress-more (i.progress promised) c.in-Some.is (c.in_ok-found.ensures.answer (i.promised promised)) c.in_ok-found.ensures.moved
          c.in_ok-found.ensures.fewer_left c.in_ok-found.ensures.same_answers (λ x next value. value) c.in_ok-push.ensures.items;
      can = c.in_ok-found.ensures.can_go_on;
      promised = λ promised. c.in_ok-found.ensures.goes_on (i.promised promised);
      alike =
          AnswersAlike-more i.alike c.in_ok-found.ensures.same_answers c.in_ok-found.ensures.still_can c.in_ok-found.ensures.still_promises
          c.in_ok-found.ensures.same_failures c.in_ok-found.ensures.stays;
      reached =
          IsReached-more (g.F.Finder.searches c.args.finder.now) (AtEachPlace (g.F.Finder.promises c.args.finder.now) c.args.self.input) _ _ _ i.reached
          c.in-Some.is c.in_ok-found.ensures.moved c.in_ok-found.ensures.forward c.in_ok-found.ensures.within
          (λ promised.
          Progress-contains (i.progress promised) _ c.in-Some.is (c.in_ok-found.ensures.answer (i.promised promised)) c.in_ok-found.ensures.moved
          c.in_ok-found.ensures.fewer_left _ (λ x next value. value));
    }

pub returns-clause-value : goal.returns-clause-value
returns-clause-value g c = λ promised.
    let i = c.loop-all.invariant in
    Progress-over (i.progress promised) c.in_default.is (c.in_ok-found.ensures.answer (i.promised promised))

pub returns-in_err-found-clause-cause : goal.returns-in_err-found-clause-cause
returns-in_err-found-clause-cause g c =
    let i = c.loop-all.invariant in
    let p = err_from_is_err_and c.from_residual.result c.from_residual.ensures.1 in
    rw (p.1, p.2)
    (inl (HasCause-later (g.F.Finder.fails c.args.finder.now) (g.F.Finder.fails c.loop-all.finder) (g.F.Finder.searches c.args.finder.now)
    (g.F.Finder.searches c.loop-all.finder) _ _ i.alike.same_failures i.alike.same_answers i.promised _ _ _ i.reached c.in_err-found.ensures.cause))

pub returns-clause-same_answers : goal.returns-clause-same_answers
returns-clause-same_answers g c = λ v. c.advance.ensures.same_answers v ∙ c.loop-all.invariant.alike.same_answers v

pub returns-clause-still_can : goal.returns-clause-still_can
returns-clause-still_can g c = λ v can. c.advance.ensures.still_can v (c.loop-all.invariant.alike.still_can v can)

pub returns-clause-still_promises : goal.returns-clause-still_promises
returns-clause-still_promises g c = λ v promised. c.advance.ensures.still_promises v (c.loop-all.invariant.alike.still_promises v promised)

pub returns-clause-same_failures : goal.returns-clause-same_failures
returns-clause-same_failures g c = λ v e cause. c.loop-all.invariant.alike.same_failures v e (c.advance.ensures.same_failures v e cause)

pub returns-clause-stays : goal.returns-clause-stays
returns-clause-stays g c = λ s kept. c.advance.ensures.stays s (c.loop-all.invariant.alike.stays s kept)

pub returns-in_err-found-clause-same_answers : goal.returns-in_err-found-clause-same_answers
returns-in_err-found-clause-same_answers g c = λ v. c.advance.ensures.same_answers v ∙ c.loop-all.invariant.alike.same_answers v

pub returns-in_err-found-clause-still_can : goal.returns-in_err-found-clause-still_can
returns-in_err-found-clause-still_can g c = λ v can. c.advance.ensures.still_can v (c.loop-all.invariant.alike.still_can v can)

pub returns-in_err-found-clause-still_promises : goal.returns-in_err-found-clause-still_promises
returns-in_err-found-clause-still_promises g c = λ v promised. c.advance.ensures.still_promises v (c.loop-all.invariant.alike.still_promises v promised)

pub returns-in_err-found-clause-same_failures : goal.returns-in_err-found-clause-same_failures
returns-in_err-found-clause-same_failures g c = λ v e cause. c.loop-all.invariant.alike.same_failures v e (c.advance.ensures.same_failures v e cause)

pub returns-in_err-found-clause-stays : goal.returns-in_err-found-clause-stays
returns-in_err-found-clause-stays g c = λ s kept. c.advance.ensures.stays s (c.loop-all.invariant.alike.stays s kept)

pub returns-in_err-push-clause-same_answers : goal.returns-in_err-push-clause-same_answers
returns-in_err-push-clause-same_answers g c = λ v. c.advance.ensures.same_answers v ∙ c.loop-all.invariant.alike.same_answers v

pub returns-in_err-push-clause-still_can : goal.returns-in_err-push-clause-still_can
returns-in_err-push-clause-still_can g c = λ v can. c.advance.ensures.still_can v (c.loop-all.invariant.alike.still_can v can)

pub returns-in_err-push-clause-still_promises : goal.returns-in_err-push-clause-still_promises
returns-in_err-push-clause-still_promises g c = λ v promised. c.advance.ensures.still_promises v (c.loop-all.invariant.alike.still_promises v promised)

pub returns-in_err-push-clause-same_failures : goal.returns-in_err-push-clause-same_failures
returns-in_err-push-clause-same_failures g c = λ v e cause. c.loop-all.invariant.alike.same_failures v e (c.advance.ensures.same_failures v e cause)

pub returns-in_err-push-clause-stays : goal.returns-in_err-push-clause-stays
returns-in_err-push-clause-stays g c = λ s kept. c.advance.ensures.stays s (c.loop-all.invariant.alike.stays s kept)
