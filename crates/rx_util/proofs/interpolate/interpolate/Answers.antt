use Rattle.std.proofs.Common.{arith, ℕ, List, ◌≡◌, ◌⊎◌, drop, sym, ap, ◌∙◌, subst, drop-drop, ◌+◌}
use Rattle.std.proofs.lemmas.Result.{err_from_is_err_and}
use Rattle.std.proofs.lemmas.Str.{IsUtf8-take, IsCharBoundary-before_ascii}
use Rattle.rx_util.specs.Interpolation.{IsLeft}
use Rattle.rx_util.proofs.InterpolationLemmas.{goes_on, cut_before, cut_at, finishes, left_text}
use Rattle.rx_util.proofs.interpolate.interpolate.Goals as goal

pub push-requires : goal.push-requires
push-requires g c = λ text.
    IsUtf8-take c.dollars.rest.now c.in-Some.place (c.dollars.invariant.2 text)
    (IsCharBoundary-before_ascii c.dollars.rest.now c.in-Some.place c.in-Some.ensures.there.0 (omega (arith, c.in-Some.ensures.there.1)))

pub returns-in_err-push : goal.returns-in_err-push
returns-in_err-push g c = λ piece index appends finds.
    let p = err_from_is_err_and c.from_residual.result c.from_residual.ensures.1 in
    rw p.1 (cut_before piece index c.args.template.now _ g.A.FnMut g.N.FnMut g.D.Target.held c.dollars.rest.now _ _
    (c.dollars.invariant.3 piece index appends finds) c.in_err-push.ensures)

pub returns-in_err-taken : goal.returns-in_err-taken
returns-in_err-taken g c = λ piece index appends finds.
    let p = err_from_is_err_and c.from_residual-in_err-taken.result c.from_residual-in_err-taken.ensures.1 in
    let new : List ℕ = g.D.Target.held c.at_dollar.new.dst in
    rw p.1 (cut_at piece index c.args.template.now _ g.A.FnMut g.N.FnMut g.D.Target.held c.dollars.rest.now _ _ c.in-Some.place (sym c.in-Some.ensures.value)
    (c.dollars.invariant.3 piece index appends finds)
    (subst (λ (mid : List ℕ). (new ≡ mid) ⊎ IsLeft g.A.FnMut g.N.FnMut g.D.Target.held mid new) c.in_ok-push.ensures
    (c.in_err-taken.ensures.value piece index appends finds)))

pub dollars-preserved : goal.dollars-preserved
dollars-preserved g c =
    let rest : List ℕ = c.dollars.rest.now in
    let place : ℕ = c.in-Some.place in
    let is_after : c.past-after.result.now ≡ drop (place + 1) rest = c.past-after.ensures ∙ ap (λ (xs : List ℕ). drop 1 xs) c.past-from.ensures
    ∙ drop-drop 1 place rest in (
      c.in_ok-taken.ensures.append,
      c.in_ok-taken.ensures.name_to_index,
      (λ text. rw c.past-rest.ensures (left_text rest c.past-after.result.now place c.in_ok-taken.taken
          (c.dollars.invariant.2 text) c.in-Some.ensures.there.0 c.in-Some.ensures.there.1 is_after
          c.in_ok-taken.ensures.end.0 c.in_ok-taken.ensures.end.1)),
      (λ piece index appends finds.
          let value = c.in_ok-taken.ensures.value piece index appends finds in
          goes_on piece index c.args.template.now _ rest _ _ _ place c.in_ok-taken.taken c.past-after.result.now c.past-rest.result.now
          (sym c.in-Some.ensures.value)
          (c.dollars.invariant.3 piece index appends finds) is_after value.0 c.past-rest.ensures c.in_ok-push.ensures value.1),
    )

pub returns : goal.returns
returns g c = λ piece index appends finds.
    finishes piece index c.args.template.now _ g.A.FnMut g.N.FnMut g.D.Target.held c.dollars.rest.now _ _ c.push-2.result
    (sym c.place_of.ensures.value ∙ c.in_default.is)
    (c.dollars.invariant.3 piece index appends finds) c.push-2.ensures
