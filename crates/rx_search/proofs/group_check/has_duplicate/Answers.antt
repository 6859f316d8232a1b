use Rattle.std.proofs.Common.{ℕ, ◌≡◌, ◌+◌, ◌<◌, List, None, Some, Bool, true, false, ◌||◌, take, length, get_or, option_map, string_bytes, ap, sym, ◌∙◌, arith, cond, bytes_eq}
use Rattle.std.specs.List.{list_any}
use Rattle.std.specs.BTreeSet.{contains_by}
use Rattle.std.specs.Cmp.Lexicographic.{slice_cmp}
use Rattle.std.specs.Ordering.{nat_cmp}
use Rattle.rx_search.specs.GroupInfo.{names_of, is_named, has_duplicate}
use Rattle.rx_search.proofs.FaultLemmas.{has_duplicate-more, has_duplicate-front, list_any-more, name_of_item, length-names_of, set_with, cond_or, bytes_eq-sym, not_false, not_true}
use Rattle.std.proofs.lemmas.Bool.{or_right, or_from}
use Rattle.std.proofs.Math.Bool.{or-false}
use Rattle.rx_search.proofs.group_check.has_duplicate.Goals as goal

pub loop-group-preserved-in_default : goal.loop-group-preserved-in_default
loop-group-preserved-in_default c =
    let names = names_of c.args.groups.now in
    let i = c.loop-group.group-index in
    let below : i < length names = omega (arith, c.loop-group-test.true, length-names_of c.args.groups.now) in
    let item : get_or names i None ≡ None =
    name_of_item c.args.groups.now i c.group-item.result c.loop-group-test.true c.group-item.is ∙ ap (option_map string_bytes) c.in_default.is in (
      λ (name : List ℕ). c.loop-group.invariant.0 name ∙ sym (list_any-more (is_named name) names i None item below ∙ or-false _),
      has_duplicate-more names i None item below ∙ or-false _ ∙ c.loop-group.invariant.1,
    )

pub returns-then-not-branch : goal.returns-then-not-branch
returns-then-not-branch c =
    let names = names_of c.args.groups.now in
    let i = c.loop-group.group-index in
    let name = c.as_str.result.now in
    let below : i < length names = omega (arith, c.loop-group-test.true, length-names_of c.args.groups.now) in
    let item : get_or names i None ≡ Some name = name_of_item c.args.groups.now i c.group-item.result c.loop-group-test.true c.group-item.is
    ∙ ap (option_map string_bytes) c.in-Some.is ∙ ap Some (sym c.as_str.ensures.value) in
    let seen : contains_by (λ k. slice_cmp nat_cmp name k.now) c.loop-group.seen ≡ true = not_false _ _ c.in_ok-insert.ensures.added c.if-not-branch.true in
    let twice : has_duplicate (take (i + 1) names) ≡ true =
    has_duplicate-more names i (Some name) item below ∙ or_right _ _ (sym (c.loop-group.invariant.0 name) ∙ seen) in
    sym (has_duplicate-front (i + 1) names twice)

pub loop-group-preserved : goal.loop-group-preserved
loop-group-preserved c =
    let names = names_of c.args.groups.now in
    let i = c.loop-group.group-index in
    let name = c.as_str.result.now in
    let below : i < length names = omega (arith, c.loop-group-test.true, length-names_of c.args.groups.now) in
    let item : get_or names i None ≡ Some name = name_of_item c.args.groups.now i c.group-item.result c.loop-group-test.true c.group-item.is
    ∙ ap (option_map string_bytes) c.in-Some.is ∙ ap Some (sym c.as_str.ensures.value) in
    let new : contains_by (λ k. slice_cmp nat_cmp name k.now) c.loop-group.seen ≡ false = not_true _ _ c.in_ok-insert.ensures.added c.if-not-branch.false in (
      λ (other : List ℕ).
          set_with c.as_str.result c.loop-group.seen c.insert.new.self c.in_ok-insert.ensures.updates other
          ∙ ap (cond (bytes_eq name other) true) (c.loop-group.invariant.0 other)
          ∙ cond_or (bytes_eq name other) (list_any (is_named other) (take i names))
          ∙ ap (λ (b : Bool). list_any (is_named other) (take i names) || (b || false)) (bytes_eq-sym name other)
          ∙ sym (list_any-more (is_named other) names i (Some name) item below),
      has_duplicate-more names i (Some name) item below ∙ or_from _ _ c.loop-group.invariant.1 (sym (c.loop-group.invariant.0 name) ∙ new),
    )
