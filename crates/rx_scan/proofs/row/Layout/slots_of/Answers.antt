use Rattle.std.proofs.Common.{◌≡◌, ◌+◌, ◌*◌, ◌<◌, ◌≤◌, ◌∷◌, ℕ, false, length, get_or, List, Option, Some, None, refl, sym, ap, ◌∙◌, arith}
use Rattle.std.proofs.lemmas.Bool.Decides.{nat_tests}
use Rattle.std.proofs.lemmas.Result.{IfOk-weaker}
use Rattle.std.specs.Prelude.{nat_lt}
use Rattle.rx_model.proofs.lemmas.runs.FirstLemmas.{none-is-some}
use Rattle.rx_search.specs.GroupInfo.{groups_at}
use Rattle.std.proofs.lemmas.List.{get_or_read}
use Rattle.rx_search.specs.declared.span.Span.{Span}
use Rattle.rx_scan.specs.Layout.{all_explicit_slots, explicit_slots, slots_in}
use Rattle.rx_scan.proofs.LayoutLemmas.{length-all, explicit-at, patterns-few, explicit-within}
use Rattle.rx_scan.proofs.row.Layout.slots_of.Goals as goal

-- the table has an entry for each pattern
entries : (info : List (List (Option (List ℕ)))) (spans : List (Option Span)) → spans ≡ all_explicit_slots info (length info) → length spans ≡ length info
entries info spans asked = ap length asked ∙ length-all info (length info)

-- a pattern without groups has none
without : (info : List (List (Option (List ℕ)))) (p : ℕ) → length (groups_at info p) ≤ 1 → explicit_slots info p ≡ None
without info p few = let one : nat_lt 1 (length (groups_at info p)) ≡ false = grind (arith, nat_tests) in rw one refl

-- an entry that was read is that of its pattern
entry : (info : List (List (Option (List ℕ)))) (spans : List (Option Span)) (p index : ℕ) (x : Option Span) → spans ≡ all_explicit_slots info (length info)
    → index ≡ p → p < length info
    → x ≡ get_or spans index x → x ≡ explicit_slots info p
entry info spans p index x asked same below is =
    is ∙ (λ i. get_or (asked i) (same i) x) ∙ explicit-at info (length info) p x below

-- a slot that was read
read : (xs : List (Option ℕ)) (at place : ℕ) (x : Option ℕ) → at ≡ place → at < length xs → x ≡ get_or xs at x → x ≡ get_or xs place None
read xs at place x same below is = get_or_read xs at x below is None ∙ ap (λ j. get_or xs j None) same

pub returns-then-index-len-clause-value : goal.returns-then-index-len-clause-value
returns-then-index-len-clause-value c = λ there.
    let layout = c.args.self.now in
    absurd
    (omega (
      arith,
      there,
      entries layout.groups.now layout.explicit.items layout.asked,
      c.if-index-len.true,
      c.len.ensures,
      c.as_usize-index.ensures.value,
      layout.explicit.ok.0,
    ))

pub bounds-slots-index : goal.bounds-slots-index
bounds-slots-index c =
    let layout = c.args.self.now in
    let info = layout.groups.now in
    omega (
      arith,
      c.requires,
      entries info layout.explicit.items layout.asked,
      c.if-index-len.false,
      c.len.ensures,
      patterns-few info (length info) layout.implicit,
      layout.explicit.ok.0,
    )

pub bounds-slots-index-2 : goal.bounds-slots-index-2
bounds-slots-index-2 c =
    let layout = c.args.self.now in
    let info = layout.groups.now in
    omega (
      arith,
      c.requires,
      entries info layout.explicit.items layout.asked,
      c.if-index-len.false,
      c.len.ensures,
      patterns-few info (length info) layout.implicit,
      layout.explicit.ok.0,
    )

pub with_groups-requires-clause-start : goal.with_groups-requires-clause-start
with_groups-requires-clause-start c =
    let layout = c.args.self.now in
    let info = layout.groups.now in
    let below : c.args.pattern < length info = omega (
      arith,
      entries info layout.explicit.items layout.asked,
      c.if-index-len.false,
      c.len.ensures,
      c.as_usize-index.ensures.value,
      layout.explicit.ok.0,
    ) in
    let is = entry info layout.explicit.items c.args.pattern c.as_usize-index.result c.index.result.now layout.asked c.as_usize-index.ensures.value below
    c.index.ensures in
    let within = explicit-within info c.args.pattern c.in-Some.span layout.implicit below (sym c.in-Some.is ∙ is) in
    within.0

pub with_groups-requires-clause-end : goal.with_groups-requires-clause-end
with_groups-requires-clause-end c =
    let layout = c.args.self.now in
    let info = layout.groups.now in
    let below : c.args.pattern < length info = omega (
      arith,
      entries info layout.explicit.items layout.asked,
      c.if-index-len.false,
      c.len.ensures,
      c.as_usize-index.ensures.value,
      layout.explicit.ok.0,
    ) in
    let is = entry info layout.explicit.items c.args.pattern c.as_usize-index.result c.index.result.now layout.asked c.as_usize-index.ensures.value below
    c.index.ensures in
    let within = explicit-within info c.args.pattern c.in-Some.span layout.implicit below (sym c.in-Some.is ∙ is) in
    omega (arith, within.1, c.requires)

pub returns-in-None-clause-value : goal.returns-in-None-clause-value
returns-in-None-clause-value c = λ there.
    let layout = c.args.self.now in
    let info = layout.groups.now in
    let p = c.args.pattern in
    let xs = c.args.slots.now in
    let same = c.as_usize-index.ensures.value in
    let few = patterns-few info (length info) layout.implicit in
    let is = entry info layout.explicit.items p c.as_usize-index.result c.index.result.now layout.asked same there c.index.ensures in
    let none : None ≡ explicit_slots info p = sym c.in-None.is ∙ is in
    let first = read xs (2 * c.as_usize-index.result) (2 * p) c.index-slots-index.result (omega (arith, same))
    (omega (arith, c.requires, same, there, few)) c.index-slots-index.is in
    let second = read xs (2 * c.as_usize-index.result + 1) (2 * p + 1) c.index-slots-index-2.result (omega (arith, same))
    (omega (arith, c.requires, same, there, few)) c.index-slots-index-2.is in
    c.whole.ensures ∙ (λ i. first i ∷ second i ∷ slots_in (none i) xs)

pub returns-in-Some-clause-value : goal.returns-in-Some-clause-value
returns-in-Some-clause-value c = λ there.
    let layout = c.args.self.now in
    let info = layout.groups.now in
    let p = c.args.pattern in
    let xs = c.args.slots.now in
    let same = c.as_usize-index.ensures.value in
    let few = patterns-few info (length info) layout.implicit in
    let is = entry info layout.explicit.items p c.as_usize-index.result c.index.result.now layout.asked same there c.index.ensures in
    let some : Some c.in-Some.span ≡ explicit_slots info p = sym c.in-Some.is ∙ is in
    let first = read xs (2 * c.as_usize-index.result) (2 * p) c.index-slots-index.result (omega (arith, same))
    (omega (arith, c.requires, same, there, few)) c.index-slots-index.is in
    let second = read xs (2 * c.as_usize-index.result + 1) (2 * p + 1) c.index-slots-index-2.result (omega (arith, same))
    (omega (arith, c.requires, same, there, few)) c.index-slots-index-2.is in
    IfOk-weaker c.with_groups.result _ _ (λ own e. e ∙ (λ i. first i ∷ second i ∷ slots_in (some i) xs)) c.with_groups.ensures

-- where there is an entry, the pattern has groups

pub returns-in-Some-clause-sure : goal.returns-in-Some-clause-sure
returns-in-Some-clause-sure c = λ few.
    let layout = c.args.self.now in
    let info = layout.groups.now in
    let p = c.args.pattern in
    let below : p < length info =
    omega (arith, entries info layout.explicit.items layout.asked, c.if-index-len.false, c.len.ensures, c.as_usize-index.ensures.value, layout.explicit.ok.0) in
    let is = entry info layout.explicit.items p c.as_usize-index.result c.index.result.now layout.asked c.as_usize-index.ensures.value below c.index.ensures in
    let some : Some c.in-Some.span ≡ explicit_slots info p = sym c.in-Some.is ∙ is in
    none-is-some (sym (without info p few) ∙ sym some)
