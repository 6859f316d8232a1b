use Rattle.std.proofs.Common.{◌≡◌, ℕ, List, length, drop, sym, ◌∙◌, ap, arith}
use Rattle.std.specs.Prelude.{slice_index}
use Rattle.std.proofs.lemmas.List.{take_at}
use Rattle.rx_dfa.proofs.dense.class_lists.ClassLists.clear.Goals as goal

pub invariant_of-self : goal.invariant_of-self
invariant_of-self c = record { same = ap length c.clear.ensures.items ∙ sym (ap length c.clear-2.ensures.items) }

pub returns-clause-count : goal.returns-clause-count
returns-clause-count c =
    let heads = c.args.self.now.heads in
    let new = c.zero.new.numbers in
    let width : length new ≡ length heads.items = c.zero.auto.numbers ∙ ap length c.as_mut_slice.ensures.value in
    let long : length new ≡ heads.len = omega (arith, heads.ok.0) in
    ap length (take_at new (drop (length new) heads.items) heads.len long) ∙ width

pub returns-clause-lists : goal.returns-clause-lists
returns-clause-lists c class lt =
    let heads = c.args.self.now.heads in
    let new = c.zero.new.numbers in
    let width : length new ≡ length heads.items = c.zero.auto.numbers ∙ ap length c.as_mut_slice.ensures.value in
    let long : length new ≡ heads.len = omega (arith, heads.ok.0) in
    ap (λ (ns : List ℕ). slice_index ns class) (take_at new (drop (length new) heads.items) heads.len long) ∙ c.zero.ensures class
