use Rattle.std.proofs.Common.{◌≡◌, ◌+◌, ◌<◌, ℕ, List, length, refl, sym, ◌∙◌, ap, subst, arith}
use Rattle.std.specs.Prelude.{slice_index}
use Rattle.rx_dfa.specs.Automaton.{no_key, next_key}
use Rattle.std.specs.Prelude.{None}
use Rattle.rx_dfa.specs.Table.{quit, DenseValue, Holds, IsDense}
use Rattle.rx_dfa.proofs.lemmas.StateLemmas.{class-inside}
use Rattle.rx_dfa.proofs.lemmas.TableLemmas.{lt-cmp, lt-from, same-from, other-from, table-cell, inside, stepped, quits-there, readable-there, below-quit, dead-holds}
use Rattle.rx_dfa.proofs.dense.automaton.DenseAutomaton.next_state.Goals as goal

pub index-requires : goal.index-requires
index-requires g c =
    let v = c.args.self.now in
    let are : IsDense v = subst IsDense c.self.view_is c.self.invariant in
    let h = c.requires.held in
    let small : c.args.byte < 256 = omega (arith, c.ranges.byte.fits) in
    let class = class-inside v.dfa are.sound c.args.byte small in
    let lt = inside v are c.args.state h.0 (slice_index v.dfa.classes c.args.byte) h.1 (omega arith) in
    let table = ap (λ (x : DenseValue). length x.table) c.self.view_is in
    let classes = ap (λ (x : DenseValue). slice_index x.dfa.classes c.args.byte) c.self.view_is in
    let state = c.as_usize.ensures.value in
    let of = c.get-class.ensures in
    omega (arith, c.self.inside.table.ok.0)

pub returns-then-lt-clause-next : goal.returns-then-lt-clause-next
returns-then-lt-clause-next g c key h =
    let v = c.args.self.now in
    let are : IsDense v = subst IsDense c.self.view_is c.self.invariant in
    let small : c.args.byte < 256 = omega (arith, c.ranges.byte.fits) in
    let class = slice_index v.dfa.classes c.args.byte in
    let inner = class-inside v.dfa are.sound c.args.byte small in
    let table = ap (λ (x : DenseValue). x.table) c.self.view_is in
    let length_table = ap (λ (xs : List ℕ). length xs) table in
    let classes = ap (λ (x : DenseValue). slice_index x.dfa.classes c.args.byte) c.self.view_is in
    let state = c.as_usize.ensures.value in
    let of = c.get-class.ensures in
    let lt = inside v are c.args.state key class h (omega arith) in
    let at : c.index.result.now ≡ slice_index v.table (c.args.state + class) =
    table-cell c.self.inside.table.items v.table (c.as_usize.result + c.get-class.result) (c.args.state + class) c.index.result.now table (omega arith)
    (omega arith) c.index.ensures in
    let less = lt-from c.index.result.now c.self.inside.dead (sym (lt-cmp c.index.result.now c.self.inside.dead) ∙ sym c.lt.ensures ∙ c.if-lt.true) in
    let dead = ap (λ (x : DenseValue). x.dead) c.self.view_is in
    let dead_lt = below-quit v are v.dead (no_key None) (dead-holds v are (no_key None) refl) in
    let readable = readable-there v are c.args.state key c.args.byte h small (λ q. omega arith) in
    subst (λ n. Holds v n (next_key v.dfa key c.args.byte)) (sym at) (stepped v are c.args.state key c.args.byte h small readable)

pub returns-then-lt-clause-readable : goal.returns-then-lt-clause-readable
returns-then-lt-clause-readable g c key h live =
    let v = c.args.self.now in
    let are : IsDense v = subst IsDense c.self.view_is c.self.invariant in
    let small : c.args.byte < 256 = omega (arith, c.ranges.byte.fits) in
    let class = slice_index v.dfa.classes c.args.byte in
    let inner = class-inside v.dfa are.sound c.args.byte small in
    let table = ap (λ (x : DenseValue). x.table) c.self.view_is in
    let length_table = ap (λ (xs : List ℕ). length xs) table in
    let classes = ap (λ (x : DenseValue). slice_index x.dfa.classes c.args.byte) c.self.view_is in
    let state = c.as_usize.ensures.value in
    let of = c.get-class.ensures in
    let lt = inside v are c.args.state key class h (omega arith) in
    let at : c.index.result.now ≡ slice_index v.table (c.args.state + class) =
    table-cell c.self.inside.table.items v.table (c.as_usize.result + c.get-class.result) (c.args.state + class) c.index.result.now table (omega arith)
    (omega arith) c.index.ensures in
    let less = lt-from c.index.result.now c.self.inside.dead (sym (lt-cmp c.index.result.now c.self.inside.dead) ∙ sym c.lt.ensures ∙ c.if-lt.true) in
    let dead = ap (λ (x : DenseValue). x.dead) c.self.view_is in
    let dead_lt = below-quit v are v.dead (no_key None) (dead-holds v are (no_key None) refl) in
    readable-there v are c.args.state key c.args.byte h small (λ q. omega arith)

pub returns-then-is_quit-clause-err : goal.returns-then-is_quit-clause-err
returns-then-is_quit-clause-err g c =
    let v = c.args.self.now in
    let are : IsDense v = subst IsDense c.self.view_is c.self.invariant in
    let small : c.args.byte < 256 = omega (arith, c.ranges.byte.fits) in
    let class = slice_index v.dfa.classes c.args.byte in
    let inner = class-inside v.dfa are.sound c.args.byte small in
    let table = ap (λ (x : DenseValue). x.table) c.self.view_is in
    let length_table = ap (λ (xs : List ℕ). length xs) table in
    let classes = ap (λ (x : DenseValue). slice_index x.dfa.classes c.args.byte) c.self.view_is in
    let state = c.as_usize.ensures.value in
    let of = c.get-class.ensures in
    let lt = inside v are c.args.state c.requires.held.0 class c.requires.held.1 (omega arith) in
    let at : c.index.result.now ≡ slice_index v.table (c.args.state + class) =
    table-cell c.self.inside.table.items v.table (c.as_usize.result + c.get-class.result) (c.args.state + class) c.index.result.now table (omega arith)
    (omega arith) c.index.ensures in (
      refl,
      quits-there v are c.args.state c.requires.held.0 c.args.byte c.requires.held.1 small
          (sym at ∙ same-from c.index.result.now quit (sym c.is_quit.ensures ∙ c.if-is_quit.true)),
    )

pub returns-clause-next : goal.returns-clause-next
returns-clause-next g c key h =
    let v = c.args.self.now in
    let are : IsDense v = subst IsDense c.self.view_is c.self.invariant in
    let small : c.args.byte < 256 = omega (arith, c.ranges.byte.fits) in
    let class = slice_index v.dfa.classes c.args.byte in
    let inner = class-inside v.dfa are.sound c.args.byte small in
    let table = ap (λ (x : DenseValue). x.table) c.self.view_is in
    let length_table = ap (λ (xs : List ℕ). length xs) table in
    let classes = ap (λ (x : DenseValue). slice_index x.dfa.classes c.args.byte) c.self.view_is in
    let state = c.as_usize.ensures.value in
    let of = c.get-class.ensures in
    let lt = inside v are c.args.state key class h (omega arith) in
    let at : c.index.result.now ≡ slice_index v.table (c.args.state + class) =
    table-cell c.self.inside.table.items v.table (c.as_usize.result + c.get-class.result) (c.args.state + class) c.index.result.now table (omega arith)
    (omega arith) c.index.ensures in
    let readable = readable-there v are c.args.state key c.args.byte h small
    (λ q. other-from c.index.result.now quit (sym c.is_quit.ensures ∙ c.if-is_quit.false) (at ∙ q)) in
    subst (λ n. Holds v n (next_key v.dfa key c.args.byte)) (sym at) (stepped v are c.args.state key c.args.byte h small readable)

pub returns-clause-readable : goal.returns-clause-readable
returns-clause-readable g c key h live =
    let v = c.args.self.now in
    let are : IsDense v = subst IsDense c.self.view_is c.self.invariant in
    let small : c.args.byte < 256 = omega (arith, c.ranges.byte.fits) in
    let class = slice_index v.dfa.classes c.args.byte in
    let inner = class-inside v.dfa are.sound c.args.byte small in
    let table = ap (λ (x : DenseValue). x.table) c.self.view_is in
    let length_table = ap (λ (xs : List ℕ). length xs) table in
    let classes = ap (λ (x : DenseValue). slice_index x.dfa.classes c.args.byte) c.self.view_is in
    let state = c.as_usize.ensures.value in
    let of = c.get-class.ensures in
    let lt = inside v are c.args.state key class h (omega arith) in
    let at : c.index.result.now ≡ slice_index v.table (c.args.state + class) =
    table-cell c.self.inside.table.items v.table (c.as_usize.result + c.get-class.result) (c.args.state + class) c.index.result.now table (omega arith)
    (omega arith) c.index.ensures in
    readable-there v are c.args.state key c.args.byte h small
    (λ q. other-from c.index.result.now quit (sym c.is_quit.ensures ∙ c.if-is_quit.false) (at ∙ q))
