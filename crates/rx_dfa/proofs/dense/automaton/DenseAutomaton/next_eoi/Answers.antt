use Rattle.std.proofs.Common.{◌≡◌, ◌+◌, ℕ, List, length, sym, ap, subst, arith}
use Rattle.std.specs.Prelude.{slice_index}
use Rattle.rx_dfa.specs.Automaton.{last_key}
use Rattle.rx_dfa.specs.Table.{DenseValue, Holds, IsDense}
use Rattle.rx_dfa.proofs.lemmas.TableLemmas.{table-cell, inside, ended}
use Rattle.rx_dfa.proofs.dense.automaton.DenseAutomaton.next_eoi.Goals as goal

pub index-requires : goal.index-requires
index-requires g c =
    let v = c.args.self.now in
    let are : IsDense v = subst IsDense c.self.view_is c.self.invariant in
    let h = c.requires.held in
    let lt = inside v are c.args.state h.0 (length v.dfa.bytes) h.1 (omega arith) in
    let table = ap (λ (x : DenseValue). length x.table) c.self.view_is in
    let bytes = ap (λ (x : DenseValue). length x.dfa.bytes) c.self.view_is in
    let state = c.as_usize.ensures.value in
    omega (arith, c.self.inside.table.ok.0, c.self.inside.alphabet.bytes.ok.0, c.len.ensures)

pub returns-clause-next : goal.returns-clause-next
returns-clause-next g c key h =
    let v = c.args.self.now in
    let are : IsDense v = subst IsDense c.self.view_is c.self.invariant in
    let lt = inside v are c.args.state key (length v.dfa.bytes) h (omega arith) in
    let table = ap (λ (x : DenseValue). x.table) c.self.view_is in
    let length_table = ap (λ (xs : List ℕ). length xs) table in
    let bytes = ap (λ (x : DenseValue). length x.dfa.bytes) c.self.view_is in
    let state = c.as_usize.ensures.value in
    let of : c.len.result ≡ length c.self.inside.alphabet.bytes.items = omega (arith, c.self.inside.alphabet.bytes.ok.0, c.len.ensures) in
    let at : c.index.result.now ≡ slice_index v.table (c.args.state + length v.dfa.bytes) =
    table-cell c.self.inside.table.items v.table (c.as_usize.result + c.len.result) (c.args.state + length v.dfa.bytes) c.index.result.now table (omega arith)
    (omega arith) c.index.ensures in
    subst (λ n. Holds v n (last_key v.dfa key)) (sym at) (ended v are c.args.state key h)
