use Rattle.std.proofs.Common.{◌≡◌, ◌<◌, ℕ, Option, length, true, refl, sym, ◌∙◌, ap, subst, arith}
use Rattle.std.specs.Prelude.{IfSome, nat_eq, slice_index}
use Rattle.rx_dfa.specs.Alphabet.{reads}
use Rattle.rx_dfa.specs.Table.{context, DenseValue, IsDense}
use Rattle.rx_dfa.proofs.lemmas.TableLemmas.{not-false, same-from, table-cell, begun-inside, begun}
use Rattle.rx_dfa.proofs.dense.Dense.is_begun.Goals as goal

pub returns : goal.returns
returns c yes_is =
    let v = c.args.self.now in
    let are : IsDense v = subst IsDense c.self.view_is c.self.invariant in
    let starts = ap (λ (x : DenseValue). x.starts) c.self.view_is in
    let long = ap (λ (x : DenseValue). length x.starts) c.self.view_is in
    let inside = begun-inside v are c.args.class c.requires in
    let lt : c.args.class < length c.self.inside.starts.items = omega arith in
    let cell : c.index.result.now ≡ slice_index v.starts c.args.class =
    table-cell c.self.inside.starts.items v.starts c.args.class c.args.class c.index.result.now starts refl lt c.index.ensures in
    let test : nat_eq c.index.result.now c.args.state ≡ true = not-false (nat_eq c.index.result.now c.args.state) (sym c.ne.ensures ∙ c.if-ne.false) in
    let there = sym cell ∙ same-from c.index.result.now c.args.state test in
    let read : IfSome (context v.dfa.keeps v.dfa.bytes c.args.class) (λ b. reads v.words b ≡ true) =
    subst (λ (x : DenseValue). IfSome (context x.dfa.keeps x.dfa.bytes c.args.class) (λ b. reads x.words b ≡ true)) c.self.view_is
    (subst (λ (o : Option ℕ). IfSome o (λ b. reads c.self.inside.alphabet.words b ≡ true)) c.context.ensures c.in_default.ensures.none) in
    begun v are c.args.class c.args.state c.requires read there
