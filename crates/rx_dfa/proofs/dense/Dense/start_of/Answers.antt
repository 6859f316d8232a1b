use Rattle.std.proofs.Common.{◌≡◌, ◌+◌, ◌*◌, ◌≤◌, length, refl, sym, ◌∙◌, ap, subst, arith}
use Rattle.std.specs.Prelude.{None, Some, slice_get}
use Rattle.std.proofs.Math.Nat.{mul-le-mul_left}
use Rattle.std.proofs.lemmas.Option.{slice_get_read, slice_get_past}
use Rattle.rx_search.specs.Anchored.{anchor_of}
use Rattle.rx_dfa.specs.Automaton.{first_key}
use Rattle.rx_dfa.specs.Table.{context_count, context_of, DenseValue, Holds, IsDense}
use Rattle.rx_dfa.proofs.lemmas.TableLemmas.{few-bytes, few-contexts, started, not-started}
use Rattle.rx_dfa.proofs.dense.Dense.start_of.Goals as goal

pub overflow_add-index : goal.overflow_add-index
overflow_add-index c =
    let v = c.args.self.now in
    let are : IsDense v = subst IsDense c.self.view_is c.self.invariant in
    let few = few-contexts v are v.dfa.keeps in
    let bytes = few-bytes v are in
    let long = ap (λ (x : DenseValue). length x.dfa.bytes) c.self.view_is in
    let count : c.contexts.result ≡ context_count v.dfa.keeps v.dfa.bytes =
    c.contexts.ensures ∙ ap (λ (x : DenseValue). context_count x.dfa.keeps x.dfa.bytes) c.self.view_is in
    let le : c.contexts.result ≤ 257 = omega arith in
    let mode = c.mode_of.ensures.small in
    let class = c.context_of-class.ensures.small in
    let product = mul-le-mul_left c.mode_of.result le in
    omega arith

pub returns-in-Some : goal.returns-in-Some
returns-in-Some c =
    let v = c.args.self.now in
    let are : IsDense v = subst IsDense c.self.view_is c.self.invariant in
    let e = c.in-Some.ensures.lookup in
    let starts : c.deref.result.now ≡ v.starts = c.deref.ensures.value ∙ ap (λ (x : DenseValue). x.starts) c.self.view_is in
    let count : c.contexts.result ≡ context_count v.dfa.keeps v.dfa.bytes =
    c.contexts.ensures ∙ ap (λ (x : DenseValue). context_count x.dfa.keeps x.dfa.bytes) c.self.view_is in
    let class : c.context_of-class.result ≡ context_of v.dfa.keeps v.dfa.classes v.dfa.bytes c.args.beside =
    c.context_of-class.ensures.value ∙ ap (λ (x : DenseValue). context_of x.dfa.keeps x.dfa.classes x.dfa.bytes c.args.beside) c.self.view_is in
    let index = c.mode_of.result * c.contexts.result + c.context_of-class.result in
    let there : slice_get c.deref.result.now index ≡ Some c.in-Some.state.now =
    slice_get_read c.deref.result.now (length c.deref.result.now) index c.in-Some.state.now refl e.3.0 e.1 in
    started v are (anchor_of c.args.mode) c.args.beside c.in-Some.state.now c.requires
    (sym (λ j. slice_get (starts j) (c.mode_of.ensures.value j * count j + class j)) ∙ there)

pub returns-in-None : goal.returns-in-None
returns-in-None c =
    let v = c.args.self.now in
    let are : IsDense v = subst IsDense c.self.view_is c.self.invariant in
    let e = c.in-None.ensures.lookup in
    let starts : c.deref.result.now ≡ v.starts = c.deref.ensures.value ∙ ap (λ (x : DenseValue). x.starts) c.self.view_is in
    let count : c.contexts.result ≡ context_count v.dfa.keeps v.dfa.bytes =
    c.contexts.ensures ∙ ap (λ (x : DenseValue). context_count x.dfa.keeps x.dfa.bytes) c.self.view_is in
    let class : c.context_of-class.result ≡ context_of v.dfa.keeps v.dfa.classes v.dfa.bytes c.args.beside =
    c.context_of-class.ensures.value ∙ ap (λ (x : DenseValue). context_of x.dfa.keeps x.dfa.classes x.dfa.bytes c.args.beside) c.self.view_is in
    let index = c.mode_of.result * c.contexts.result + c.context_of-class.result in
    let there : slice_get c.deref.result.now index ≡ None = slice_get_past c.deref.result.now index e.3 in
    subst (λ n. Holds v n (first_key v.dfa (anchor_of c.args.mode) c.args.beside)) (sym (ap (λ (x : DenseValue). x.dead) c.self.view_is))
    (not-started v are (anchor_of c.args.mode) c.args.beside
    (sym (λ j. slice_get (starts j) (c.mode_of.ensures.value j * count j + class j)) ∙ there))
