use Rattle.std.proofs.Common.{◌≡◌, ◌+◌, ◌<◌, ◌∷◌, length, refl, sym, ◌∙◌, ap, arith}
use Rattle.std.specs.Prelude.{◌==◌, if◌then◌else◌, slice_index}
use Rattle.std.proofs.lemmas.List.{get_or_read}
use Rattle.rx_nfa.specs.Ordered.{target, with_target}
use Rattle.rx_dfa.proofs.lemmas.SpreadLemmas.{lists-same, taken, taken-first, taken-all, taken-put, taken-none}
use Rattle.rx_dfa.proofs.dense.spread.put_targets.Goals.{in-Some+in_ok-put, in_default}
use Rattle.rx_dfa.proofs.dense.spread.put_targets.Goals as goal

pub classes-init : goal.classes-init
classes-init c = record {
  count = refl;
  lists = λ before are.
      lists-same c.args.lists.now before (taken c.args.state.now c.args.alphabet.now.bytes.items c.first_class-first.result before)
      (λ class lt. taken-first c.args.state.now c.args.alphabet.now.bytes.items c.first_class-first.result class before c.first_class-first.ensures.none) are;
}

pub classes-preserved : goal.classes-preserved
classes-preserved c =
    let s = c.args.state.now in
    let bytes = c.args.alphabet.now.bytes.items in
    let n = c.classes.class in
    let end = c.end_class-end.ensures.within in
    let inside : n < length bytes = omega (arith, c.classes-test.true) in
    let byte : c.index.result.now ≡ slice_index bytes n = get_or_read bytes n c.index.result.now inside c.index.ensures 0 in
    let told : c.target.result ≡ target s (slice_index bytes n) = c.target.ensures ∙ ap (target s) byte in
    elim c.match-target.branch [
      | in-Some+in_ok-put w ↦
          rw (w.lists-is)
          (record {
            count = w.put.ensures.count ∙ c.classes.invariant.count;
            lists = λ before are.
                lists-same w.put.new.self (λ class. if class == n then w.in-Some.next ∷ taken s bytes n before class else taken s bytes n before class)
                (taken s bytes (n + 1) before)
                (λ class lt. taken-put s bytes n w.in-Some.next class before (sym told ∙ w.in-Some.is))
                (w.in_ok-put.ensures.lists (taken s bytes n before) (c.classes.invariant.lists before are));
          })
      | in_default w ↦
          rw (w.lists-is)
          (record {
            count = c.classes.invariant.count;
            lists = λ before are.
                lists-same c.classes.lists (taken s bytes n before) (taken s bytes (n + 1) before)
                (λ class lt. taken-none s bytes n class before (sym told ∙ w.in_default.is)) (c.classes.invariant.lists before are);
          })
    ]

pub returns-clause-lists : goal.returns-clause-lists
returns-clause-lists c = λ before are.
    let s = c.args.state.now in
    let bytes = c.args.alphabet.now.bytes.items in
    let n = c.classes.class in
    let count = c.classes.invariant.count in
    let wide = c.requires.count in
    lists-same c.classes.lists (taken s bytes n before) (λ class. with_target (target s (slice_index bytes class)) (before class))
    (λ class lt. taken-all s bytes n class before (omega arith)
    (λ i le below. c.end_class-end.ensures.none i (omega (arith, c.classes-test.false)) below))
    (c.classes.invariant.lists before are)
