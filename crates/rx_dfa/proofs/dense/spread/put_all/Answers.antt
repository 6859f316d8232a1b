use Rattle.std.proofs.Common.{◌≡◌, ℕ, ◌+◌, ◌-◌, ◌<◌, [], drop, length, get_or, refl, sym, ◌∙◌, ap, arith}
use Rattle.std.specs.Prelude.{slice_index}
use Rattle.std.proofs.lemmas.List.{get_or_default}
use Rattle.rx_nfa.specs.Automaton.{state_at}
use Rattle.rx_nfa.specs.Ordered.{targets, with_target, target}
use Rattle.rx_nfa.proofs.lemmas.runs.StateLemmas.{state-known}
use Rattle.rx_dfa.proofs.lemmas.SpreadLemmas.{lists-same, drop-none, targets-more}
use Rattle.rx_dfa.proofs.dense.spread.put_all.Goals as goal

pub threads-init : goal.threads-init
threads-init c = record {
  within = omega arith;
  count = refl;
  lists = lists-same c.args.lists.now (λ class. []) _
      (λ class lt. ap (targets c.args.states.now (slice_index c.args.alphabet.now.bytes.items class)) (sym (drop-none c.args.threads.now))) c.requires.empty;
}

pub threads-preserved : goal.threads-preserved
threads-preserved c =
    let states = c.args.states.now in
    let threads = c.args.threads.now in
    let bytes = c.args.alphabet.now.bytes.items in
    let k = c.threads.left - 1 in
    let le = c.threads.invariant.within in
    let some = c.threads-test.true in
    let lt : k < length threads = omega arith in
    let next : k + 1 ≡ c.threads.left = omega arith in
    let q = c.index-threads-left.result in
    let at : q ≡ get_or threads k 0 = c.index-threads-left.is ∙ get_or_default threads k q 0 lt in
    let all = c.requires.below k 0 lt in
    let low : q < length states = omega arith in
    let is : state_at states q ≡ c.index-states-as_usize.result =
    state-known states c.as_usize.result q c.index-states-as_usize.result c.index-states-as_usize.result c.as_usize.ensures.value low
    c.index-states-as_usize.is refl in
    let s = c.index-states-as_usize.result in
    record {
      within = omega arith;
      count = c.put_targets.ensures.count ∙ c.threads.invariant.count;
      lists = lists-same c.put_targets.new.lists
          (λ class. with_target (target s (slice_index bytes class)) (targets states (slice_index bytes class) (drop c.threads.left threads)))
          (λ class. targets states (slice_index bytes class) (drop k threads))
          (λ class inside.
          ap (λ (n : ℕ). with_target (target s (slice_index bytes class)) (targets states (slice_index bytes class) (drop n threads))) (sym next)
          ∙ targets-more states (slice_index bytes class) threads k q s lt at (sym is))
          (c.in_ok-put_targets.ensures.lists (λ class. targets states (slice_index bytes class) (drop c.threads.left threads)) c.threads.invariant.lists);
    }
