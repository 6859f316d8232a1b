use Rattle.std.proofs.Common.{◌≡◌, ◌<◌, ◌≤◌, [], ◌∷◌, ◌++◌, sym, ap, subst, refl, arith, length}
use Rattle.std.specs.Prelude.{All}
use Rattle.std.proofs.lemmas.List.{length-append}
use Rattle.std.proofs.lemmas.List.Elements.{All-nil, All-cons, All-append}
use Rattle.rx_nfa.specs.Built.{IsChain}
use Rattle.rx_nfa.specs.Prefixes.{Lies}
use Rattle.rx_nfa.specs.declared.state.State.TheVariants.{ByteRange}
use Rattle.rx_nfa.proofs.lemmas.runs.StateLemmas.{state-known}
use Rattle.rx_nfa.proofs.lemmas.prefixes.TreeLemmas.{IsChain-lower}
use Rattle.rx_nfa.proofs.lemmas.prefixes.PlantLemmas.{chain-more}
use Rattle.rx_nfa.proofs.prefixes.fork.read_chain.Goals as goal

pub returns-then-after-as_usize : goal.returns-then-after-as_usize
returns-then-after-as_usize c =
    let states = c.args.states.now in
    let root = c.args.root in
    let place = c.loop-place.place in
    let byte = c.in-Some.step.0 in
    let inv = c.loop-place.invariant in
    let below = c.loop-place.invariant.below in
    let inside = c.requires.root in
    let known = state-known c.args.states.now c.loop-place.place c.loop-place.place c.index-states-place.result
    (ByteRange c.in-Some.step.0 c.in-Some.step.0 c.in-Some.step.1) refl (omega arith) c.index-states-place.is c.in-Some.ensures.step in
    let there = c.as_usize-after.ensures.value in
    let goes = c.as_usize.ensures.value in
    let test = c.if-after-as_usize.true in
    let same : c.in-Some.step.1 ≡ c.args.next = omega arith in
    let items = c.in_ok-push.ensures.items in
    let fits = c.in-Some.ensures.byte in
    let long = ap length items in
    let sum = length-append c.loop-place.word.items (c.in-Some.step.0 ∷ []) in
    record {
      above = omega arith;
      below = below;
      bytes = record {
        some = omega arith;
        bytes = subst (All (λ b. b < 256)) (sym items)
            (All-append (λ b. b < 256) c.loop-place.word.items (byte ∷ []) inv.bytes (All-cons (λ b. b < 256) byte [] fits (All-nil (λ b. b < 256))));
      };
      chain = subst (λ w. IsChain (Lies c.loop-place.place c.args.root c.args.states.now) c.args.head w c.args.next) (sym items)
          (subst (λ n. IsChain (Lies c.loop-place.place c.args.root c.args.states.now) c.args.head (c.loop-place.word.items ++ c.in-Some.step.0 ∷ []) n) same
          (chain-more states root c.args.head place byte c.in-Some.step.1 c.loop-place.word.items below c.requires.root known inv.chain));
    }

pub loop-place-preserved : goal.loop-place-preserved
loop-place-preserved c =
    let states = c.args.states.now in
    let root = c.args.root in
    let place = c.loop-place.place in
    let byte = c.in-Some.step.0 in
    let inv = c.loop-place.invariant in
    let below = c.loop-place.invariant.below in
    let inside = c.requires.root in
    let known = state-known c.args.states.now c.loop-place.place c.loop-place.place c.index-states-place.result
    (ByteRange c.in-Some.step.0 c.in-Some.step.0 c.in-Some.step.1) refl (omega arith) c.index-states-place.is c.in-Some.ensures.step in
    let items = c.in_ok-push.ensures.items in
    let fits = c.in-Some.ensures.byte in
    let there = c.as_usize-after.ensures.value in
    let less = c.if-after-place.false in
    let value : c.as_usize-after.result ≡ c.in-Some.step.1 = omega arith in
    let down : c.in-Some.step.1 ≤ c.loop-place.place = omega arith in
    record {
      below = omega arith;
      bytes = subst (All (λ b. b < 256)) (sym items)
          (All-append (λ b. b < 256) c.loop-place.word.items (byte ∷ []) inv.bytes (All-cons (λ b. b < 256) byte [] fits (All-nil (λ b. b < 256))));
      chain = subst (λ w. IsChain (Lies c.as_usize-after.result c.args.root c.args.states.now) c.args.head w
          c.as_usize-after.result)
          (sym items)
          (subst (λ n. IsChain (Lies n c.args.root c.args.states.now) c.args.head (c.loop-place.word.items ++ c.in-Some.step.0 ∷ []) n) (sym value)
          (IsChain-lower states place c.in-Some.step.1 root c.args.head (c.loop-place.word.items ++ c.in-Some.step.0 ∷ []) c.in-Some.step.1 down
          (chain-more states root c.args.head place byte c.in-Some.step.1 c.loop-place.word.items below c.requires.root known inv.chain)));
    }
