use Rattle.std.proofs.Common.{◌≡◌, ◌-◌, subst, sym, ap, refl, arith, length, drop, get_or}
use Rattle.rx_nfa.specs.Directed.{in_order}
use Rattle.rx_nfa.specs.Draft.{Draft, Extends, pushed}
use Rattle.rx_nfa.specs.States.{Stands}
use Rattle.rx_nfa.specs.Built.{IsChain}
use Rattle.rx_nfa.specs.declared.state.State.TheVariants.{ByteRange}
use Rattle.rx_nfa.proofs.lemmas.parts.BuiltLemmas.{Extends-same, Extends-trans, Extends-pushed, pushed-length}
use Rattle.rx_nfa.proofs.lemmas.parts.OrderLemmas.{in_order-length, in_order-is}
use Rattle.rx_nfa.proofs.lemmas.parts.TextLemmas.{IsChain-more, IsChain-none, Built-text}
use Rattle.rx_nfa.proofs.compiler.expression.compile_literal.Goals as goal

pub loop-left-init : goal.loop-left-init
loop-left-init c =
    let long = in_order-length c.args.reverse c.args.bytes.now in
    record {
      extends = Extends-same c.args.builder.now;
      chain = IsChain-none (Stands (length c.args.builder.now.states) c.args.builder.now.states) c.args.next (in_order c.args.reverse c.args.bytes.now)
          (length c.args.bytes.now) (omega arith);
      count = omega arith;
      within = omega arith;
      inside = c.requires.next;
    }

pub loop-left-preserved : goal.loop-left-preserved
loop-left-preserved c =
    let bytes = in_order c.args.reverse c.args.bytes.now in
    let long = in_order-length c.args.reverse c.args.bytes.now in
    let b = get_or c.args.bytes.now c.place_of.result 0 in
    let within = c.loop-left.invariant.within in
    let byte_is = in_order-is c.args.reverse c.args.bytes.now (length c.args.bytes.now) (c.loop-left.left - 1) c.place_of.result b 0 refl
    (omega arith) c.place_of.ensures.value refl in
    let state = ByteRange b b c.loop-left.start in
    let is = c.in_ok-start.ensures.states in
    let old = c.args.builder.now in
    let before = c.loop-left.builder in
    let id = c.in_ok-start.ensures.id in
    let longer = ap (λ (d : Draft). length d.states) is in
    let one = pushed-length before state in
    let count = c.loop-left.invariant.count in
    record {
      extends = subst (Extends old) (sym is) (Extends-trans old before (pushed before state) c.loop-left.invariant.extends (Extends-pushed before state));
      chain =
          subst (λ q. IsChain (Stands (length old.states) c.push.new.self.states) q (drop (c.loop-left.left - 1) bytes) c.args.next) (sym id)
          (IsChain-more old before c.push.new.self bytes c.loop-left.left b c.loop-left.start c.args.next c.loop-left.invariant.extends (omega arith)
          (omega arith) byte_is is c.loop-left.invariant.chain);
      count = omega arith;
      within = omega arith;
      inside = omega arith;
    }

pub returns-clause-built : goal.returns-clause-built
returns-clause-built c =
    let none : c.loop-left.left ≡ 0 = omega arith in
    let bytes = in_order c.args.reverse c.args.bytes.now in
    let long = in_order-length c.args.reverse c.args.bytes.now in
    let some = c.requires.some in
    Built-text c.args.builder.now c.loop-left.builder bytes c.loop-left.start c.args.next (omega arith) c.loop-left.invariant.extends
    (subst (λ n. IsChain (Stands (length c.args.builder.now.states) c.loop-left.builder.states) c.loop-left.start
    (drop n (in_order c.args.reverse c.args.bytes.now)) c.args.next) none c.loop-left.invariant.chain)
