use Rattle.std.proofs.Common.{◌+◌, [], ◌∷◌, refl, ap, subst, arith, length, length-append, get_or}
use Rattle.rx_model.specs.Graph.{build_state}
use Rattle.rx_nfa.specs.Built.{AddsParts}
use Rattle.rx_nfa.specs.Directed.{byte_between}
use Rattle.rx_nfa.specs.Draft.{Draft}
use Rattle.rx_nfa.specs.declared.state.State.TheVariants.{ByteRange}
use Rattle.rx_nfa.proofs.lemmas.parts.BuiltLemmas.{pushed-length}
use Rattle.rx_nfa.proofs.lemmas.parts.AddsLemmas.{Adds-built, Built-byte}
use Rattle.rx_nfa.proofs.lemmas.parts.DigitsBuilt.{build_first, first-bytes, digits-first, adds-more, adds-all}
use Rattle.rx_nfa.proofs.lemmas.parts.CompileLemmas.{below-more}
use Rattle.rx_nfa.proofs.backwards.push_first_digits.Goals as goal

pub loop-range-init : goal.loop-range-init
loop-range-init c = record {
  adds = (refl, refl);
  inside = c.requires.starts;
  count = omega arith;
  ways = omega arith;
}

pub push_bytes-requires-clause-bytes : goal.push_bytes-requires-clause-bytes
push_bytes-requires-clause-bytes c =
    first-bytes c.args.lead (get_or c.args.ranges.now c.loop-range.range-index (0, 0))
    (c.requires.digits c.loop-range.range-index (0, 0) c.loop-range-test.true)

pub push_bytes-requires-clause-fits : goal.push_bytes-requires-clause-fits
push_bytes-requires-clause-fits c =
    let count = c.loop-range.invariant.count in let fits = c.requires.fits in let lt = c.loop-range-test.true in omega arith

pub loop-range-preserved : goal.loop-range-preserved
loop-range-preserved c =
    let k = c.loop-range.range-index in
    let r = get_or c.args.ranges.now c.loop-range.range-index (0, 0) in
    let lt = c.loop-range-test.true in
    let bytes = first-bytes c.args.lead r (c.requires.digits k (0, 0) lt) in
    let rise = bytes.0 in
    let count = c.loop-range.invariant.count in
    let ways = c.loop-range.invariant.ways in
    let grown = ap (λ (d : Draft). length d.states) c.in_ok-start.ensures.states in
    let one = pushed-length c.loop-range.builder (ByteRange (c.args.lead + r.0) (c.args.lead + r.1) c.args.next) in
    let id = c.in_ok-start.ensures.id in
    let pushed = ap length c.in_ok-push.ensures.items in
    let last = length-append c.loop-range.starts.items (c.in_ok-start.start ∷ []) in
    record {
      adds = adds-more (build_first c.args.lead) c.args.ranges.now k r (0, 0) c.args.next c.args.builder.now c.loop-range.builder c.push_bytes.new.builder
          c.args.starts.now.items c.loop-range.starts.items c.push.new.self.items lt refl c.loop-range.invariant.adds
          (Adds-built (build_state (byte_between (c.args.lead + r.0) (c.args.lead + r.1))) c.args.next c.in_ok-start.start c.loop-range.builder
          c.push_bytes.new.builder c.loop-range.starts.items c.push.new.self.items
          (Built-byte (c.args.lead + r.0) (c.args.lead + r.1) c.args.next c.in_ok-start.start c.loop-range.builder c.push_bytes.new.builder
          (omega arith) bytes.1
          c.in_ok-start.ensures.id c.in_ok-start.ensures.states) c.in_ok-push.ensures.items);
      inside = below-more (length c.loop-range.builder.states) (length c.push_bytes.new.builder.states) c.loop-range.starts.items c.push.new.self.items
          c.in_ok-start.start (omega arith) (omega arith) c.in_ok-push.ensures.items c.loop-range.invariant.inside;
      count = omega arith;
      ways = omega arith;
    }

pub returns-clause-adds : goal.returns-clause-adds
returns-clause-adds c =
    subst (λ p. AddsParts p c.args.next c.args.builder.now c.loop-range.builder c.args.starts.now.items c.loop-range.starts.items)
    (digits-first c.args.lead c.args.ranges.now)
    (adds-all (build_first c.args.lead) c.args.ranges.now c.loop-range.range-index c.args.next c.args.builder.now c.loop-range.builder c.args.starts.now.items
    c.loop-range.starts.items (omega arith) c.loop-range.invariant.adds)
