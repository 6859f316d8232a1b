use Rattle.std.proofs.Common.{◌≡◌, ◌<◌, ◌+◌, ◌-◌, ◌∙◌, [], ◌∷◌, refl, sym, ap, subst, arith, length, length-append, get_or}
use Rattle.std.proofs.lemmas.Result.{IfOk-from_err}
use Rattle.std.specs.Prelude.{All, OnOk, map, sum_by}
use Rattle.rx_nfa.specs.Built.{Built, AddsParts}
use Rattle.rx_nfa.specs.Directed.{build_all, build_last, build_behind, build_digits, lasts_of, before_last}
use Rattle.rx_nfa.specs.Digits.{FitsDigits, IsDigits, IsPiece, joints, ways_of_digits, states_of_digits, states_of_group, states_behind}
use Rattle.rx_nfa.specs.Draft.{Draft, pushed}
use Rattle.rx_nfa.specs.declared.state.State.TheVariants.{ByteRange}
use Rattle.rx_nfa.proofs.lemmas.parts.BuiltLemmas.{pushed-length}
use Rattle.rx_nfa.proofs.lemmas.parts.CompileLemmas.{below-more}
use Rattle.rx_nfa.proofs.lemmas.parts.DigitsBuilt.{digits-next, states-digits-first, ways-digits-first, states-digits-next, ways-digits-next, adds-more, adds-all, sum-drop, sum-past, last-built}
use Rattle.rx_nfa.proofs.lemmas.parts.AddsLemmas.{Adds-built}
use Rattle.rx_nfa.proofs.lemmas.parts.LastLemmas.{pieces-fit, lasts-fit, before-fits}
use Rattle.rx_nfa.proofs.lemmas.parts.ResultLemmas.{IfOk-both, OnOk-of}
use Rattle.rx_nfa.proofs.backwards.+digits.Goals as goal

-- One digit.

pub push_digits-push_first_digits-requires-clause-digits : goal.push_digits-push_first_digits-requires-clause-digits
push_digits-push_first_digits-requires-clause-digits t c =
    let none : c.args.depth ≡ 0 = omega arith in subst (λ d. All (FitsDigits c.args.lead d) c.args.ranges.now) none c.requires.digits

pub push_digits-push_first_digits-requires-clause-fits : goal.push_digits-push_first_digits-requires-clause-fits
push_digits-push_first_digits-requires-clause-fits t c =
    let none : c.args.depth ≡ 0 = omega arith in
    let states = ap (λ d. states_of_digits d c.args.ranges.now) none ∙ states-digits-first c.args.ranges.now in
    let fits = c.requires.fits in
    omega arith

pub push_digits-returns-then-depth-eq0-clause-adds : goal.push_digits-returns-then-depth-eq0-clause-adds
push_digits-returns-then-depth-eq0-clause-adds t c =
    let none : c.args.depth ≡ 0 = omega arith in
    subst
    (λ d. OnOk c.push_first_digits.result (AddsParts (build_digits c.args.lead d c.args.ranges.now) c.args.next c.args.builder.now
    c.push_first_digits.new.builder
    c.args.starts.now.items c.push_first_digits.new.starts.items)) (sym none) c.push_first_digits.ensures.adds

pub push_digits-returns-then-depth-eq0-clause-count : goal.push_digits-returns-then-depth-eq0-clause-count
push_digits-returns-then-depth-eq0-clause-count t c =
    let none : c.args.depth ≡ 0 = omega arith in
    let states = ap (λ d. states_of_digits d c.args.ranges.now) none ∙ states-digits-first c.args.ranges.now in
    subst (λ n. OnOk c.push_first_digits.result (length c.push_first_digits.new.builder.states ≡ length c.args.builder.now.states + n)) (sym states)
    c.push_first_digits.ensures.count

pub push_digits-returns-then-depth-eq0-clause-ways : goal.push_digits-returns-then-depth-eq0-clause-ways
push_digits-returns-then-depth-eq0-clause-ways t c =
    let none : c.args.depth ≡ 0 = omega arith in
    let ways = ap (λ d. ways_of_digits d c.args.ranges.now) none ∙ ways-digits-first c.args.ranges.now in
    subst (λ n. OnOk c.push_first_digits.result (length c.push_first_digits.new.starts.items ≡ length c.args.starts.now.items + n)) (sym ways)
    c.push_first_digits.ensures.ways

-- More digits.

pub push_digits-push_groups-requires : goal.push_digits-push_groups-requires
push_digits-push_groups-requires t c =
    let is = c.deref.ensures.value ∙ c.in_ok-pieces.ensures in
    let states = states-digits-next c.args.depth c.args.ranges.now (omega arith) in
    let same = ap (λ ps. sum_by (states_behind (c.args.depth - 1) ps) (lasts_of ps)) is in
    let fits = c.requires.fits in (
      omega arith,
      (
        c.requires.next,
        (
          c.requires.starts,
          (
            omega arith,
            (
              subst (All (IsPiece c.args.lead c.args.depth)) (sym is) (pieces-fit c.args.lead c.args.depth c.args.ranges.now (omega arith) c.requires.digits),
              omega arith,
            ),
          ),
        ),
      ),
    )

pub push_digits-returns-clause-adds : goal.push_digits-returns-clause-adds
push_digits-returns-clause-adds t c =
    let is = c.deref.ensures.value ∙ c.in_ok-pieces.ensures in
    let parts = ap (λ ps. build_all (map (build_behind c.args.lead (c.args.depth - 1) ps) (lasts_of ps))) is
    ∙ digits-next c.args.lead c.args.depth c.args.ranges.now (omega arith) in
    subst
    (λ p. OnOk c.push_groups.result (AddsParts p c.args.next c.args.builder.now c.push_groups.new.builder c.args.starts.now.items
    c.push_groups.new.starts.items)) parts c.push_groups.ensures.adds

pub push_digits-returns-clause-count : goal.push_digits-returns-clause-count
push_digits-returns-clause-count t c =
    let is = c.deref.ensures.value ∙ c.in_ok-pieces.ensures in
    let states = ap (λ ps. sum_by (states_behind (c.args.depth - 1) ps) (lasts_of ps)) is ∙ states-digits-next c.args.depth c.args.ranges.now (omega arith) in
    subst (λ n. OnOk c.push_groups.result (length c.push_groups.new.builder.states ≡ length c.args.builder.now.states + n)) states c.push_groups.ensures.count

pub push_digits-returns-clause-ways : goal.push_digits-returns-clause-ways
push_digits-returns-clause-ways t c =
    let is = c.deref.ensures.value ∙ c.in_ok-pieces.ensures in
    let ways = ap (λ ps. length (lasts_of ps)) is ∙ ways-digits-next c.args.depth c.args.ranges.now (omega arith) in
    subst (λ n. OnOk c.push_groups.result (length c.push_groups.new.starts.items ≡ length c.args.starts.now.items + n)) ways c.push_groups.ensures.ways

-- The ranges of last digits, in turn.

pub push_groups-loop-last-init : goal.push_groups-loop-last-init
push_groups-loop-last-init t c = record {
  adds = (refl, refl);
  inside = c.requires.starts;
  longer = omega arith;
  count = refl;
  ways = omega arith;
}

pub push_groups-push_last-requires : goal.push_groups-push_last-requires
push_groups-push_last-requires t c =
    let lasts = c.deref-last-items.result.now in
    let k = c.loop-last.last-index in
    let last = get_or c.deref-last-items.result.now c.loop-last.last-index (0, 0) in
    let lt = c.loop-last-test.true in
    let before_is = c.deref.ensures.value ∙ c.in_ok-before.ensures in
    let next = c.requires.next in
    let longer = c.loop-last.invariant.longer in
    let count = c.loop-last.invariant.count in
    let now = sum-drop (states_behind (c.args.depth - 1) c.args.pieces.now) lasts k last (0, 0) lt refl in
    let all = ap (sum_by (states_behind (c.args.depth - 1) c.args.pieces.now)) (c.deref-last-items.ensures.value ∙ c.in_ok-lasts.ensures) in
    let fits = c.requires.fits in
    let states = ap (states_of_group (c.args.depth - 1)) before_is in (
      omega arith,
      (
        omega arith,
        (
          c.requires.some,
          (
            subst (All (FitsDigits c.args.lead (c.args.depth - 1))) (sym before_is)
                (before-fits c.args.lead c.args.depth last c.args.pieces.now c.requires.digits),
            (
              subst (All IsDigits) (sym (c.deref-last-items.ensures.value ∙ c.in_ok-lasts.ensures))
                  (lasts-fit c.args.lead c.args.depth c.args.pieces.now c.requires.digits) k (0, 0) lt,
              omega arith,
            ),
          ),
        ),
      ),
    )

pub push_groups-loop-last-preserved : goal.push_groups-loop-last-preserved
push_groups-loop-last-preserved t c =
    let lasts = c.deref-last-items.result.now in
    let k = c.loop-last.last-index in
    let last = get_or c.deref-last-items.result.now c.loop-last.last-index (0, 0) in
    let lt = c.loop-last-test.true in
    let before_is = c.deref.ensures.value ∙ c.in_ok-before.ensures in
    let longer = c.loop-last.invariant.longer in
    let count = c.loop-last.invariant.count in
    let ways = c.loop-last.invariant.ways in
    let now = sum-drop (states_behind (c.args.depth - 1) c.args.pieces.now) lasts k last (0, 0) lt refl in
    let states = ap (states_of_group (c.args.depth - 1)) before_is in
    let more = c.in_ok-start.ensures.count in
    let start = c.in_ok-start.start in
    let built = subst (λ rs. Built (build_last last (build_digits c.args.lead (c.args.depth - 1) rs)) c.args.next c.loop-last.builder c.push_last.new.builder
    c.in_ok-start.start) before_is c.in_ok-start.ensures.built in
    let pushed = ap length c.in_ok-push.ensures.items in
    let one = length-append c.loop-last.starts.items (c.in_ok-start.start ∷ []) in
    record {
      adds = adds-more (build_behind c.args.lead (c.args.depth - 1) c.args.pieces.now) lasts k last (0, 0) c.args.next c.args.builder.now c.loop-last.builder
          c.push_last.new.builder c.args.starts.now.items c.loop-last.starts.items c.push.new.self.items lt refl c.loop-last.invariant.adds
          (Adds-built (build_last last (build_digits c.args.lead (c.args.depth - 1) (before_last last c.args.pieces.now))) c.args.next start c.loop-last.builder
          c.push_last.new.builder c.loop-last.starts.items c.push.new.self.items built c.in_ok-push.ensures.items);
      inside = below-more (length c.loop-last.builder.states) (length c.push_last.new.builder.states) c.loop-last.starts.items c.push.new.self.items start
          (omega arith) c.in_ok-start.ensures.inside c.in_ok-push.ensures.items c.loop-last.invariant.inside;
      longer = omega arith;
      count = omega arith;
      ways = omega arith;
    }

pub push_groups-returns-clause-adds : goal.push_groups-returns-clause-adds
push_groups-returns-clause-adds t c =
    subst
    (λ ks. AddsParts (build_all (map (build_behind c.args.lead (c.args.depth - 1) c.args.pieces.now) ks)) c.args.next c.args.builder.now c.loop-last.builder
    c.args.starts.now.items c.loop-last.starts.items) (c.deref-last-items.ensures.value ∙ c.in_ok-lasts.ensures)
    (adds-all (build_behind c.args.lead (c.args.depth - 1) c.args.pieces.now) c.deref-last-items.result.now c.loop-last.last-index c.args.next
    c.args.builder.now
    c.loop-last.builder c.args.starts.now.items c.loop-last.starts.items (omega arith) c.loop-last.invariant.adds)

pub push_groups-returns-clause-count : goal.push_groups-returns-clause-count
push_groups-returns-clause-count t c =
    let count = c.loop-last.invariant.count in
    let all = ap (sum_by (states_behind (c.args.depth - 1) c.args.pieces.now)) (c.deref-last-items.ensures.value ∙ c.in_ok-lasts.ensures) in
    let none = sum-past (states_behind (c.args.depth - 1) c.args.pieces.now) c.deref-last-items.result.now c.loop-last.last-index (omega arith) in
    omega arith

pub push_groups-returns-clause-ways : goal.push_groups-returns-clause-ways
push_groups-returns-clause-ways t c =
    let ways = c.loop-last.invariant.ways in let all = ap length (c.deref-last-items.ensures.value ∙ c.in_ok-lasts.ensures) in
    let within = c.loop-last.auto in omega arith

-- One range of last digits.

pub push_last-push_digits-requires : goal.push_last-push_digits-requires
push_last-push_digits-requires t c =
    let some = c.requires.some in
    let fits = c.requires.fits in (
      omega arith,
      (
        c.requires.next,
        (
          subst (All (λ q. q < length c.args.builder.now.states)) (sym c.new-ways.ensures.items) (λ k d lt. absurd (omega arith)),
          (c.requires.digits, omega arith),
        ),
      ),
    )

pub push_last-join-requires-clause-fits : goal.push_last-join-requires-clause-fits
push_last-join-requires-clause-fits t c =
    let none = ap length c.new-ways.ensures.items in
    let ways = c.in_ok-push_digits.ensures.ways in
    let count = c.in_ok-push_digits.ensures.count in
    let same : length c.push_digits.new.starts.items ≡ ways_of_digits (c.args.depth - 1) c.args.before.now = omega arith in
    let joint = ap joints same in
    let fits = c.requires.fits in
    omega arith

pub push_last-push_bytes-requires : goal.push_last-push_bytes-requires
push_last-push_bytes-requires t c =
    let none = ap length c.new-ways.ensures.items in
    let ways = c.in_ok-push_digits.ensures.ways in
    let count = c.in_ok-push_digits.ensures.count in
    let same : length c.push_digits.new.starts.items ≡ ways_of_digits (c.args.depth - 1) c.args.before.now = omega arith in
    let joint = ap joints same in
    let more = c.in_ok-rest.ensures.count in
    let small = c.requires.last.small in
    let fits = c.requires.fits in
    record { next = c.in_ok-rest.ensures.inside; bytes = (c.requires.last.ordered, omega arith); fits = omega arith }

pub push_last-returns-clause-built : goal.push_last-returns-clause-built
push_last-returns-clause-built t c =
    IfOk-both (λ id. id ≡ length c.join.new.builder.states)
    (λ id. c.push_bytes.new.builder ≡ pushed c.join.new.builder (ByteRange (0x80 + c.args.last.0) (0x80 + c.args.last.1) c.in_ok-rest.rest)) _
    c.push_bytes.result c.push_bytes.ensures.id c.push_bytes.ensures.states
    (λ q id is. last-built c.args.last (build_digits c.args.lead (c.args.depth - 1) c.args.before.now) c.args.next c.in_ok-rest.rest q c.args.builder.now
    c.push_digits.new.builder c.join.new.builder c.push_bytes.new.builder c.push_digits.new.starts.items c.requires.last.ordered c.requires.last.small
    (subst (λ qs. AddsParts (build_digits c.args.lead (c.args.depth - 1) c.args.before.now) c.args.next c.args.builder.now c.push_digits.new.builder qs
    c.push_digits.new.starts.items) c.new-ways.ensures.items c.in_ok-push_digits.ensures.adds) c.in_ok-rest.ensures.joined id is)

pub push_last-returns-clause-inside : goal.push_last-returns-clause-inside
push_last-returns-clause-inside t c =
    IfOk-both (λ id. id ≡ length c.join.new.builder.states)
    (λ id. c.push_bytes.new.builder ≡ pushed c.join.new.builder (ByteRange (0x80 + c.args.last.0) (0x80 + c.args.last.1) c.in_ok-rest.rest)) _
    c.push_bytes.result c.push_bytes.ensures.id c.push_bytes.ensures.states
    (λ q id is.
    let grown = ap (λ (d : Draft). length d.states) is in
    let one = pushed-length c.join.new.builder (ByteRange (0x80 + c.args.last.0) (0x80 + c.args.last.1) c.in_ok-rest.rest) in
    omega arith)

pub push_last-returns-clause-count : goal.push_last-returns-clause-count
push_last-returns-clause-count t c =
    let none = ap length c.new-ways.ensures.items in
    let ways = c.in_ok-push_digits.ensures.ways in
    let count = c.in_ok-push_digits.ensures.count in
    let same : length c.push_digits.new.starts.items ≡ ways_of_digits (c.args.depth - 1) c.args.before.now = omega arith in
    let joint = ap joints same in
    let more = c.in_ok-rest.ensures.count in
    OnOk-of (λ id. c.push_bytes.new.builder ≡ pushed c.join.new.builder (ByteRange (0x80 + c.args.last.0) (0x80 + c.args.last.1) c.in_ok-rest.rest))
    (length c.push_bytes.new.builder.states ≡ length c.args.builder.now.states + states_of_group (c.args.depth - 1) c.args.before.now)
    c.push_bytes.result c.push_bytes.ensures.states
    (λ id is.
    let grown = ap (λ (d : Draft). length d.states) is in
    let one = pushed-length c.join.new.builder (ByteRange (0x80 + c.args.last.0) (0x80 + c.args.last.1) c.in_ok-rest.rest) in
    omega arith)

pub push_digits-returns-in_err-pieces-clause-adds : goal.push_digits-returns-in_err-pieces-clause-adds
push_digits-returns-in_err-pieces-clause-adds t c = IfOk-from_err c.from_residual.result _ c.from_residual.ensures.0

pub push_digits-returns-in_err-pieces-clause-inside : goal.push_digits-returns-in_err-pieces-clause-inside
push_digits-returns-in_err-pieces-clause-inside t c = IfOk-from_err c.from_residual.result _ c.from_residual.ensures.0

pub push_digits-returns-in_err-pieces-clause-count : goal.push_digits-returns-in_err-pieces-clause-count
push_digits-returns-in_err-pieces-clause-count t c = IfOk-from_err c.from_residual.result _ c.from_residual.ensures.0

pub push_digits-returns-in_err-pieces-clause-ways : goal.push_digits-returns-in_err-pieces-clause-ways
push_digits-returns-in_err-pieces-clause-ways t c = IfOk-from_err c.from_residual.result _ c.from_residual.ensures.0

pub push_groups-returns-in_err-lasts-clause-adds : goal.push_groups-returns-in_err-lasts-clause-adds
push_groups-returns-in_err-lasts-clause-adds t c = IfOk-from_err c.from_residual.result _ c.from_residual.ensures.0

pub push_groups-returns-in_err-lasts-clause-inside : goal.push_groups-returns-in_err-lasts-clause-inside
push_groups-returns-in_err-lasts-clause-inside t c = IfOk-from_err c.from_residual.result _ c.from_residual.ensures.0

pub push_groups-returns-in_err-lasts-clause-count : goal.push_groups-returns-in_err-lasts-clause-count
push_groups-returns-in_err-lasts-clause-count t c = IfOk-from_err c.from_residual.result _ c.from_residual.ensures.0

pub push_groups-returns-in_err-lasts-clause-ways : goal.push_groups-returns-in_err-lasts-clause-ways
push_groups-returns-in_err-lasts-clause-ways t c = IfOk-from_err c.from_residual.result _ c.from_residual.ensures.0

pub push_groups-returns-in_err-before-clause-adds : goal.push_groups-returns-in_err-before-clause-adds
push_groups-returns-in_err-before-clause-adds t c = IfOk-from_err c.from_residual-in_err-before.result _ c.from_residual-in_err-before.ensures.0

pub push_groups-returns-in_err-before-clause-inside : goal.push_groups-returns-in_err-before-clause-inside
push_groups-returns-in_err-before-clause-inside t c = IfOk-from_err c.from_residual-in_err-before.result _ c.from_residual-in_err-before.ensures.0

pub push_groups-returns-in_err-before-clause-count : goal.push_groups-returns-in_err-before-clause-count
push_groups-returns-in_err-before-clause-count t c = IfOk-from_err c.from_residual-in_err-before.result _ c.from_residual-in_err-before.ensures.0

pub push_groups-returns-in_err-before-clause-ways : goal.push_groups-returns-in_err-before-clause-ways
push_groups-returns-in_err-before-clause-ways t c = IfOk-from_err c.from_residual-in_err-before.result _ c.from_residual-in_err-before.ensures.0

pub push_groups-returns-in_err-start-clause-adds : goal.push_groups-returns-in_err-start-clause-adds
push_groups-returns-in_err-start-clause-adds t c = IfOk-from_err c.from_residual-in_err-start.result _ c.from_residual-in_err-start.ensures.0

pub push_groups-returns-in_err-start-clause-inside : goal.push_groups-returns-in_err-start-clause-inside
push_groups-returns-in_err-start-clause-inside t c = IfOk-from_err c.from_residual-in_err-start.result _ c.from_residual-in_err-start.ensures.0

pub push_groups-returns-in_err-start-clause-count : goal.push_groups-returns-in_err-start-clause-count
push_groups-returns-in_err-start-clause-count t c = IfOk-from_err c.from_residual-in_err-start.result _ c.from_residual-in_err-start.ensures.0

pub push_groups-returns-in_err-start-clause-ways : goal.push_groups-returns-in_err-start-clause-ways
push_groups-returns-in_err-start-clause-ways t c = IfOk-from_err c.from_residual-in_err-start.result _ c.from_residual-in_err-start.ensures.0

pub push_groups-returns-in_err-push-clause-adds : goal.push_groups-returns-in_err-push-clause-adds
push_groups-returns-in_err-push-clause-adds t c = IfOk-from_err c.from_residual-in_err-push.result _ c.from_residual-in_err-push.ensures.0

pub push_groups-returns-in_err-push-clause-inside : goal.push_groups-returns-in_err-push-clause-inside
push_groups-returns-in_err-push-clause-inside t c = IfOk-from_err c.from_residual-in_err-push.result _ c.from_residual-in_err-push.ensures.0

pub push_groups-returns-in_err-push-clause-count : goal.push_groups-returns-in_err-push-clause-count
push_groups-returns-in_err-push-clause-count t c = IfOk-from_err c.from_residual-in_err-push.result _ c.from_residual-in_err-push.ensures.0

pub push_groups-returns-in_err-push-clause-ways : goal.push_groups-returns-in_err-push-clause-ways
push_groups-returns-in_err-push-clause-ways t c = IfOk-from_err c.from_residual-in_err-push.result _ c.from_residual-in_err-push.ensures.0

pub push_last-returns-in_err-push_digits-clause-built : goal.push_last-returns-in_err-push_digits-clause-built
push_last-returns-in_err-push_digits-clause-built t c = IfOk-from_err c.from_residual.result _ c.from_residual.ensures.0

pub push_last-returns-in_err-push_digits-clause-inside : goal.push_last-returns-in_err-push_digits-clause-inside
push_last-returns-in_err-push_digits-clause-inside t c = IfOk-from_err c.from_residual.result _ c.from_residual.ensures.0

pub push_last-returns-in_err-push_digits-clause-count : goal.push_last-returns-in_err-push_digits-clause-count
push_last-returns-in_err-push_digits-clause-count t c = IfOk-from_err c.from_residual.result _ c.from_residual.ensures.0

pub push_last-returns-in_err-rest-clause-built : goal.push_last-returns-in_err-rest-clause-built
push_last-returns-in_err-rest-clause-built t c = IfOk-from_err c.from_residual-in_err-rest.result _ c.from_residual-in_err-rest.ensures.0

pub push_last-returns-in_err-rest-clause-inside : goal.push_last-returns-in_err-rest-clause-inside
push_last-returns-in_err-rest-clause-inside t c = IfOk-from_err c.from_residual-in_err-rest.result _ c.from_residual-in_err-rest.ensures.0

pub push_last-returns-in_err-rest-clause-count : goal.push_last-returns-in_err-rest-clause-count
push_last-returns-in_err-rest-clause-count t c = IfOk-from_err c.from_residual-in_err-rest.result _ c.from_residual-in_err-rest.ensures.0
