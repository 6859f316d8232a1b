use Rattle.std.proofs.Common.{◌≡◌, ◌+◌, ◌-◌, ◌∙◌, suc, refl, ap, sym, arith, ℕ, length}
use Rattle.std.specs.Str.Parse.{digits_value_after}
use Rattle.rx_reader.specs.Input.{place}
use Rattle.rx_reader.specs.Reading.{past}
use Rattle.rx_reader.specs.Ahead.{past_n}
use Rattle.rx_reader.specs.Escapes.{digits}
use Rattle.rx_reader.proofs.lemmas.tokens.EscapeLemmas.{digit-number, digit-many, digits-stop, digits-none, room, room_within, digit_fits, past_n-more}
use Rattle.rx_reader.proofs.lemmas.places.AheadLemmas.{past_shorter}
use Rattle.rx_reader.proofs.escape.read_digits.Goals as goal

pub loop-count-init : goal.loop-count-init
unfolding room past_n
loop-count-init c =
    let e : c.args.most ≡ c.args.most - 0 = omega arith in
    record {
      number = ap (λ (n : ℕ). digits_value_after c.args.radix 0 (digits c.args.radix n (place c.args.cursor.now))) e;
      many = (let more = ap (λ (n : ℕ). length (digits c.args.radix n (place c.args.cursor.now))) e in omega (arith, more));
      here = refl;
      moves = omega arith;
      small = omega arith;
      few = omega arith;
    }

pub loop-count-preserved : goal.loop-count-preserved
loop-count-preserved c =
    let s = c.loop-count in
    let p = place s.cursor in
    let q = place c.bump.new.self in
    let radix = c.args.radix in
    let left = c.args.most - (s.count + 1) in
    let e : c.args.most - s.count ≡ suc left = omega (arith, c.loop-count-test.true) in
    let many = digit-many radix (c.args.most - s.count) left p q e c.in-Some.ensures.1 c.bump.ensures.value in
    record {
      number = s.invariant.number ∙ digit-number radix (c.args.most - s.count) left s.value c.in-Some.digit p q e c.in-Some.ensures.1 c.in-Some.ensures.2
          c.bump.ensures.value;
      many = omega (arith, s.invariant.many, many);
      here = c.bump.ensures.value ∙ ap past s.invariant.here ∙ sym (past_n-more s.count (place c.args.cursor.now));
      moves = omega (arith, s.invariant.moves, past_shorter p q c.bump.ensures.value);
      small = digit_fits s.value radix c.in-Some.digit s.count s.invariant.small c.requires.small c.in-Some.ensures.3;
      few = omega (arith, c.loop-count-test.true);
    }

pub overflow_add-value : goal.overflow_add-value
overflow_add-value c =
    let s = c.loop-count in
    let fits = digit_fits s.value c.args.radix c.in-Some.digit s.count s.invariant.small c.requires.small c.in-Some.ensures.3 in
    omega (arith, fits, room_within (s.count + 1) (omega (arith, c.requires.few, c.loop-count-test.true)))

pub overflow_mul-value : goal.overflow_mul-value
overflow_mul-value c =
    let s = c.loop-count in
    let fits = digit_fits s.value c.args.radix c.in-Some.digit s.count s.invariant.small c.requires.small c.in-Some.ensures.3 in
    omega (arith, fits, room_within (s.count + 1) (omega (arith, c.requires.few, c.loop-count-test.true)))

pub returns-in-None-clause-number : goal.returns-in-None-clause-number
returns-in-None-clause-number c =
    let s = c.loop-count in
    sym (s.invariant.number ∙ ap (λ ds. digits_value_after c.args.radix s.value ds)
    (digits-stop c.args.radix (c.args.most - s.count) (place s.cursor) c.in-None.ensures))

pub returns-in-None-clause-count : goal.returns-in-None-clause-count
returns-in-None-clause-count c =
    let s = c.loop-count in
    let none = ap length (digits-stop c.args.radix (c.args.most - s.count) (place s.cursor) c.in-None.ensures) in
    omega (arith, s.invariant.many, none)

pub returns-clause-number : goal.returns-clause-number
returns-clause-number c =
    let s = c.loop-count in
    let e : c.args.most - s.count ≡ 0 = omega (arith, c.loop-count-test.false) in
    sym (s.invariant.number ∙ ap (λ (n : ℕ). digits_value_after c.args.radix s.value (digits c.args.radix n (place s.cursor))) e
    ∙ ap (λ ds. digits_value_after c.args.radix s.value ds) (digits-none c.args.radix (place s.cursor)))

pub returns-clause-count : goal.returns-clause-count
returns-clause-count c =
    let s = c.loop-count in
    let e : c.args.most - s.count ≡ 0 = omega (arith, c.loop-count-test.false) in
    let none = ap (λ (n : ℕ). length (digits c.args.radix n (place s.cursor))) e ∙ ap length (digits-none c.args.radix (place s.cursor)) in
    omega (arith, s.invariant.many, none)
