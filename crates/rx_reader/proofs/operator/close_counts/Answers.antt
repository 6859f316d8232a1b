use Rattle.std.proofs.Common.{arith, ◌≡◌, ◌∙◌, ap, sym, refl, Bool, true, false, ℕ, Option, None, Some, Ok}
use Rattle.std.proofs.lemmas.Bool.Decides.{nat_tests}
use Rattle.std.specs.Prelude.{if◌then◌else◌}
use Rattle.rx_reader.specs.declared.error.SyntaxErrorKind.TheVariants.{RepeatCount}
use Rattle.rx_reader.specs.Input.{place}
use Rattle.rx_reader.specs.Reading.{Place, refuse, is_at, past}
use Rattle.rx_reader.specs.Counts.{close_counts, is_below, AreInOrder}
use Rattle.rx_reader.proofs.lemmas.places.ReadsLemmas.{refuse_at}
use Rattle.rx_reader.proofs.operator.close_counts.Goals as goal

-- the place after a brace that stands at p, or p where none does
abbrev after : Place → Bool → Place
after p found = if found then past p else p

close_fails : (from p q : Place) (min : ℕ) (max : Option ℕ) (found : Bool) → found ≡ is_at "}" p → q ≡ after p found → found ≡ false
    → close_counts from min max p ≡ refuse RepeatCount from q
close_fails from p q min max found told there none =
    let stands : is_at "}" p ≡ false = sym told ∙ none in
    let same : q ≡ p = there ∙ ap (λ (b : Bool). if b then past p else p) none in
    rw (stands, same) refl

close_below : (from p q : Place) (min : ℕ) (max : Option ℕ) (found : Bool) → found ≡ is_at "}" p → q ≡ after p found → found ≡ true
    → is_below max min ≡ true → close_counts from min max p ≡ refuse RepeatCount from q
close_below from p q min max found told there some below =
    let stands : is_at "}" p ≡ true = sym told ∙ some in
    let same : q ≡ past p = there ∙ ap (λ (b : Bool). if b then past p else p) some in
    rw (stands, below, same) refl

close_done : (from p q : Place) (min : ℕ) (max : Option ℕ) (found : Bool) → found ≡ is_at "}" p → q ≡ after p found → found ≡ true
    → is_below max min ≡ false → close_counts from min max p ≡ Ok (record { min = min; max = max }, q)
close_done from p q min max found told there some below =
    let stands : is_at "}" p ≡ true = sym told ∙ some in
    let same : q ≡ past p = there ∙ ap (λ (b : Bool). if b then past p else p) some in
    rw (stands, below, same) refl

in_order : (min : ℕ) (max : Option ℕ) → is_below max min ≡ false → AreInOrder min max
in_order min None h = tt
in_order min (Some m) h = grind (arith, nat_tests)

pub returns-then-not-bump_over-clause-value : goal.returns-then-not-bump_over-clause-value
returns-then-not-bump_over-clause-value c from start =
    let q = place c.bump_over.new.self in
    rw c.refuse_from.ensures (close_fails from (place c.args.cursor.now) q c.args.min c.args.max c.bump_over.result c.bump_over.ensures.value
    c.bump_over.ensures.place c.if-not-bump_over.true ∙ refuse_at RepeatCount from q c.args.start q.at start refl)

pub returns-then-is_below-clause-value : goal.returns-then-is_below-clause-value
returns-then-is_below-clause-value c from start =
    let q = place c.bump_over.new.self in
    rw c.refuse_from-then-is_below.ensures (close_below from (place c.args.cursor.now) q c.args.min c.args.max c.bump_over.result c.bump_over.ensures.value
    c.bump_over.ensures.place c.if-not-bump_over.false (sym c.is_below.ensures ∙ c.if-is_below.true) ∙ refuse_at RepeatCount from q c.args.start q.at start refl)

pub returns-clause-value : goal.returns-clause-value
returns-clause-value c from start =
    close_done from (place c.args.cursor.now) (place c.bump_over.new.self) c.args.min c.args.max c.bump_over.result c.bump_over.ensures.value
    c.bump_over.ensures.place c.if-not-bump_over.false (sym c.is_below.ensures ∙ c.if-is_below.false)

pub returns-clause-in_order : goal.returns-clause-in_order
returns-clause-in_order c = in_order c.args.min c.args.max (sym c.is_below.ensures ∙ c.if-is_below.false)
