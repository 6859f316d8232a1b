use Rattle.std.proofs.Math.Nat.{lt_of_le_of_lt}
use Rattle.std.proofs.Common.{arith, ◌≡◌, ◌∙◌, true, false, sym, subst, refl}
use Rattle.std.proofs.lemmas.Result.{on_ok_weaker}
use Rattle.rx_reader.specs.declared.error.SyntaxErrorKind.TheVariants.{Unsupported}
use Rattle.rx_reader.specs.Input.{place, Reads}
use Rattle.rx_reader.specs.Reading.{Place, begins, refuse, past}
use Rattle.rx_reader.specs.Ahead.{past_n}
use Rattle.rx_reader.specs.Classes.{posix, posix_name}
use Rattle.rx_reader.proofs.lemmas.places.ReadsLemmas.{refuse_at}
use Rattle.rx_reader.proofs.class.posix.Goals as goal

-- what a bracket reads as, where its first characters end at q

negated : (p q : Place) → begins "[:^" p ≡ true → q ≡ past_n 3 p → posix p ≡ posix_name p true q
unfolding posix
negated p q opens there = rw (opens, there) refl

plain : (p q : Place) → begins "[:^" p ≡ false → begins "[:" p ≡ true → q ≡ past_n 2 p → posix p ≡ posix_name p false q
unfolding posix
plain p q other opens there = rw (other, opens, there) refl

neither : (p : Place) → begins "[:^" p ≡ false → begins "[:" p ≡ false → posix p ≡ refuse Unsupported p (past p)
unfolding posix
neither p other none = rw (other, none) refl

pub returns-then-begins-clause-value : goal.returns-then-begins-clause-value
returns-then-begins-clause-value c =
    let p = place c.args.cursor.now in
    let same = negated p (place c.bump_by.new.self) (sym c.begins.ensures ∙ c.if-begins.true) c.bump_by.ensures.value in
    subst (λ reading. Reads c.posix_name.result reading (place c.posix_name.new.cursor)) (sym same) (c.posix_name.ensures.value p c.here-bracket.ensures)

pub returns-then-begins-clause-progress : goal.returns-then-begins-clause-progress
returns-then-begins-clause-progress c =
    let less = c.bump_by.ensures.passed (omega arith) c.requires in
    on_ok_weaker c.posix_name.result (λ le. lt_of_le_of_lt le less) c.posix_name.ensures.progress

pub returns-then-begins-2-clause-value : goal.returns-then-begins-2-clause-value
returns-then-begins-2-clause-value c =
    let p = place c.args.cursor.now in
    let same = plain p (place c.bump_by-then-begins-2.new.self) (sym c.begins.ensures ∙ c.if-begins.false) (sym c.begins-2.ensures ∙ c.if-begins-2.true)
    c.bump_by-then-begins-2.ensures.value in
    subst (λ reading. Reads c.posix_name-then-begins-2.result reading (place c.posix_name-then-begins-2.new.cursor)) (sym same)
    (c.posix_name-then-begins-2.ensures.value p c.here-bracket.ensures)

pub returns-then-begins-2-clause-progress : goal.returns-then-begins-2-clause-progress
returns-then-begins-2-clause-progress c =
    let less = c.bump_by-then-begins-2.ensures.passed (omega arith) c.requires in
    on_ok_weaker c.posix_name-then-begins-2.result (λ le. lt_of_le_of_lt le less) c.posix_name-then-begins-2.ensures.progress

pub returns-clause-value : goal.returns-clause-value
returns-clause-value c =
    let p = place c.args.cursor.now in
    let bracket = c.here-bracket in
    rw c.refuse.ensures (neither p (sym c.begins.ensures ∙ c.if-begins.false) (sym c.begins-2.ensures ∙ c.if-begins-2.false)
    ∙ refuse_at Unsupported p (past p) bracket.result.start bracket.result.end bracket.ensures.0 bracket.ensures.1)
