use Rattle.std.proofs.Common.{◌≡◌, ◌∙◌, ap, sym, true, false, not, ◌&&◌, Bool, ℕ, List, Ok}
use Rattle.std.proofs.lemmas.Result.{IfOk-from_err}
use Rattle.rx_reader.specs.declared.error.SyntaxErrorKind.TheVariants.{UnclosedGroup, Flag}
use Rattle.rx_reader.specs.Input.{place}
use Rattle.rx_reader.specs.Reading.{at_end, past}
use Rattle.rx_reader.specs.Flags.{letters, ends_with_hyphen, may_end_at, changed}
use Rattle.rx_reader.proofs.lemmas.places.ReadsLemmas.{refuse_at}
use Rattle.rx_reader.proofs.lemmas.tokens.GroupNameLemmas.{counted}
use Rattle.rx_reader.proofs.lemmas.tokens.PartLemmas.{flags_cut, flags_fail, flags_done}
use Rattle.rx_reader.proofs.directive.read_flags.Goals as goal

pub returns-in_err-named-clause-progress : goal.returns-in_err-named-clause-progress
returns-in_err-named-clause-progress c = IfOk-from_err c.from_residual.result _ c.from_residual.ensures.0

pub returns-in_err-named-clause-more : goal.returns-in_err-named-clause-more
returns-in_err-named-clause-more c = IfOk-from_err c.from_residual.result _ c.from_residual.ensures.0

pub returns-then-is_at_end-clause-value : goal.returns-then-is_at_end-clause-value
returns-then-is_at_end-clause-value c from piece =
    let p = place c.args.cursor.now in
    let q = place c.bump_by.new.self in
    let n = c.len-count.result in
    let len = counted c.in_ok-named.named (letters p.text) n c.len-count.ensures (c.in_ok-named.ensures ∙ ap letters c.rest.ensures) in
    let cut : at_end q ≡ true = sym c.is_at_end.ensures.value ∙ c.if-is_at_end.true in
    rw c.refuse.ensures (flags_cut from p q c.args.flags n len c.bump_by.ensures.value cut
    ∙ refuse_at UnclosedGroup from (past from) c.args.opening.start c.args.opening.end piece.0 piece.1)

pub returns-then-not-may_end_at-clause-value : goal.returns-then-not-may_end_at-clause-value
returns-then-not-may_end_at-clause-value c from piece =
    let p = place c.args.cursor.now in
    let q = place c.bump_by.new.self in
    let n = c.len-count.result in
    let named : c.in_ok-named.named.items ≡ letters p.text = c.in_ok-named.ensures ∙ ap letters c.rest.ensures in
    let len = counted c.in_ok-named.named (letters p.text) n c.len-count.ensures named in
    let hyphen : c.ends_with-ends_with_hyphen.result ≡ ends_with_hyphen (letters p.text) =
    c.ends_with-ends_with_hyphen.ensures.value ∙ ap ends_with_hyphen (c.deref-2.ensures.value ∙ named) in
    let ends : c.may_end_at.result ≡ (not (ends_with_hyphen (letters p.text)) && may_end_at n q) =
    c.may_end_at.ensures ∙ ap (λ (b : Bool). not b && may_end_at n q) hyphen in
    let cut : at_end q ≡ false = sym c.is_at_end.ensures.value ∙ c.if-is_at_end.false in
    rw c.refuse-then-not-may_end_at.ensures (flags_fail from p q c.args.flags n len c.bump_by.ensures.value cut (sym ends ∙ c.if-not-may_end_at.true)
    ∙ refuse_at Flag q (past q) c.here.result.start c.here.result.end c.here.ensures.0 c.here.ensures.1)

pub returns-clause-value : goal.returns-clause-value
returns-clause-value c from piece =
    let p = place c.args.cursor.now in
    let q = place c.bump_by.new.self in
    let n = c.len-count.result in
    let named : c.in_ok-named.named.items ≡ letters p.text = c.in_ok-named.ensures ∙ ap letters c.rest.ensures in
    let len = counted c.in_ok-named.named (letters p.text) n c.len-count.ensures named in
    let hyphen : c.ends_with-ends_with_hyphen.result ≡ ends_with_hyphen (letters p.text) =
    c.ends_with-ends_with_hyphen.ensures.value ∙ ap ends_with_hyphen (c.deref-2.ensures.value ∙ named) in
    let ends : c.may_end_at.result ≡ (not (ends_with_hyphen (letters p.text)) && may_end_at n q) =
    c.may_end_at.ensures ∙ ap (λ (b : Bool). not b && may_end_at n q) hyphen in
    let cut : at_end q ≡ false = sym c.is_at_end.ensures.value ∙ c.if-is_at_end.false in
    let flags : c.changed-flags.result ≡ changed (letters p.text) c.args.flags =
    c.changed-flags.ensures ∙ ap (λ (cs : List ℕ). changed cs c.args.flags) (c.deref.ensures.value ∙ named) in
    flags_done from p q c.args.flags n len c.bump_by.ensures.value cut (sym ends ∙ c.if-not-may_end_at.false) ∙ ap (λ f. Ok (f, q)) (sym flags)

pub returns-clause-more : goal.returns-clause-more
returns-clause-more c = c.is_at_end.ensures.more c.if-is_at_end.false
