use Rattle.std.proofs.Math.Nat.{le_trans, lt_of_le_of_lt}
use Rattle.std.proofs.Common.{true, false, ◌≡◌, Ok, ◌∙◌, sym, ap, subst, ℕ, ◌<◌, ◌⊎◌, Bool, inl, inr, true≢false}
use Rattle.std.specs.Prelude.{MatchResult, Result}
use Rattle.std.proofs.lemmas.Result.{err_from_is_err_and, IfOk-from_err, on_ok_weaker}
use Rattle.rx_reader.specs.Input.{place, Refuses}
use Rattle.rx_reader.specs.Syntax.{Syntax}
use Rattle.rx_reader.specs.declared.error.SyntaxError.{SyntaxError}
use Rattle.rx_reader.specs.Reading.{Place, Read, at_end}
use Rattle.rx_reader.specs.declared.token.Token.{Token}
use Rattle.rx_reader.specs.declared.token.Token.TheVariants.{End, Bar, Close, Opens, Directive, Atom as One}
use Rattle.rx_reader.specs.Tokens.{is_end, is_close}
use Rattle.rx_reader.specs.Grammar.{token}
use Rattle.rx_reader.specs.Stack.{Gathered, gathered, innermost, resume, opened_in, reads_on, answer}
use Rattle.rx_reader.proofs.lemmas.places.ReadsLemmas.{refuses_from, refuses}
use Rattle.rx_reader.proofs.lemmas.branches.BranchLemmas.{token-end}
use Rattle.rx_reader.proofs.lemmas.branches.StackLemmas.{resume-token, resume-token_err, resume-bar, resume-end}
use Rattle.rx_reader.proofs.parser.Parser.take_token.Goals as goal

-- a token that is not the end leaves less to read
shorter : (b : Bool) (n m : ℕ) → (b ≡ true) ⊎ (n < m) → b ≡ false → n < m
shorter b n m (inl ends) more = absurd (true≢false (sym ends ∙ more))
shorter b n m (inr lt) more = lt

found : Token → Place → Read Token
found t q = Ok (t, q)

pub returns-in_err-read_token-clause-value : goal.returns-in_err-read_token-clause-value
returns-in_err-read_token-clause-value c =
    let s = c.args.self.now in
    let p = place s.cursor in
    let e = err_from_is_err_and c.from_residual.result c.from_residual.ensures.1 in
    rw (e.1, e.2) (refuses_from _ _ (λ x is.
    resume-token_err s.config (innermost s.frames.items) (gathered s.level) s.flags (opened_in s) p x
    (refuses _ (token s.config s.flags p) c.in_err-read_token.ensures.value x is)))

pub returns-in-End-clause-value : goal.returns-in-End-clause-value
returns-in-End-clause-value c =
    let s = c.args.self.now in
    let p = place s.cursor in
    let fs = innermost s.frames.items in
    let g = gathered s.level in
    let q = place c.read_token.new.cursor in
    let ends : at_end p ≡ true = sym c.in_ok-read_token.ensures.end ∙ ap is_end c.in-End.is in
    let same : q ≡ p = c.in_ok-read_token.ensures.stays (ap is_end c.in-End.is) in
    ap (λ (r : Place). resume s.config fs g (reads_on s s.flags r)) same ∙ resume-end s.config fs g s.flags (opened_in s) p ends
    ∙ sym (resume-token s.config fs g s.flags (opened_in s) p End p (token-end s.config s.flags p ends))

pub returns-in_ok-end_branch-in-Bar-clause-value : goal.returns-in_ok-end_branch-in-Bar-clause-value
unfolding found
returns-in_ok-end_branch-in-Bar-clause-value c =
    let s = c.args.self.now in
    let p = place s.cursor in
    let fs = innermost s.frames.items in
    let g = gathered s.level in
    let q = place c.read_token.new.cursor in
    let tok : token s.config s.flags p ≡ Ok (Bar, q) = c.in_ok-read_token.ensures.value ∙ ap (λ (t : Token). found t q) c.in-Bar.is in
    sym (resume-token s.config fs g s.flags (opened_in s) p Bar q tok ∙ resume-bar s.config fs g s.flags (opened_in s) q
    ∙ ap (λ (h : Gathered). resume s.config fs h (reads_on s s.flags q)) (sym c.in_ok-end_branch-in-Bar.ensures))

pub returns-in-Close-clause-value : goal.returns-in-Close-clause-value
unfolding found
returns-in-Close-clause-value c =
    let s = c.args.self.now in
    let p = place s.cursor in
    let q = place c.read_token.new.cursor in
    let more : at_end p ≡ false = sym c.in_ok-read_token.ensures.end ∙ ap is_end c.in-Close.is in
    let tok : token s.config s.flags p ≡ Ok (Close, q) = c.in_ok-read_token.ensures.value ∙ ap (λ (t : Token). found t q) c.in-Close.is in
    let same = resume-token s.config (innermost s.frames.items) (gathered s.level) s.flags (opened_in s) p Close q tok in
    subst (λ (x : Result Syntax SyntaxError). MatchResult c.close_group.result (λ _. answer c.close_group.new.self ≡ x) (λ e. Refuses e x)) (sym same)
    (c.close_group.ensures.value p c.here-piece.ensures.0 more (c.in_ok-read_token.ensures.close (ap is_close c.in-Close.is)))

pub returns-in-Opens-clause-value : goal.returns-in-Opens-clause-value
unfolding found
returns-in-Opens-clause-value c =
    let s = c.args.self.now in
    let p = place s.cursor in
    let q = place c.read_token.new.cursor in
    let tok : token s.config s.flags p ≡ Ok (Opens c.in-Opens.kind c.in-Opens.flags, q) =
    c.in_ok-read_token.ensures.value ∙ ap (λ (t : Token). found t q) c.in-Opens.is in
    let same = resume-token s.config (innermost s.frames.items) (gathered s.level) s.flags (opened_in s) p (Opens c.in-Opens.kind c.in-Opens.flags) q tok in
    subst (λ (x : Result Syntax SyntaxError). MatchResult c.open_group.result (λ _. answer c.open_group.new.self ≡ x) (λ e. Refuses e x)) (sym same)
    (c.open_group.ensures.value p c.here-piece.ensures)

pub returns-in-Directive-clause-value : goal.returns-in-Directive-clause-value
unfolding found
returns-in-Directive-clause-value c =
    let s = c.args.self.now in
    let p = place s.cursor in
    let q = place c.read_token.new.cursor in
    let tok : token s.config s.flags p ≡ Ok (Directive c.in-Directive.flags, q) =
    c.in_ok-read_token.ensures.value ∙ ap (λ (t : Token). found t q) c.in-Directive.is in
    sym (resume-token s.config (innermost s.frames.items) (gathered s.level) s.flags (opened_in s) p (Directive c.in-Directive.flags) q tok)

pub returns-in-Atom-clause-value : goal.returns-in-Atom-clause-value
unfolding found
returns-in-Atom-clause-value c =
    let s = c.args.self.now in
    let p = place s.cursor in
    let q = place c.read_token.new.cursor in
    let tok : token s.config s.flags p ≡ Ok (One c.in-Atom.ast, q) = c.in_ok-read_token.ensures.value ∙ ap (λ (t : Token). found t q) c.in-Atom.is in
    let same = resume-token s.config (innermost s.frames.items) (gathered s.level) s.flags (opened_in s) p (One c.in-Atom.ast) q tok in
    subst (λ (x : Result Syntax SyntaxError). MatchResult c.take_item.result (λ _. answer c.take_item.new.self ≡ x) (λ e. Refuses e x)) (sym same)
    (c.take_item.ensures.value)

pub returns-in_err-read_token-clause-progress : goal.returns-in_err-read_token-clause-progress
returns-in_err-read_token-clause-progress c = IfOk-from_err c.from_residual.result _ c.from_residual.ensures.0

pub returns-in_err-read_token-clause-moves : goal.returns-in_err-read_token-clause-moves
returns-in_err-read_token-clause-moves c = IfOk-from_err c.from_residual.result _ c.from_residual.ensures.0

pub returns-in-End-clause-progress : goal.returns-in-End-clause-progress
returns-in-End-clause-progress c = inl (sym c.in_ok-read_token.ensures.end ∙ ap is_end c.in-End.is)

pub returns-in_ok-end_branch-in-Bar-clause-progress : goal.returns-in_ok-end_branch-in-Bar-clause-progress
returns-in_ok-end_branch-in-Bar-clause-progress c = inr (shorter _ _ _ c.in_ok-read_token.ensures.progress (ap is_end c.in-Bar.is))

pub returns-in-Directive-clause-progress : goal.returns-in-Directive-clause-progress
returns-in-Directive-clause-progress c = inr (shorter _ _ _ c.in_ok-read_token.ensures.progress (ap is_end c.in-Directive.is))

pub returns-in-Close-clause-progress : goal.returns-in-Close-clause-progress
returns-in-Close-clause-progress c =
    let lt = shorter _ _ _ c.in_ok-read_token.ensures.progress (ap is_end c.in-Close.is) in
    on_ok_weaker c.close_group.result (λ le. inr (lt_of_le_of_lt le lt)) c.close_group.ensures.progress

pub returns-in-Close-clause-moves : goal.returns-in-Close-clause-moves
returns-in-Close-clause-moves c = on_ok_weaker c.close_group.result (λ le. le_trans le c.in_ok-read_token.ensures.moves) c.close_group.ensures.progress

pub returns-in-Opens-clause-progress : goal.returns-in-Opens-clause-progress
returns-in-Opens-clause-progress c =
    let lt = shorter _ _ _ c.in_ok-read_token.ensures.progress (ap is_end c.in-Opens.is) in
    on_ok_weaker c.open_group.result (λ le. inr (lt_of_le_of_lt le lt)) c.open_group.ensures.progress

pub returns-in-Opens-clause-moves : goal.returns-in-Opens-clause-moves
returns-in-Opens-clause-moves c = on_ok_weaker c.open_group.result (λ le. le_trans le c.in_ok-read_token.ensures.moves) c.open_group.ensures.progress

pub returns-in-Atom-clause-progress : goal.returns-in-Atom-clause-progress
returns-in-Atom-clause-progress c =
    let lt = shorter _ _ _ c.in_ok-read_token.ensures.progress (ap is_end c.in-Atom.is) in
    on_ok_weaker c.take_item.result (λ le. inr (lt_of_le_of_lt le lt)) c.take_item.ensures.progress

pub returns-in-Atom-clause-moves : goal.returns-in-Atom-clause-moves
returns-in-Atom-clause-moves c = on_ok_weaker c.take_item.result (λ le. le_trans le c.in_ok-read_token.ensures.moves) c.take_item.ensures.progress
