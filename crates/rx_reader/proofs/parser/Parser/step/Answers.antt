use Rattle.std.specs.Result.{OnOk}
use Rattle.std.proofs.lemmas.Bool.Decides.{nat_tests}
use Rattle.std.proofs.Math.Nat.{lt_of_lt_of_le}
use Rattle.std.proofs.Common.{◌≡◌, ◌∙◌, sym, ap, subst, ℕ, ◌<◌, ◌≤◌, ◌⊎◌, ◌==◌, true, inl, inr, arith}
use Rattle.std.specs.Prelude.{MatchResult, Result, Ok, Err}
use Rattle.rx_reader.specs.Input.{place, Refuses, unread}
use Rattle.rx_reader.specs.Syntax.{Syntax}
use Rattle.rx_reader.specs.declared.error.SyntaxError.{SyntaxError}
use Rattle.rx_reader.specs.Grammar.{token_then, all_branches}
use Rattle.rx_reader.specs.Stack.{gathered, innermost, resume, opened_in, answer}
use Rattle.rx_reader.proofs.lemmas.branches.BranchLemmas.{all_branches-step}
use Rattle.rx_reader.proofs.parser.Parser.step.Goals as goal

-- what was taken from m characters on leaves n: it was the end, or there are fewer
fewer : (n m k : ℕ) → ((m == 0) ≡ true) ⊎ (n < m) → n ≤ m → m ≤ k → 0 < k → n < k
fewer n m k (inl ends) le ge some = grind (arith, nat_tests)
fewer n m k (inr lt) le ge some = lt_of_lt_of_le lt ge

both : {T E P Q R : Type 0} (r : Result T E) → OnOk r P → OnOk r Q → (P → Q → R) → OnOk r R
both (Ok x) p q f = f p q
both (Err e) p q f = tt

pub returns-clause-value : goal.returns-clause-value
returns-clause-value c =
    let s = c.args.self.now in
    let p = place s.cursor in
    let same = ap (resume s.config (innermost s.frames.items) (gathered s.level)) (all_branches-step s.config s.flags (opened_in s) p
    ∙ ap (token_then s.config (all_branches s.config) s.flags (opened_in s)) (sym c.skip.ensures.value)) in
    subst (λ (x : Result Syntax SyntaxError). MatchResult c.take_token.result (λ _. answer c.take_token.new.self ≡ x) (λ e. Refuses e x)) (sym same)
    c.take_token.ensures.value

pub returns-clause-progress : goal.returns-clause-progress
returns-clause-progress c =
    both c.take_token.result c.take_token.ensures.progress c.take_token.ensures.moves (λ p m.
    fewer (unread c.take_token.new.self.cursor) (unread c.skip.new.self) (unread c.args.self.now.cursor) p m c.skip.ensures.progress c.requires)
