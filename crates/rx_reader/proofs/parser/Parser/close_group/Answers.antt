use Rattle.std.proofs.Common.{arith, true, false, ◌≡◌, ℕ, ◌+◌, ◌<◌, ◌≤◌, List, [], length, Ok, ◌∙◌, sym, ap, subst}
use Rattle.std.specs.Prelude.{nat_lt, MatchResult, Result}
use Rattle.std.proofs.lemmas.Grind.{common_steps}
use Rattle.std.proofs.lemmas.Bool.Decides.{nat_tests}
use Rattle.rx_reader.specs.Input.{place, Refuses}
use Rattle.rx_reader.specs.Config.{limit_of}
use Rattle.rx_reader.specs.Reading.{Place, past}
use Rattle.rx_reader.specs.Syntax.{Syntax, depth, group}
use Rattle.rx_reader.specs.declared.error.SyntaxError.{SyntaxError}
use Rattle.rx_reader.specs.declared.error.SyntaxErrorKind.TheVariants.{UnopenedGroup, NestLimit}
use Rattle.rx_reader.specs.Grammar.{all_branches, no_items, item_then}
use Rattle.rx_reader.specs.declared.level.Level.{Level}
use Rattle.rx_reader.specs.Stack.{Around, around, gathered, gathered_whole, innermost, resume, answer}
use Rattle.rx_reader.proofs.lemmas.places.ReadsLemmas.{refuse_at}
use Rattle.rx_reader.proofs.lemmas.branches.StackLemmas.{stack_of, resume-too_deep, resume-group, resume-unopened}
use Rattle.rx_reader.proofs.parser.Parser.close_group.Goals as goal

deep_if : (a b : Syntax) (limit least d : ℕ) → a ≡ b → d ≡ depth a → least ≡ limit → least ≤ d → nat_lt limit (depth b + 1) ≡ true
deep_if a b limit least d same is most le = subst (λ (x : Syntax). nat_lt limit (depth x + 1) ≡ true) same (grind (arith, nat_tests))

within_if : (a b : Syntax) (limit least d : ℕ) → a ≡ b → d ≡ depth a → least ≡ limit → d < least → nat_lt limit (depth b + 1) ≡ false
within_if a b limit least d same is most lt = subst (λ (x : Syntax). nat_lt limit (depth x + 1) ≡ false) same (grind (arith, nat_tests))

pub returns-in-None-clause-value : goal.returns-in-None-clause-value
returns-in-None-clause-value c p start more at =
    let s = c.args.self.now in
    let g = gathered s.level in
    let none : innermost s.frames.items ≡ [] = grind (arith, common_steps) in
    rw c.refuse_from.ensures (
    ap (λ (x : List Around). resume s.config x g (Ok (no_items, p))) none ∙ resume-unopened s.config g p more
    ∙ refuse_at UnopenedGroup p (past p) c.args.start (place s.cursor).at start (ap (λ (q : Place). q.at) at))

pub returns-then-depth-get_nest_limit-clause-value : goal.returns-then-depth-get_nest_limit-clause-value
returns-then-depth-get_nest_limit-clause-value c p start more at =
    let s = c.args.self.now in
    let g = gathered s.level in
    let f = around c.in-Some.frame in
    let fs = innermost c.pop.new.self.items in
    let stack = stack_of s.frames.items c.pop.new.self.items c.in-Some.frame c.in-Some.ensures.items in
    let body : c.in-Ok.body ≡ gathered_whole g = c.in-Ok.ensures ∙ ap (λ (l : Level). gathered_whole (gathered l)) c.replace-inside.ensures.value in
    let deep : nat_lt (limit_of s.config) (depth (group f.kind (gathered_whole g))) ≡ true =
    deep_if _ (gathered_whole g) _ c.get_nest_limit.result c.depth.result body c.depth.ensures c.get_nest_limit.ensures c.if-depth-get_nest_limit.true in
    rw c.refuse_from-then-depth-get_nest_limit.ensures (
    ap (λ (x : List Around). resume s.config x g (Ok (no_items, p))) stack ∙ resume-too_deep s.config fs f g p more deep
    ∙ refuse_at NestLimit p (past p) c.args.start (place s.cursor).at start (ap (λ (q : Place). q.at) at))

pub returns-clause-value : goal.returns-clause-value
returns-clause-value c p start more at =
    let s = c.args.self.now in
    let g = gathered s.level in
    let f = around c.in-Some.frame in
    let fs = innermost c.pop.new.self.items in
    let stack = stack_of s.frames.items c.pop.new.self.items c.in-Some.frame c.in-Some.ensures.items in
    let body : c.in-Ok.body ≡ gathered_whole g = c.in-Ok.ensures ∙ ap (λ (l : Level). gathered_whole (gathered l)) c.replace-inside.ensures.value in
    let within : nat_lt (limit_of s.config) (depth (group f.kind (gathered_whole g))) ≡ false =
    within_if _ (gathered_whole g) _ c.get_nest_limit.result c.depth.result body c.depth.ensures c.get_nest_limit.ensures c.if-depth-get_nest_limit.false in
    let goes = ap (λ (x : List Around). resume s.config x g (Ok (no_items, p))) stack ∙ resume-group s.config fs f g p more within in
    let same : c.in_ok-group.group ≡ group f.kind (gathered_whole g) = c.in_ok-group.ensures ∙ ap (group f.kind) body in
    let mid =
    goes ∙ ap (λ (x : Syntax). resume s.config fs f.gathered (item_then s.config (all_branches s.config f.flags (length fs)) f.flags x (past p))) (sym same)
    ∙ ap (λ (q : Place). resume s.config fs f.gathered (item_then s.config (all_branches s.config f.flags (length fs)) f.flags c.in_ok-group.group q)) (sym at)
    ∙ ap
    (λ (l : Level). resume s.config fs (gathered l) (item_then s.config (all_branches s.config f.flags (length fs)) f.flags c.in_ok-group.group
    (place s.cursor))) (sym c.replace-inside.ensures.after) in
    subst (λ (x : Result Syntax SyntaxError). MatchResult c.take_item.result (λ _. answer c.take_item.new.self ≡ x) (λ e. Refuses e x)) (sym mid)
    c.take_item.ensures.value
