use Rattle.std.proofs.Common.{arith, ◌≡◌, List, [], Ok, ◌∙◌, sym, ap}
use Rattle.std.proofs.lemmas.Grind.{common_steps}
use Rattle.rx_reader.specs.Input.{place}
use Rattle.rx_reader.specs.Syntax.{Syntax}
use Rattle.rx_reader.specs.Grammar.{no_items}
use Rattle.rx_reader.specs.Stack.{Around, around, gathered, innermost, resume}
use Rattle.rx_reader.proofs.lemmas.branches.StackLemmas.{stack_of, resume-unclosed, resume-finished, resume-end}
use Rattle.rx_reader.proofs.parser.Parser.finish.Goals as goal

pub returns-in-Some : goal.returns-in-Some
returns-in-Some c =
    let s = c.args.self in
    let p = place s.cursor in
    let g = gathered s.level in
    let f = around c.in-Some.frame in
    let fs = innermost c.pop.new.self.items in
    let stack = stack_of s.frames.items c.pop.new.self.items c.in-Some.frame c.in-Some.ensures.items in
    rw c.refuse-error.ensures (resume-end s.config (innermost s.frames.items) g s.flags _ p c.requires
    ∙ ap (λ (x : List Around). resume s.config x g (Ok (no_items, p))) stack ∙ resume-unclosed s.config fs f g p c.requires)

pub returns-in_ok-whole-in-None : goal.returns-in_ok-whole-in-None
returns-in_ok-whole-in-None c =
    let s = c.args.self in
    let p = place s.cursor in
    let g = gathered s.level in
    let none : innermost s.frames.items ≡ [] = grind (arith, common_steps) in
    resume-end s.config (innermost s.frames.items) g s.flags _ p c.requires
    ∙ ap (λ (x : List Around). resume s.config x g (Ok (no_items, p))) none ∙ resume-finished s.config g p c.requires
    ∙ ap (λ (a : Syntax). Ok a) (sym c.in_ok-whole-in-None.ensures)
