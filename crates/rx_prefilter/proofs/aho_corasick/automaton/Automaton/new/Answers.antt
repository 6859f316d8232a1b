use Rattle.std.proofs.lemmas.Result.{IfOk-from_err}
use Rattle.rx_prefilter.proofs.aho_corasick.automaton.Automaton.new.Goals as goal

pub returns-in_err-copies : goal.returns-in_err-copies
returns-in_err-copies c = IfOk-from_err c.from_residual.result _ c.from_residual.ensures.0

pub returns-in_err-trie : goal.returns-in_err-trie
returns-in_err-trie c = IfOk-from_err c.from_residual-in_err-trie.result _ c.from_residual-in_err-trie.ensures.0

pub of-requires-2-clause-trie : goal.of-requires-2-clause-trie
of-requires-2-clause-trie c = c.in_ok-trie.ensures.0

pub of-requires-2-clause-all : goal.of-requires-2-clause-all
of-requires-2-clause-all c = rw c.in_ok-copies.ensures c.in_ok-trie.ensures.1

pub returns-in_err-links : goal.returns-in_err-links
returns-in_err-links c = IfOk-from_err c.from_residual-in_err-links.result _ c.from_residual-in_err-links.ensures.0

pub fill-requires : goal.fill-requires
fill-requires c = c.in_ok-links.ensures.0

pub returns-in_err-fill : goal.returns-in_err-fill
returns-in_err-fill c = IfOk-from_err c.from_residual-in_err-fill.result _ c.from_residual-in_err-fill.ensures.0

pub returns : goal.returns
returns c =
    (c.in_ok-fill.ensures.linked.automaton, rw (c.fill.ensures.same, c.in_ok-links.ensures.1) c.in_ok-copies.ensures)
