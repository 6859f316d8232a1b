use Rattle.std.proofs.Common.{◌≡◌, ◌<◌, [], ◌++◌, length, sym, ◌∙◌, ap, subst}
use Rattle.std.proofs.lemmas.List.Elements.{All-nil}
use Rattle.std.proofs.lemmas.Result.{err_from_is_err_and}
use Rattle.rx_nfa.specs.Ordered.{AreBelow}
use Rattle.rx_determinize.specs.Key.{Key}
use Rattle.rx_dfa.specs.Automaton.{last_key}
use Rattle.rx_dfa.specs.StateKey.{key_of}
use Rattle.rx_dfa.specs.Job.{dfa_in}
use Rattle.rx_dfa.proofs.lemmas.FindLemmas.{memory-refused}
use Rattle.rx_dfa.proofs.lemmas.CellLemmas.{last-is, end-made}
use Rattle.rx_dfa.proofs.lemmas.SpreadLemmas.{spread-last}
use Rattle.rx_dfa.proofs.dense.rows.spread_end.Goals as goal

pub returns-clause-made : goal.returns-clause-made
returns-clause-made c =
    let d = dfa_in c.args.job.now in
    let k = key_of c.args.desk.now.row in
    let none : c.clear.new.key.threads.items ≡ [] = ap (λ (x : Key). x.threads) c.clear.ensures in
    let matches = c.in_ok-extend_from_slice.ensures.items
    ∙ (λ j. ap (λ (x : Key). x.matches) c.clear.ensures j ++ c.as_slice.ensures.value j) in
    let made : Key = record {
      threads = c.clear.new.key.threads.items;
      loops = c.clear.new.key.loops;
      matches = c.extend_from_slice.new.self.items;
      before = c.clear.new.key.before;
    } in
    let next : made ≡ last_key d k =
    (λ j. record {
      threads = none j;
      loops = ap (λ (x : Key). x.loops) c.clear.ensures j;
      matches = matches j;
      before = ap (λ (x : Key). x.before) c.clear.ensures j;
    }) ∙ spread-last d k c.args.spread.now c.requires.spread in
    end-made d k c.args.found.now c.find.new.self c.find.result made next
    (c.find.ensures.made d c.requires.found
    (λ live. last-is d k made next c.requires.state (subst (AreBelow (length d.nfa.states)) (sym none) (All-nil (λ q. q < length d.nfa.states))) live))

pub returns-in_err-extend_from_slice-clause-made : goal.returns-in_err-extend_from_slice-clause-made
returns-in_err-extend_from_slice-clause-made c =
    let e = err_from_is_err_and c.from_residual.result c.from_residual.ensures.1 in
    record {
      found = c.requires.found;
      ok = rw (e.1) tt;
      err = rw (e.1) (memory-refused (dfa_in c.args.job.now) c.args.found.now.stride c.args.found.now.limit e.0 e.2);
    }
