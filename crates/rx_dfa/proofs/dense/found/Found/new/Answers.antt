use Rattle.std.proofs.Common.{List, [], ◌∷◌, ◌++◌, refl, ◌∙◌, ap}
use Rattle.std.specs.Prelude.{None}
use Rattle.std.proofs.lemmas.Result.{err_from_is_err_and}
use Rattle.rx_determinize.specs.Key.{Key}
use Rattle.rx_dfa.specs.Automaton.{no_key}
use Rattle.rx_dfa.specs.StateKey.{key_of}
use Rattle.rx_dfa.specs.Found.{keys_in}
use Rattle.rx_dfa.specs.declared.state_key.StateKey.{StateKey}
use Rattle.rx_dfa.proofs.lemmas.FindLemmas.{over-refused, lone, found-lone}
use Rattle.rx_dfa.proofs.dense.found.Found.new.Goals as goal

pub returns-in_err-admit-clause-err : goal.returns-in_err-admit-clause-err
returns-in_err-admit-clause-err c d state =
    let e = err_from_is_err_and c.from_residual.result c.from_residual.ensures.1 in
    rw (e.1, e.2) (over-refused d c.args.stride c.args.limit (no_key None ∷ []) 1 (lone d (no_key None) state) refl _ c.in_err-admit.ensures.err)

pub returns-clause-found : goal.returns-clause-found
returns-clause-found c d state =
    found-lone d _ state (ap keys_in c.new-plain.ensures.empty)
    (c.in_ok-append.ensures.keys ∙ ap (λ (ks : List StateKey). keys_in ks ++ key_of c.empty.result ∷ []) c.new-special.ensures.empty
    ∙ ap (λ (k : Key). k ∷ []) c.empty.ensures)
    c.in_ok-admit.ensures.ok
