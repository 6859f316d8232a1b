use Rattle.std.proofs.Common.{◌≡◌, sym, subst, arith}
use Rattle.std.specs.Prelude.{Some, None, slice_get}
use Rattle.rx_onepass_build.proofs.lemmas.ListLemmas.{read-there}
use Rattle.rx_onepass.specs.Dfa.{Dfa, IsSound}
use Rattle.rx_onepass.proofs.lemmas.StartLemmas.{get-past}
use Rattle.rx_onepass.proofs.dfa.DFA.start.Goals as goal

pub returns-clause-sound : goal.returns-clause-sound
returns-clause-sound c = subst IsSound c.self.view_is c.self.invariant

pub returns-then-place-len-clause-sound : goal.returns-then-place-len-clause-sound
returns-then-place-len-clause-sound c = subst IsSound c.self.view_is c.self.invariant

pub returns-clause-value : goal.returns-clause-value
returns-clause-value c =
    subst (λ (d : Dfa). None ≡ slice_get d.starts c.args.place) c.self.view_is
    (sym (get-past c.self.inside.built.starts.items c.args.place (omega arith)))

pub returns-then-place-len-clause-value : goal.returns-then-place-len-clause-value
returns-then-place-len-clause-value c =
    subst (λ (d : Dfa). Some c.index.result.now ≡ slice_get d.starts c.args.place) c.self.view_is
    (sym (read-there c.self.inside.built.starts.items c.args.place c.index.result.now (omega arith) c.index.ensures))
