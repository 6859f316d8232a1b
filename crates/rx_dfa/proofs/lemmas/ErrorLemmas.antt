-- How far an error of a part is one of the whole.
use Rattle.std.proofs.Common.{ℕ, subst}
use Rattle.std.specs.Prelude.{Option}
use Rattle.rx_dfa.specs.Automaton.{Dfa}
use Rattle.rx_dfa.specs.Dense.{IsRefused}
use Rattle.rx_dfa.specs.Found.{Grows}
use Rattle.rx_dfa.specs.declared.dense.error.BuildError.{BuildError}
use Rattle.rx_dfa.specs.declared.dense.found.Found.{Found}

pub refused-before : (d : Dfa) (old new : Found) → Grows old new → (e : BuildError) → IsRefused d new.stride new.limit e → IsRefused d old.stride old.limit e
refused-before d old new grows e refused =
    subst (λ (l : Option ℕ). IsRefused d old.stride l e) grows.limit (subst (λ (s : ℕ). IsRefused d s new.limit e) grows.stride refused)
