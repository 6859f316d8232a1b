-- What a table is made of.
use Rattle.std.specs.Prelude.{◌≡◌, Bool, true, false}
use Rattle.rx_dfa.specs.Automaton.{Dfa, IsSound, AsksForWords}
use Rattle.rx_dfa.specs.declared.dense.job.Job.{Job}

-- the DFA
abbrev pub dfa_in : Job → Dfa
dfa_in j = record {
  nfa = record j.nfa.now { states = j.source.states.now; start_anchored = j.source.start; terminator = j.source.matcher; reverse = j.source.reverse };
  kind = j.source.kind;
  classes = j.alphabet.now.classes;
  bytes = j.alphabet.now.bytes.items;
  keeps = j.alphabet.now.keeps;
}

-- Its parts fit together, and it is known whether it asks for words of Unicode.
pub record IsServed (d : Dfa) (asks : Bool) : Type 0 where
  pub sound : IsSound d
  pub words : asks ≡ true → AsksForWords d.nfa
  pub no_words : asks ≡ false → AsksForWords d.nfa → ⊥

abbrev pub IsJob : Job → Type 0
IsJob j = IsServed (dfa_in j) j.alphabet.now.words
