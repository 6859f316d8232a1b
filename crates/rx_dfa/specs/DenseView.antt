-- The value of a full DFA, by its parts.
use Rattle.std.specs.Prelude.{ℕ, List, ◌++◌, length}
use Rattle.rx_search.specs.declared.anchored.MatchKind.{MatchKind}
use Rattle.rx_nfa.specs.Nfa.{Nfa}
use Rattle.rx_dfa.specs.Alphabet.{dfa_of}
use Rattle.rx_dfa.specs.Found.{plain_keys, special_keys}
use Rattle.rx_dfa.specs.Table.{DenseValue}
use Rattle.rx_dfa.specs.declared.alphabet.Alphabet.{Alphabet}
use Rattle.rx_dfa.specs.declared.dense.found.Found.{Found}

abbrev pub value_of : Nfa → MatchKind → Alphabet → (stride2 : ℕ) → (table : List ℕ) → (dead : ℕ) → (starts : List ℕ) → (matches : List (List ℕ)) → Found
    → DenseValue
value_of nfa kind a stride2 table dead starts matches f = record {
  dfa = dfa_of nfa kind a;
  words = a.words;
  stride2 = stride2;
  keys = plain_keys f ++ special_keys f;
  table = table;
  plain = length (plain_keys f);
  dead = dead;
  starts = starts;
  matches = matches;
}
