-- The bytes as a DFA tells them apart.
use Rattle.std.specs.Prelude.{◌≡◌, ℕ, ◌||◌, Bool, true, false, not, nat_lt, EachIndex, slice_index}
use Rattle.rx_model.specs.Look.{Look}
use Rattle.rx_search.specs.ByteClasses.{AreClasses}
use Rattle.rx_search.specs.LookSet.{has}
use Rattle.rx_nfa.specs.Nfa.{Nfa}
use Rattle.rx_determinize.specs.Sight.{AreClassesFor}
use Rattle.rx_search.specs.declared.anchored.MatchKind.{MatchKind}
use Rattle.rx_dfa.specs.Automaton.{AsksForWords, Dfa}
use Rattle.rx_dfa.specs.declared.alphabet.Alphabet.{Alphabet}

-- the byte is read: it is ASCII, or words of Unicode are not asked for
abbrev pub reads : (words : Bool) → (byte : ℕ) → Bool
reads words byte = not words || nat_lt byte 128

-- The classes are those of the NFA, or one for each byte. They serve it, and that of the last byte is kept exactly where the NFA
-- asks for look-around. It is known whether it asks for words of Unicode.
pub record IsAlphabetOf (nfa : Nfa) (byte_classes : Bool) (a : Alphabet) : Type 0 where
  pub own : byte_classes ≡ true → a.classes ≡ nfa.classes
  pub single : byte_classes ≡ false → EachIndex a.classes (λ b. slice_index a.classes b ≡ b)
  pub classes : AreClasses a.classes
  pub serve : AreClassesFor nfa a.keeps a.classes a.bytes.items
  pub keeps : a.keeps ≡ false → (kind : Look) → has nfa.looks kind ≡ false
  pub asks : a.keeps ≡ true → (kind : Look) × (has nfa.looks kind ≡ true)
  pub words : a.words ≡ true → AsksForWords nfa
  pub no_words : a.words ≡ false → AsksForWords nfa → ⊥

-- the DFA of this NFA with these classes
abbrev pub dfa_of : Nfa → MatchKind → Alphabet → Dfa
dfa_of nfa kind a = record { nfa = nfa; kind = kind; classes = a.classes; bytes = a.bytes.items; keeps = a.keeps }
