-- How many calls of its automaton a search makes: they are fixed by the keys along the bytes.
use Rattle.std.specs.Prelude.{ℕ, zero, suc, ◌+◌, ◌-◌, length, if◌then◌else◌, nat_le}
use Rattle.rx_model.specs.Look.{byte_before, byte_after}
use Rattle.rx_search.specs.Input.{InputValue}
use Rattle.rx_nfa.specs.Automaton.{Surroundings, forwards, backwards}
use Rattle.rx_determinize.specs.Key.{Key, is_dead}
use Rattle.rx_dfa.specs.Automaton.{Dfa, first_key, next_key}

-- Along the n bytes from place i on, from this key: one for each byte as long as the key is alive, and one for what stands behind
-- the last of them.
unfoldable pub calls : Dfa → Surroundings → (n i : ℕ) → Key → ℕ
calls d around zero i k = if is_dead k then 0 else 1
calls d around (suc n) i k =
    let more = calls d around n (i + 1) (next_key d k (around.byte i)) in if is_dead k then 0 else suc more

-- those of a search of the input's span backwards
abbrev pub calls_backwards : Dfa → InputValue → ℕ
calls_backwards d v =
    let all = calls d (backwards d.nfa.terminator v.haystack) (v.end - v.start) (length v.haystack - v.end)
    (first_key d v.anchor (byte_after v.haystack v.end)) in
    if nat_le v.start v.end then all else 0

-- those of a search forwards
abbrev pub calls_forwards : Dfa → InputValue → ℕ
calls_forwards d v =
    let all = calls d (forwards d.nfa.terminator v.haystack) (v.end - v.start) v.start (first_key d v.anchor (byte_before v.haystack v.start)) in
    if nat_le v.start v.end then all else 0
