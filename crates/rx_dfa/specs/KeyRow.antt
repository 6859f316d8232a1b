-- Keys in an arena.
use Rattle.std.specs.Prelude.{ℕ, ◌≤◌, List, slice_range}
use Rattle.rx_determinize.specs.Key.{Key}
use Rattle.rx_dfa.specs.declared.lazy.key_row.KeyRow.{KeyRow}

-- the key of a row, whose lists lie in these
abbrev pub key_in : (threads matches : List ℕ) → KeyRow → Key
key_in threads matches r = record {
  threads = slice_range threads r.threads r.threads_end;
  loops = r.loops;
  matches = slice_range matches r.matches r.matches_end;
  before = r.before;
}

-- its lists lie in those of these lengths
pub record LiesWithin (threads matches : ℕ) (r : KeyRow) : Type 0 where
  pub threads_begin : r.threads ≤ r.threads_end
  pub threads_within : r.threads_end ≤ threads
  pub matches_begin : r.matches ≤ r.matches_end
  pub matches_within : r.matches_end ≤ matches
