-- What was found in haystacks, in numbers.
use Rattle.std.specs.Prelude.{ℕ, List, ◌++◌, length, sum_by, codes, decimal}
use Rattle.rx_gen.specs.declared.totals.Counts.{Counts}
use Rattle.rx_gen.specs.declared.totals.Totals.{Totals}

abbrev pub matches_of : Counts → ℕ
matches_of found = found.matches

abbrev pub covered_of : Counts → ℕ
covered_of found = found.covered

-- how many haystacks there are, how long they are together, how many matches are in them, and how long these are together
abbrev pub totals_of : (haystacks : List (List ℕ)) → List Counts → Totals
totals_of haystacks found = record {
  haystacks = length haystacks;
  bytes = sum_by length haystacks;
  matches = sum_by matches_of found;
  covered = sum_by covered_of found;
}

-- the line that tells them
abbrev pub totals_text : Totals → List ℕ
totals_text t =
    codes "haystacks " ++ decimal t.haystacks ++ codes " bytes " ++ decimal t.bytes ++ codes " matches " ++ decimal t.matches ++ codes " covered "
    ++ decimal t.covered ++ codes "\n"
