-- Keys in buckets.
use Rattle.std.specs.Prelude.{◌≡◌, ℕ, ◌-◌, ◌<◌, ◌≤◌, ◌≢◌, List, length, Some, slice_get, slice_index}
use Rattle.rx_determinize.specs.Key.{Key}
use Rattle.rx_dfa.specs.Hash.{bucket_of}

-- The last of the first n keys that lies in the bucket stands before this number, or none does and the number is 0.
pub record IsLimit (buckets : List ℕ) (bucket n limit : ℕ) : Type 0 where
  pub within : limit ≤ n
  pub past : (q : ℕ) → limit ≤ q → q < n → slice_index buckets q ≢ bucket
  pub there : 0 < limit → slice_index buckets (limit - 1) ≡ bucket

-- each key lies in its bucket, each link leads to the key before in the same bucket, and each bucket to its last key
pub record AreChained (keys : List Key) (buckets links heads : List ℕ) : Type 0 where
  pub some : 0 < length heads
  pub in_buckets : length buckets ≡ length keys
  pub linked : length links ≡ length keys
  pub bucket : (r : ℕ) (k : Key) → slice_get keys r ≡ Some k → slice_index buckets r ≡ bucket_of (length heads) k
  pub link : (r : ℕ) → r < length buckets → IsLimit buckets (slice_index buckets r) r (slice_index links r)
  pub head : (b : ℕ) → b < length heads → IsLimit buckets b (length buckets) (slice_index heads b)

-- no two of them are alike
abbrev pub AreApart : List Key → Type 0
AreApart keys = (r s : ℕ) (k : Key) → slice_get keys r ≡ Some k → slice_get keys s ≡ Some k → r ≡ s
