-- Hashes of keys.
use Rattle.std.specs.Prelude.{ℕ, ◌+◌, ◌*◌, ◌/◌, ◌%◌, ◌^◌, List, [], ◌∷◌, Option, Some, None, if◌then◌else◌}
use Rattle.rx_determinize.specs.Key.{Key}

-- a hash with one more word
abbrev pub mixed : (hash word : ℕ) → ℕ
mixed hash word = (hash * 0x9E3779B97F4A7C15 % 2 ^ 64 + word) % 2 ^ 64

-- a hash with these words
abbrev pub mixed_all : (hash : ℕ) → (words : List ℕ) → ℕ
mixed_all hash [] = hash
mixed_all hash (word ∷ words) = mixed_all (mixed hash word) words

-- a number for the byte, or another for none
abbrev pub before_word : Option ℕ → ℕ
before_word (Some byte) = byte + 1
before_word None = 0

unfoldable pub hash_of : Key → ℕ
hash_of k = mixed_all (mixed (mixed_all (before_word k.before) k.threads) (if k.loops then 1 else 0)) k.matches

-- the bucket of a key, of so many
abbrev pub bucket_of : (buckets : ℕ) → Key → ℕ
bucket_of buckets k = hash_of k / 2 ^ 32 % buckets
