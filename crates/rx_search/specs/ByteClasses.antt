-- Bytes that are told apart, and the classes of those that are not.
use Rattle.std.specs.Prelude.{◌≡◌, ℕ, zero, suc, ◌+◌, ◌^◌, ◌<◌, ◌≤◌, ◌⊎◌, Bool, false, ◌||◌, ◌==◌, List, length, if◌then◌else◌, slice_index, slice_index_or}

-- The class of a byte, where `is_end` tells the bytes behind which a class ends: as many classes end before the byte.
unfoldable pub class_of : (is_end : ℕ → Bool) → (byte : ℕ) → ℕ
class_of is_end zero = 0
class_of is_end (suc byte) = class_of is_end byte + (if is_end byte then 1 else 0)

-- The classes of all bytes are numbered from 0 on, in the order of their bytes, and each is a range of bytes.
pub record AreClasses (classes : List ℕ) : Type 0 where
  pub len : length classes ≡ 256
  pub first : slice_index classes 0 ≡ 0
  pub steps : (b : ℕ) → b < 255 → (slice_index classes (b + 1) ≡ slice_index classes b) ⊎ (slice_index classes (b + 1) ≡ slice_index classes b + 1)

-- how many classes there are
abbrev pub class_count : (classes : List ℕ) → ℕ
class_count classes = slice_index classes 255 + 1

-- how many there are with the class of the end of input, which comes last
abbrev pub alphabet_len : (classes : List ℕ) → ℕ
alphabet_len classes = class_count classes + 1

-- k is the least exponent of 2 whose power is n or more
pub record IsLeastPower (n k : ℕ) : Type 0 where
  pub enough : n ≤ 2 ^ k
  pub least : (j : ℕ) → n ≤ 2 ^ j → k ≤ j

-- the bytes are the least of each class, in order
pub record AreRepresentatives (classes bytes : List ℕ) : Type 0 where
  pub each : length bytes ≡ class_count classes
  pub inside : (k : ℕ) → k < length bytes → slice_index bytes k < 256
  pub own : (k : ℕ) → k < length bytes → slice_index classes (slice_index bytes k) ≡ k
  pub least : (k b : ℕ) → k < length bytes → b < 256 → slice_index classes b ≡ k → slice_index bytes k ≤ b

-- a range of bytes from `start` to `end` begins behind the byte, or ends with it
abbrev pub is_edge : (start end byte : ℕ) → Bool
is_edge start end byte = (byte + 1 == start) || (byte == end)

-- a class ends there, or did before
abbrev pub is_edge_or_end : (start end : ℕ) → (ends : List Bool) → (byte : ℕ) → Bool
is_edge_or_end start end ends byte = is_edge start end byte || slice_index_or ends byte false
