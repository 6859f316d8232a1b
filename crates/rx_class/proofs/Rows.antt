-- Rows of the definitions.
use Rattle.std.proofs.Common.{◌≡◌, [], ◌∷◌, refl}
use Rattle.ucd_case.specs.FoldOtherRows.{fold_other_rows}
use Rattle.ucd_case.specs.CaseFolding.{fold_pairs}
use Rattle.rx_class.specs.Bytes.{byte_complement, byte_folded}
use Rattle.rx_class.specs.Folding.{folded}
use Rattle.rx_class.specs.Outside.{outside}
use Rattle.rx_class.specs.Ranges.{next_scalar, fewest, insert}
use Rattle.rx_class.specs.Scalars.{complement}

folded_rows :
    -- `k`, `ſ`, `1`, and the surrogates' neighbours
    (folded ((0x6B, 0x6B) ∷ []) ≡ (0x4B, 0x4B) ∷ (0x6B, 0x6B) ∷ (0x212A, 0x212A) ∷ []) ×
    (folded ((0x17F, 0x17F) ∷ []) ≡ (0x53, 0x53) ∷ (0x73, 0x73) ∷ (0x17F, 0x17F) ∷ []) ×
    (folded ((0x31, 0x31) ∷ []) ≡ (0x31, 0x31) ∷ []) ×
    (folded ((0xD7FF, 0xE000) ∷ []) ≡ (0xD7FF, 0xE000) ∷ [])
unfolding folded fold_pairs fold_other_rows fewest insert
folded_rows = (refl, refl, refl, refl)

byte_rows :
    -- `K`, all bytes from `k` on
    (byte_folded ((0x4B, 0x4B) ∷ []) ≡ (0x4B, 0x4B) ∷ (0x6B, 0x6B) ∷ []) ×
    (byte_folded ((0x6B, 0xFF) ∷ []) ≡ (0x4B, 0x5A) ∷ (0x6B, 0xFF) ∷ []) ×
    (byte_complement ((0x61, 0x61) ∷ []) ≡ (0, 0x60) ∷ (0x62, 0xFF) ∷ []) ×
    (byte_complement ((0, 0xFF) ∷ []) ≡ [])
unfolding byte_folded fewest insert outside
byte_rows = (refl, refl, refl, refl)

scalar_rows :
    (complement ((0x61, 0xD7FF) ∷ []) ≡ (0, 0x60) ∷ (0xE000, 0x10FFFF) ∷ []) ×
    (complement [] ≡ (0, 0x10FFFF) ∷ []) ×
    (fewest next_scalar ((0xE000, 0xE001) ∷ (0x62, 0xD7FF) ∷ (0x61, 0x61) ∷ (0x7A, 0x61) ∷ []) ≡ (0x61, 0xE001) ∷ [])
unfolding fewest insert outside
scalar_rows = (refl, refl, refl)
