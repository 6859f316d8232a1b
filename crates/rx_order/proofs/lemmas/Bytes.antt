-- The bytes of a character's encoding, and of what stands in a text.
use Rattle.std.proofs.Common.{◌≡◌, ℕ, zero, suc, ◌+◌, ◌<◌, ◌≤◌, ◌⊎◌, true, false, List, [], ◌∷◌, ◌++◌, length, slice_index, drop, refl, sym, ap, ◌∙◌, inl, inr, arith, get_or}
use Rattle.std.specs.Prelude.{nat_lt, ◌/◌, ◌%◌}
use Rattle.std.specs.Char.{len_utf8, encode_utf8}
use Rattle.std.proofs.lemmas.List.{get_or-drop, get_or_append_left}
use Rattle.std.proofs.lemmas.Bool.Decides.{nat_tests}
use Rattle.rx_model.specs.Text.{stands_at}
use Rattle.rx_model.proofs.lemmas.meaning.CharLemmas.{stands_at_parts}
use Rattle.rx_model.proofs.lemmas.runs.RunLemmas.{by_test}

two : (c : ℕ) → nat_lt c 128 ≡ false → nat_lt c 2048 ≡ true → encode_utf8 c ≡ (192 + c / 64) ∷ (128 + c % 64) ∷ []
unfolding encode_utf8
two c e f = rw (e, f) refl

three : (c : ℕ) → nat_lt c 128 ≡ false → nat_lt c 2048 ≡ false → nat_lt c 65536 ≡ true
    → encode_utf8 c ≡ (224 + c / 4096) ∷ (128 + c / 64 % 64) ∷ (128 + c % 64) ∷ []
unfolding encode_utf8
three c e f g = rw (e, f, g) refl

four : (c : ℕ) → nat_lt c 128 ≡ false → nat_lt c 2048 ≡ false → nat_lt c 65536 ≡ false
    → encode_utf8 c ≡ (240 + c / 262144) ∷ (128 + c / 4096 % 64) ∷ (128 + c / 64 % 64) ∷ (128 + c % 64) ∷ []
unfolding encode_utf8
four c e f g = rw (e, f, g) refl

one : (c : ℕ) → nat_lt c 128 ≡ true → encode_utf8 c ≡ c ∷ []
unfolding encode_utf8
one c e = rw e refl

-- the first byte of a character: the character itself, or one that begins a longer encoding
pub lead-byte : (c : ℕ) → ((c < 128) × (slice_index (encode_utf8 c) 0 ≡ c)) ⊎ ((128 ≤ c) × (192 ≤ slice_index (encode_utf8 c) 0))
lead-byte c =
    by_test (nat_lt c 128)
    (λ e. let lt : c < 128 = grind (arith, nat_tests) in inl (lt, ap (λ bs. slice_index bs 0) (one c e)))
    (λ e. let le : 128 ≤ c = grind (arith, nat_tests) in
    by_test (nat_lt c 2048)
    (λ f. inr (le, rw (two c e f) (omega arith)))
    (λ f. by_test (nat_lt c 65536)
    (λ g. inr (le, rw (three c e f g) (omega arith)))
    (λ g. inr (le, rw (four c e f g) (omega arith)))))

abbrev Follows : ℕ → Type 0
Follows b = (128 ≤ b) × (b < 192)

follows : (x : ℕ) → Follows (128 + x % 64)
follows x = (omega arith, omega arith)

-- any other byte
pub next-byte : (c q : ℕ) → suc q < len_utf8 c → Follows (slice_index (encode_utf8 c) (suc q))
next-byte c q lt =
    by_test (nat_lt c 128)
    (λ e. absurd (let le = rw e at lt in omega arith))
    (λ e. by_test (nat_lt c 2048)
    (λ f. rw (two c e f) (of-two q (rw (e, f) at lt)))
    (λ f. by_test (nat_lt c 65536)
    (λ g. rw (three c e f g) (of-three q (rw (e, f, g) at lt)))
    (λ g. rw (four c e f g) (of-four q (rw (e, f, g) at lt)))))
  where
    of-two : (q : ℕ) → suc q < 2 → Follows (slice_index ((192 + c / 64) ∷ (128 + c % 64) ∷ []) (suc q))
    of-two zero lt = follows c
    of-two (suc q) lt = absurd (omega arith)

    of-three : (q : ℕ) → suc q < 3 → Follows (slice_index ((224 + c / 4096) ∷ (128 + c / 64 % 64) ∷ (128 + c % 64) ∷ []) (suc q))
    of-three zero lt = follows (c / 64)
    of-three (suc zero) lt = follows c
    of-three (suc (suc q)) lt = absurd (omega arith)

    of-four : (q : ℕ) → suc q < 4 → Follows (slice_index ((240 + c / 262144) ∷ (128 + c / 4096 % 64) ∷ (128 + c / 64 % 64) ∷ (128 + c % 64) ∷ []) (suc q))
    of-four zero lt = follows (c / 4096)
    of-four (suc zero) lt = follows (c / 64)
    of-four (suc (suc zero)) lt = follows c
    of-four (suc (suc (suc q))) lt = absurd (omega arith)

-- a byte of what the text goes on with at i
pub byte-in : (text : List ℕ) (i : ℕ) (bytes rest : List ℕ) → drop i text ≡ bytes ++ rest → (q : ℕ) → q < length bytes
    → slice_index text (i + q) ≡ slice_index bytes q
byte-in text i bytes rest e q lt = sym (get_or-drop i text q 0) ∙ ap (λ bs. get_or bs q 0) e ∙ get_or_append_left bytes rest 0 q lt

pub byte-standing : (text : List ℕ) (i : ℕ) (bytes : List ℕ) → stands_at text i bytes ≡ true → (q : ℕ) → q < length bytes
    → slice_index text (i + q) ≡ slice_index bytes q
byte-standing text i bytes h q lt = byte-in text i bytes (drop (i + length bytes) text) (stands_at_parts text i bytes h) q lt
