-- Ranges of bytes that hold what was added to them.
use Rattle.std.proofs.Common.{◌≡◌, ℕ, Bool, true, false, List, [], ◌∷◌, ◌++◌, refl, ap, sym, ◌∙◌}
use Rattle.std.specs.Prelude.{All, ◌||◌}
use Rattle.std.proofs.lemmas.List.Elements.{All-weaker, All-push}
use Rattle.std.proofs.lemmas.List.Folds.{list_any-append}
use Rattle.rx_model.specs.Text.{is_member}
use Rattle.rx_class.specs.Ranges.{next_byte, fewest}
use Rattle.rx_class.proofs.RangeLemmas.{fewest-members}
use Rattle.rx_class.proofs.SuccessorLemmas.{bytes-succeed, IsAny, ends-any}
use Rattle.rx_class.proofs.EarlyLemmas.{fewest-alike, bytes-front}
use Rattle.rx_syntax.specs.declared.named.ByteKey.{ByteKey}
use Rattle.rx_syntax.specs.Named.{bytes_of}
use Rattle.rx_syntax.specs.PartialBytes.{HoldsBytes}

append-members : (xs ys : List (ℕ × ℕ)) (n : ℕ) → is_member (xs ++ ys) n ≡ (is_member xs n || is_member ys n)
append-members xs ys n = list_any-append _ xs ys

alike : (xs ys : List (ℕ × ℕ)) → ((n : ℕ) → is_member xs n ≡ is_member ys n) → fewest next_byte xs ≡ fewest next_byte ys
alike xs ys same = fewest-alike next_byte IsAny bytes-succeed xs ys (ends-any xs) (ends-any ys) (λ n _. same n)

members-of : (xs : List (ℕ × ℕ)) (n : ℕ) → is_member (fewest next_byte xs) n ≡ is_member xs n
members-of xs n = fewest-members next_byte IsAny bytes-succeed xs (ends-any xs) n tt

or-held : (x y z : Bool) → (x || y) ≡ x → ((x || z) || y) ≡ (x || z)
or-held true y z e = refl
or-held false y true e = refl
or-held false y false e = e

or-twice : (x y : Bool) → ((x || y) || y) ≡ (x || y)
or-twice true y = refl
or-twice false true = refl
or-twice false false = refl

-- what the ranges hold they hold with more
held-more : (xs ys zs : List (ℕ × ℕ)) → fewest next_byte (xs ++ ys) ≡ fewest next_byte xs → fewest next_byte ((xs ++ zs) ++ ys) ≡ fewest next_byte (xs ++ zs)
held-more xs ys zs same =
    alike ((xs ++ zs) ++ ys) (xs ++ zs) (λ n.
    let within : (is_member xs n || is_member ys n) ≡ is_member xs n =
    sym (append-members xs ys n) ∙ sym (members-of (xs ++ ys) n) ∙ ap (λ rs. is_member rs n) same ∙ members-of xs n in
    append-members (xs ++ zs) ys n ∙ ap (λ b. b || is_member ys n) (append-members xs zs n)
    ∙ or-held (is_member xs n) (is_member ys n) (is_member zs n) within ∙ sym (append-members xs zs n))

-- what was added is held
held-new : (xs ys : List (ℕ × ℕ)) → fewest next_byte ((xs ++ ys) ++ ys) ≡ fewest next_byte (xs ++ ys)
held-new xs ys =
    alike ((xs ++ ys) ++ ys) (xs ++ ys) (λ n.
    append-members (xs ++ ys) ys n ∙ ap (λ b. b || is_member ys n) (append-members xs ys n)
    ∙ or-twice (is_member xs n) (is_member ys n) ∙ sym (append-members xs ys n))

pub bytes-held : (xs zs : List (ℕ × ℕ)) (keys : List ByteKey) → All (HoldsBytes xs) keys → All (HoldsBytes (xs ++ zs)) keys
bytes-held xs zs keys all = All-weaker (HoldsBytes xs) (HoldsBytes (xs ++ zs)) (λ key h. held-more xs (bytes_of key) zs h) keys all

pub byte_set-held : (xs : List (ℕ × ℕ)) (key : ByteKey) (keys : List ByteKey) → All (HoldsBytes xs) keys
    → All (HoldsBytes (xs ++ bytes_of key)) (keys ++ key ∷ [])
byte_set-held xs key keys all =
    All-push (HoldsBytes (xs ++ bytes_of key)) keys key (bytes-held xs (bytes_of key) keys all) (held-new xs (bytes_of key))

-- ranges are the same as others, and then with more
pub with-more : (xs ranges ys : List (ℕ × ℕ)) → fewest next_byte xs ≡ fewest next_byte ranges → fewest next_byte (xs ++ ys) ≡ fewest next_byte (ranges ++ ys)
with-more xs ranges ys same =
    sym (bytes-front xs ys) ∙ ap (λ rs. fewest next_byte (rs ++ ys)) same ∙ bytes-front ranges ys

-- fewest ranges stay as they are
pub merged-same : (xs : List (ℕ × ℕ)) → fewest next_byte (fewest next_byte xs) ≡ fewest next_byte xs
merged-same xs = alike (fewest next_byte xs) xs (members-of xs)
