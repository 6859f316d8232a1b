-- Classes of bytes, and one byte of each.
use Rattle.std.proofs.Common.{◌≡◌, ℕ, zero, suc, ◌+◌, ◌-◌, ◌<◌, ◌≤◌, ◌⊎◌, List, [], ◌∷◌, ◌++◌, inl, inr, refl, sym, ◌∙◌, ap, subst, ⊎_elim, arith, length, get_or, replicate}
use Rattle.std.specs.Prelude.{Bool, true, false, if◌then◌else◌, ◌==◌}
use Rattle.std.proofs.lemmas.Bool.{cases_lt, eqb-true, eqb-false}
use Rattle.std.proofs.lemmas.List.{length-append, get_or_append_left, get_or-append_right}
use Rattle.rx_model.proofs.lemmas.runs.RunLemmas.{by_test}
use Rattle.rx_search.specs.ByteClasses.{class_of, AreClasses, AreRepresentatives}

-- a table in which nothing is marked
pub unmarked : (n b : ℕ) → get_or (replicate n false) b false ≡ false
unmarked zero b = refl
unmarked (suc n) zero = refl
unmarked (suc n) (suc b) = unmarked n b

-- where nothing ends, all bytes are of one class
pub class_of-none : (f : ℕ → Bool) (b : ℕ) → ((e : ℕ) → f e ≡ false) → class_of f b ≡ 0
unfolding class_of
class_of-none f zero none = refl
class_of-none f (suc b) none = λ i. class_of-none f b none i + (if none b i then 1 else 0)

-- the next class, by what ends behind the byte
pub class_of-next : (f : ℕ → Bool) (b : ℕ) → class_of f (b + 1) ≡ class_of f b + (if f b then 1 else 0)
unfolding class_of
class_of-next f b = let more : b + 1 ≡ suc b = omega arith in ap (class_of f) more

pub class_of-step : (f : ℕ → Bool) (b : ℕ) → (class_of f (b + 1) ≡ class_of f b) ⊎ (class_of f (b + 1) ≡ class_of f b + 1)
class_of-step f b =
    let next = class_of-next f b in
    by_test (f b)
    (λ e. let one = ap (λ x. class_of f b + (if x then 1 else 0)) e in inr (omega arith))
    (λ e. let none = ap (λ x. class_of f b + (if x then 1 else 0)) e in inl (omega arith))

-- a table of such classes
pub classes-made : (classes : List ℕ) (f : ℕ → Bool) → length classes ≡ 256 → ((b : ℕ) → b ≤ 255 → get_or classes b 0 ≡ class_of f b) → AreClasses classes
unfolding class_of
classes-made classes f len each = record {
  len = len;
  first = each 0 (omega arith);
  steps = λ b lt.
      (let here = each b (omega arith) in
      let next = each (b + 1) (omega arith) in
      ⊎_elim (λ same. inl (omega arith)) (λ more. inr (omega arith)) (class_of-step f b));
}

-- the classes of the bytes before this one have their representatives
pub record Met (classes : List ℕ) (byte : ℕ) (bytes : List ℕ) : Type 0 where
  pub count : ((byte ≡ 0) × (length bytes ≡ 0)) ⊎ ((0 < byte) × (length bytes ≡ get_or classes (byte - 1) 0 + 1))
  pub inside : (k : ℕ) → k < length bytes → get_or bytes k 0 < byte
  pub own : (k : ℕ) → k < length bytes → get_or classes (get_or bytes k 0) 0 ≡ k
  pub least : (k b : ℕ) → k < length bytes → b < 256 → get_or classes b 0 ≡ k → get_or bytes k 0 ≤ b

pub Met-none : (classes bytes : List ℕ) → length bytes ≡ 0 → Met classes 0 bytes
Met-none classes bytes none = record {
  count = inl (refl, none);
  inside = λ k lt. absurd (omega arith);
  own = λ k lt. absurd (omega arith);
  least = λ k b lt small is. absurd (omega arith);
}

module _ (classes : List ℕ) (are : AreClasses classes) where
  pub classes-rise : (b c : ℕ) → b ≤ c → c ≤ 255 → get_or classes b 0 ≤ get_or classes c 0
  classes-rise b zero le few = let e : b ≡ 0 = omega arith in let same = ap (λ n. get_or classes n 0) e in omega arith
  classes-rise b (suc c) le few =
      ⊎_elim
      (λ lt.
      let before = classes-rise b c (omega arith) (omega arith) in
      let more : c + 1 ≡ suc c = omega arith in
      let same = ap (λ n. get_or classes n 0) more in
      ⊎_elim (λ stays. omega arith) (λ rises. omega arith) (are.steps c (omega arith)))
      (λ ge. let e : b ≡ suc c = omega arith in let same = ap (λ n. get_or classes n 0) e in omega arith)
      (cases_lt b (suc c))

  -- a byte of a class that was met
  Met-old : (byte : ℕ) (bytes : List ℕ) → byte < 256 → (get_or classes byte 0 ≡ length bytes → ⊥) → Met classes byte bytes → Met classes (byte + 1) bytes
  Met-old byte bytes small old m = record {
    count =
        ⊎_elim
        (λ none.
        let e = none.0 in
        let first = are.first in
        let same = ap (λ n. get_or classes n 0) e in
        let empty = none.1 in
        let is : get_or classes byte 0 ≡ length bytes = omega arith in
        absurd (old is))
        (λ some.
        let pos = some.0 in
        let long = some.1 in
        let back : byte - 1 + 1 ≡ byte = omega arith in
        let same = ap (λ n. get_or classes n 0) back in
        let at : byte + 1 - 1 ≡ byte = omega arith in
        let here = ap (λ n. get_or classes n 0) at in
        ⊎_elim
        (λ stays. inr (omega arith, omega arith))
        (λ rises. let is : get_or classes byte 0 ≡ length bytes = omega arith in absurd (old is))
        (are.steps (byte - 1) (omega arith)))
        m.count;
    inside = λ k lt. (let below = m.inside k lt in omega arith);
    own = m.own;
    least = m.least;
  }

  -- the first byte of a class
  Met-new : (byte : ℕ) (bytes : List ℕ) → byte < 256 → get_or classes byte 0 ≡ length bytes → Met classes byte bytes
      → Met classes (byte + 1) (bytes ++ byte ∷ [])
  Met-new byte bytes small is m =
      let long = length-append bytes (byte ∷ []) in
      record {
        count = (let at : byte + 1 - 1 ≡ byte = omega arith in let here = ap (λ n. get_or classes n 0) at in inr (omega arith, omega arith));
        inside = λ k lt.
            each (λ n x. x < byte + 1) (λ k' lt'. let below = m.inside k' lt' in omega arith) (omega arith) k lt;
        own = λ k lt. each (λ n x. get_or classes x 0 ≡ n) m.own is k lt;
        least = λ k b lt few of.
            each (λ n x. get_or classes b 0 ≡ n → x ≤ b) (λ k' lt' of'. m.least k' b lt' few of')
            (λ of'.
            ⊎_elim
            (λ before.
            ⊎_elim
            (λ none. let e = none.0 in omega arith)
            (λ some. let long' = some.1 in let rise = classes-rise b (byte - 1) (omega arith) (omega arith) in absurd (omega arith))
            m.count)
            (λ ge. ge)
            (cases_lt b byte))
            k lt of;
      }
    where
      -- what holds of each byte so far, and of the new one
      each : (P : ℕ → ℕ → Type 0) → ((k : ℕ) → k < length bytes → P k (get_or bytes k 0)) → P (length bytes) byte → (k : ℕ) → k < length (bytes ++ byte ∷ [])
          → P k (get_or (bytes ++ byte ∷ []) k 0)
      each P before last k lt =
          let long = length-append bytes (byte ∷ []) in
          ⊎_elim
          (λ below. subst (P k) (sym (get_or_append_left bytes (byte ∷ []) 0 k below)) (before k below))
          (λ ge.
          let e : length bytes ≡ k = omega arith in
          let none : length bytes - length bytes ≡ 0 = omega arith in
          subst (λ n. P n (get_or (bytes ++ byte ∷ []) n 0)) e
          (subst (P (length bytes))
          (sym (get_or-append_right bytes (byte ∷ []) (length bytes) (length bytes) 0 refl (omega arith) ∙ ap (λ n. get_or (byte ∷ []) n 0) none)) last))
          (cases_lt k (length bytes))

  pub Met-next : (byte : ℕ) (bytes bytes' : List ℕ) → byte < 256 → bytes' ≡ (if get_or classes byte 0 == length bytes then bytes ++ byte ∷ [] else bytes)
      → Met classes byte bytes → Met classes (byte + 1) bytes'
  Met-next byte bytes bytes' small is m =
      by_test (get_or classes byte 0 == length bytes)
      (λ e. subst (Met classes (byte + 1)) (sym (is ∙ ap (λ b. if b then bytes ++ byte ∷ [] else bytes) e))
      (Met-new byte bytes small (eqb-true (get_or classes byte 0) (length bytes) e) m))
      (λ e. subst (Met classes (byte + 1)) (sym (is ∙ ap (λ b. if b then bytes ++ byte ∷ [] else bytes) e))
      (Met-old byte bytes small (eqb-false (get_or classes byte 0) (length bytes) e) m))

  pub Met-all : (byte : ℕ) (bytes : List ℕ) → byte ≡ 256 → Met classes byte bytes → AreRepresentatives classes bytes
  Met-all byte bytes all m = record {
    each =
        ⊎_elim
        (λ none. let e = none.0 in absurd (omega arith))
        (λ some. let last : byte - 1 ≡ 255 = omega arith in some.1 ∙ ap (λ n. get_or classes n 0 + 1) last)
        m.count;
    inside = λ k lt. (let below = m.inside k lt in omega arith);
    own = m.own;
    least = m.least;
  }
