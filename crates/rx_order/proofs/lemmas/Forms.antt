-- From the ordered relation to the two forms, and the argument of a fixed length.
use Rattle.std.proofs.Common.{◌≡◌, ℕ, zero, suc, ◌+◌, ◌<◌, true, List, [], ◌∷◌, length, Option, Some, None, refl, sym, ap, subst, arith, get_or, true≢false}
use Rattle.std.specs.Prelude.{Contains}
use Rattle.std.proofs.lemmas.Bool.Decides.{nat_tests}
use Rattle.rx_model.specs.Expression.{Expression}
use Rattle.rx_model.specs.Meaning.{Means}
use Rattle.rx_model.specs.Length.{minimum_len}
use Rattle.rx_model.proofs.lemmas.meaning.LengthLemmas.{means-long}
use Rattle.rx_hir.specs.Length.{maximum_len, saturated, in_64_bits}
use Rattle.rx_hir.proofs.SpanLemmas.{means-short, saturated-some, in_64_bits-some}
use Rattle.rx_order.specs.Order.{IsOccurrence, IsConfirmedSuffix, IsConfirmedInner, IsNoEarlier, IsThenLiteral, IsThen, Begins, SuffixIsNoEarlier, InnerIsNoEarlier}
use Rattle.rx_order.specs.Tests.{are_equal, has_fixed_length}
use Rattle.rx_order.proofs.lemmas.Core.{IsOrdered, Splits, inner-no_earlier}

-- the only member of a list of one
pub only-one : (s l : List ℕ) → Contains (s ∷ []) l → s ≡ l
only-one s l m = at_index m.0 m.1 m.2
  where
    at_index : (k : ℕ) → k < length (s ∷ []) → get_or (s ∷ []) k l ≡ l → s ≡ l
    at_index zero lt eq = eq
    at_index (suc k) lt eq = absurd (omega arith)

the-one : (s : List ℕ) → Contains (s ∷ []) s
the-one s = (0, omega arith, refl)

-- an expression that is p and then a rest which begins with one of the literals
pub splits-inner : (h p q : Expression) (ls : List (List ℕ)) → IsThen h p q → Begins ls q → (t : ℕ) (text : List ℕ) → Splits t text h p ls
splits-inner h p q ls is begins t text i j m =
    let parts = (is t text i j).0 m in
    (parts.0, parts.1, begins t text parts.0 j parts.2, λ k md. (is t text k j).1 (parts.0, md, parts.2))

pub splits-suffix : (h x : Expression) (s : List ℕ) → IsThenLiteral h x s → (t : ℕ) (text : List ℕ) → Splits t text h x (s ∷ [])
splits-suffix h x s is t text i j m =
    let parts = (is t text i j).0 m in
    let ends = parts.3 in
    (parts.0, parts.1, (s, the-one s, parts.2, omega arith), λ k md. (is t text k j).1 (parts.0, md, parts.2, parts.3))

pub inner-from : (h p q : Expression) (ls : List (List ℕ)) → IsThen h p q → Begins ls q → ((t : ℕ) (text : List ℕ) → IsOrdered t text p ls)
    → InnerIsNoEarlier h p ls
inner-from h p q ls is begins ordered t text a b = inner-no_earlier t text a b h p ls (splits-inner h p q ls is begins t text) (ordered t text)

-- the candidates of a suffix are those of the one literal after the stripped expression
module _ (h x : Expression) (s : List ℕ) (is : IsThenLiteral h x s) (t : ℕ) (text : List ℕ) (a b : ℕ) where
  shorten : (k c : ℕ) → Means t text h k (c + length s) → Means t text x k c
  shorten k c m =
      let parts = (is t text k (c + length s)).0 m in
      let ends = parts.3 in
      let same : parts.0 ≡ c = omega arith in
      subst (λ d. Means t text x k d) same parts.1

  to-inner : (c i : ℕ) → IsConfirmedSuffix t text a b h s c i → IsConfirmedInner t text a b x h (s ∷ []) c i
  to-inner c i z = record {
    candidate = (s, the-one s, z.candidate);
    start = record {
      inside = z.start.inside;
      has = shorten i c z.start.has;
      least = λ k low m. z.start.least k low ((is t text k (c + length s)).1 (c, m, z.candidate.1, refl));
    };
    match_start = (c + length s, z.candidate.2, z.start.has);
  }

  to-suffix : (c i : ℕ) → IsConfirmedInner t text a b x h (s ∷ []) c i → IsConfirmedSuffix t text a b h s c i
  to-suffix c i z =
      let here : IsOccurrence text a b s c = subst (λ l. IsOccurrence text a b l c) (sym (only-one s z.candidate.0 z.candidate.1)) z.candidate.2 in
      record {
        candidate = here;
        start = record {
          inside = z.start.inside;
          has = (is t text i (c + length s)).1 (c, z.start.has, here.1, refl);
          least = λ k low m. z.start.least k low (shorten k c m);
        };
      }

  suffix-no_earlier : IsOrdered t text x (s ∷ []) → IsNoEarlier t text a b (IsConfirmedSuffix t text a b h s) h
  suffix-no_earlier ordered =
      let r = inner-no_earlier t text a b h x (s ∷ []) (splits-suffix h x s is t text) ordered in
      record {
        some = λ c i z first. r.some c i (to-inner c i z) (λ d k lt w. first d k lt (to-suffix d k w));
        none = λ none i low m. r.none (λ c k w. none c k (to-suffix c k w)) i low m;
      }

pub suffix-from : (h x : Expression) (s : List ℕ) → IsThenLiteral h x s → ((t : ℕ) (text : List ℕ) → IsOrdered t text x (s ∷ [])) → SuffixIsNoEarlier h s
suffix-from h x s is ordered t text a b = suffix-no_earlier h x s is t text a b (ordered t text)

-- Fixed length.

equal-some : (a b : Option ℕ) → are_equal a b ≡ true → (n : ℕ) × (a ≡ Some n) × (b ≡ Some n)
equal-some None b e = absurd (true≢false (sym e))
equal-some (Some m) None e = absurd (true≢false (sym e))
equal-some (Some m) (Some n) e = let same : n ≡ m = grind (arith, nat_tests) in (m, refl, ap Some same)

pub fixed-ordered : (p : Expression) (ls : List (List ℕ)) → has_fixed_length p ≡ true → (t : ℕ) (text : List ℕ) → IsOrdered t text p ls
fixed-ordered p ls fixed t text i c i' c' m here m' there lt later none =
    let n = equal-some (saturated (minimum_len p)) (in_64_bits (maximum_len p)) fixed in
    let least = saturated-some (minimum_len p) n.0 n.1 in
    let greatest = in_64_bits-some (maximum_len p) n.0 n.2 in
    let more = least.2 in
    let long = means-long t text p least.0 least.1 i c m in
    let short = means-short t text p n.0 greatest i c m in
    let long' = means-long t text p least.0 least.1 i' c' m' in
    let short' = means-short t text p n.0 greatest i' c' m' in
    omega arith
