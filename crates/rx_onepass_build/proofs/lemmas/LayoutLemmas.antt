-- How a table is laid out: its classes and the cells of a row.
use Rattle.std.proofs.Common.{◌≡◌, ℕ, ◌*◌, ◌^◌, ◌<◌, ◌≤◌, List, [], ◌∷◌, length, refl, sym, ◌∙◌, ap, subst, inl, inr, arith, slice_index}
use Rattle.std.specs.Prelude.{Bool, true, false, Option, EachIndex}
use Rattle.std.proofs.lemmas.Bool.{cases_lt}
use Rattle.std.proofs.lemmas.Nat.{pow_below}
use Rattle.std.proofs.Math.Nat.{mul-le-mul_left, mul-le-mul_right}
use Rattle.rx_search.specs.ByteClasses.{AreClasses, alphabet_len, class_count, IsLeastPower}
use Rattle.rx_nfa.specs.Automaton.{state_at}
use Rattle.rx_nfa.specs.ByteClasses.{AreOfOneClass}
use Rattle.rx_nfa.specs.Nfa.{Nfa, IsInRange}
use Rattle.rx_nfa.specs.Ordered.{target}
use Rattle.rx_nfa.specs.Row.{reading, transition_to}
use Rattle.rx_nfa.specs.declared.state.State.{State}
use Rattle.rx_nfa.specs.declared.state.State.TheVariants.{ByteRange, Sparse, Look, Union, Capture, Fail, Match}
use Rattle.rx_nfa.proofs.lemmas.classes.ApartLemmas.{one-class-routes}
use Rattle.rx_onepass_build.specs.Build.{AreClassesFor, IsLayoutOf, start_count}
use Rattle.rx_onepass_build.specs.Config.{each_of, shares_of, size_limit_of}
use Rattle.rx_onepass_build.specs.declared.config.Config.{Config}

pub pow-narrow : (k : ℕ) → k ≤ 9 → 2 ^ k ≤ 512
pow-narrow k le =
    elim (cases_lt k 9) [
      | inl lt ↦ let low : 2 ^ k < 2 ^ 9 = pow_below k 9 lt in omega arith
      | inr high ↦ let same : k ≡ 9 = omega arith in subst (λ n. 2 ^ n ≤ 512) (sym same) nine
    ]
  where
    nine : 2 ^ 9 ≤ 512
    nine = omega arith

-- a product of numbers that are bounded
pub product-below : (a b m n : ℕ) → a ≤ m → b ≤ n → a * b ≤ m * n
product-below a b m n le less = let one = mul-le-mul_right b le in let two = mul-le-mul_left m less in omega arith

-- a state goes on alike over two bytes of one class
pub target-alike : (nfa : Nfa) → IsInRange nfa → (q b c : ℕ) → AreOfOneClass nfa.classes b c
    → target (state_at nfa.states q) b ≡ target (state_at nfa.states q) c
target-alike nfa range q b c of = by (state_at nfa.states q) refl
  where
    by : (s : State) → state_at nfa.states q ≡ s → target s b ≡ target s c
    by (ByteRange low high next) is =
        one-class-routes nfa range b c q (transition_to next (low, high) ∷ []) of (ap reading is)
    by (Sparse transitions) is = one-class-routes nfa range b c q transitions of (ap reading is)
    by (Look look next) is = refl
    by (Union alternates) is = refl
    by (Capture next pattern slot) is = refl
    by Fail is = refl
    by (Match pattern) is = refl

pub target-single : (nfa : Nfa) (classes : List ℕ) → EachIndex classes (λ b. slice_index classes b ≡ b) → length classes ≡ 256 → (q b c : ℕ)
    → AreOfOneClass classes b c → target (state_at nfa.states q) b ≡ target (state_at nfa.states q) c
target-single nfa classes single len q b c of =
    let first = of.first in
    let second = of.second in
    let one : slice_index classes b ≡ b = single b (omega arith) in
    let two : slice_index classes c ≡ c = single c (omega arith) in
    ap (λ x. target (state_at nfa.states q) x) (sym one ∙ of.same ∙ two)

-- the classes that the configuration asks for
pub classes-for : (config : Config) (nfa : Nfa) (classes : List ℕ) (shared : Bool) → shared ≡ shares_of config → AreClasses classes
    → (shared ≡ true → classes ≡ nfa.classes) → (shared ≡ false → EachIndex classes (λ b. slice_index classes b ≡ b))
    → AreClassesFor nfa (shares_of config) classes
classes-for config nfa classes shared is are own single = record { are = are; own = λ yes. own (is ∙ yes); single = λ no. single (is ∙ no) }

-- the layout that it asks for
pub laid-out : (config : Config) (nfa : Nfa) (classes : List ℕ) (each : Bool) (stride2 stride starts : ℕ) (limit : Option ℕ)
    → AreClassesFor nfa (shares_of config) classes → each ≡ each_of config → IsLeastPower (alphabet_len classes) stride2 → stride ≡ 2 ^ stride2
    → starts ≡ start_count nfa each → limit ≡ size_limit_of config
    → IsLayoutOf config nfa (record { stride = stride; starts = starts; limit = limit })
laid-out config nfa classes each stride2 stride starts limit are each_is power stride_is starts_is limit_is = record {
  classes = classes;
  classes_are = are;
  stride2 = stride2;
  power = power;
  stride_is = stride_is;
  starts_are = starts_is ∙ ap (start_count nfa) each_is;
  limit_is = limit_is;
}

-- a row has room for the cell of each class, and for that of a match
pub layout-wide : (classes : List ℕ) (stride2 stride : ℕ) → IsLeastPower (alphabet_len classes) stride2 → stride ≡ 2 ^ stride2 → class_count classes < stride
layout-wide classes stride2 stride power is =
    let enough : alphabet_len classes ≤ 2 ^ stride2 = power.enough in
    subst (λ n. class_count classes < n) (sym is) (omega arith)
