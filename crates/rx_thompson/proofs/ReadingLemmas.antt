-- Which patterns are read.
use Rattle.std.proofs.Common.{◌≡◌, ℕ, ◌≤◌, min, List, Bor, length, take, map, sym, ap, ◌∙◌, subst, arith}
use Rattle.std.proofs.lemmas.List.{take_min, take_all, take-map, length-map}
use Rattle.rx_search.specs.Limits.{id_limit}
use Rattle.rx_reader.specs.declared.config.Config.{Config as Grammar}
use Rattle.rx_syntax.specs.Patterns.{each_read}
use Rattle.rx_syntax.specs.Weight.{AreWeightsOf}
use Rattle.rx_syntax.specs.declared.weight.Weights.{Weights}
use Rattle.rx_thompson.specs.Build.{reading_of, AreWeighed}

-- the texts of a list of references
abbrev pub texts_of : List (Bor (List ℕ)) → List (List ℕ)
texts_of ps = map (λ (p : Bor (List ℕ)). p.now) ps

-- the first n of them
pub first-texts : (ps : List (Bor (List ℕ))) (n k : ℕ) → k ≡ min (length ps) n → texts_of (take k ps) ≡ take n (texts_of ps)
first-texts ps n k is =
    let other : k ≡ min n (length (texts_of ps)) = omega (arith, is, length-map ps (λ (p : Bor (List ℕ)). p.now)) in
    sym (take-map (λ (p : Bor (List ℕ)). p.now) k ps) ∙ ap (λ j. take j (texts_of ps)) other ∙ take_min n (texts_of ps)

-- what is read is what the patterns up to the limit read as
pub first-read : (syntax : Grammar) (ps : List (Bor (List ℕ))) (k : ℕ) → k ≡ min (length ps) id_limit
    → each_read syntax (texts_of (take k ps)) ≡ reading_of syntax (texts_of ps)
unfolding reading_of
first-read syntax ps k is = ap (each_read syntax) (first-texts ps id_limit k is)

-- what the first patterns weigh
pub first-weighed : (syntax : Grammar) (ps : List (Bor (List ℕ))) (k : ℕ) (w : Weights) → k ≡ min (length ps) id_limit
    → AreWeightsOf (each_read syntax (texts_of (take k ps))) (length (take k ps)) w
    → AreWeighed syntax (texts_of ps) w
unfolding reading_of
first-weighed syntax ps k w is own =
    let counted : length (take k ps) ≡ length (texts_of (take k ps)) = sym (length-map (take k ps) (λ (p : Bor (List ℕ)). p.now)) in
    subst (λ (texts : List (List ℕ)). AreWeightsOf (each_read syntax texts) (length texts) w) (first-texts ps id_limit k is)
    (subst (λ (n : ℕ). AreWeightsOf (each_read syntax (texts_of (take k ps))) n w) counted own)

-- all of the patterns are read, where there are few enough
pub all-read : (syntax : Grammar) (texts : List (List ℕ)) → length texts ≤ id_limit → reading_of syntax texts ≡ each_read syntax texts
unfolding reading_of
all-read syntax texts few = ap (each_read syntax) (take_all id_limit texts few)
