-- What is gathered one by one is what is gathered of all.
use Rattle.std.proofs.Common.{◌≡◌, ℕ, suc, ◌+◌, ◌<◌, ◌≤◌, List, [], ◌∷◌, ◌++◌, length, drop, get_or, refl, ap, sym, ◌∙◌, append_assoc, add-one, drop-cons}
use Rattle.std.specs.Prelude.{Result, Ok, Err}
use Rattle.std.proofs.lemmas.List.{append-nil, drop_all}
use Rattle.rx_reader.specs.Reading.{◌>>=◌}
use Rattle.rx_reader.specs.declared.error.SyntaxError.{SyntaxError}
use Rattle.rx_syntax.specs.Refused.{gathered, before}

pub before-none : {A : Type 0} (rest : Result (List A) SyntaxError) → before [] rest ≡ rest
before-none (Ok ys) = refl
before-none (Err e) = refl

before-more : {A : Type 0} (xs first : List A) (rest : Result (List A) SyntaxError) → before (xs ++ first) rest ≡ before xs (rest >>= λ ys. Ok (first ++ ys))
before-more xs first (Ok ys) = ap (λ zs. Ok zs) (append_assoc xs first ys)
before-more xs first (Err e) = refl

module _ {I A : Type 0} (f : I → Result (List A) SyntaxError) where
  pub gathered-step : (is : List I) (k : ℕ) (d item : I) (xs first next : List A) → k < length is → item ≡ get_or is k d → f item ≡ Ok first
      → next ≡ xs ++ first
      → before next (gathered f (drop (k + 1) is)) ≡ before xs (gathered f (drop k is))
  gathered-step is k d item xs first next lt same gives more =
      let rest = gathered f (drop (suc k) is) in
      let here : drop k is ≡ item ∷ drop (suc k) is = drop-cons is k d lt ∙ ap (λ (x : I). x ∷ drop (suc k) is) (sym same) in
      let own : gathered f (item ∷ drop (suc k) is) ≡ (rest >>= λ ys. Ok (first ++ ys)) = ap (λ r. r >>= λ got. rest >>= λ ys. Ok (got ++ ys)) gives in
      ap (λ n. before next (gathered f (drop n is))) (add-one k) ∙ ap (λ zs. before zs rest) more ∙ before-more xs first rest
      ∙ sym (ap (before xs) (ap (gathered f) here ∙ own))

  pub gathered-refused : (is : List I) (k : ℕ) (d item : I) (xs : List A) (e : SyntaxError) → k < length is → item ≡ get_or is k d → f item ≡ Err e
      → before xs (gathered f (drop k is)) ≡ Err e
  gathered-refused is k d item xs e lt same refuses =
      let rest = gathered f (drop (suc k) is) in
      let here : drop k is ≡ item ∷ drop (suc k) is = drop-cons is k d lt ∙ ap (λ (x : I). x ∷ drop (suc k) is) (sym same) in
      let own : gathered f (item ∷ drop (suc k) is) ≡ Err e = ap (λ r. r >>= λ got. rest >>= λ ys. Ok (got ++ ys)) refuses in
      ap (before xs) (ap (gathered f) here ∙ own)

  pub gathered-end : (is : List I) (k : ℕ) (xs : List A) → length is ≤ k → before xs (gathered f (drop k is)) ≡ Ok xs
  gathered-end is k xs le = ap (λ js. before xs (gathered f js)) (drop_all k is le) ∙ ap (λ zs. Ok zs) (append-nil xs)
