-- Going through patterns one after another.
use Rattle.std.proofs.Common.{◌≡◌, ℕ, ◌+◌, ◌<◌, ◌≤◌, List, [], ◌∷◌, ◌++◌, length, drop, get_or, Result, Ok, Err, refl, sym, ap, ◌∙◌, subst, append_assoc, append-nil, arith, length-append}
use Rattle.std.proofs.Common.{Bor, map}
use Rattle.std.specs.Prelude.{chars}
use Rattle.std.proofs.lemmas.List.{drop_more, drop_all, get_or-map, length-map}
use Rattle.rx_model.specs.Expression.{Expression}
use Rattle.rx_reader.specs.Grammar.{read}
use Rattle.rx_reader.specs.Syntax.{Syntax}
use Rattle.rx_reader.specs.declared.config.Config.{Config}
use Rattle.rx_syntax.specs.Pattern.{reads}
use Rattle.rx_syntax.specs.Translation.{translated}
use Rattle.rx_reader.specs.Refusal.{Refuses}
use Rattle.rx_reader.specs.declared.error.SyntaxError.{SyntaxError}
use Rattle.rx_reader.specs.declared.error.ParseError.{ParseError}
use Rattle.rx_reader.specs.declared.error.ParseError.TheVariants.{Syntax as OneRefused, Memory as OneMemory}
use Rattle.rx_syntax.specs.Patterns.{Refusal, before, all_of, RefusesAll, IsWithin, error_at}

module _ {A : Type 0} where
  -- values before those of the others
  abbrev pub after : List A → Result (List A) Refusal → Result (List A) Refusal
  after xs (Ok others) = Ok (xs ++ others)
  after xs (Err refusal) = Err refusal

  after-nil : (r : Result (List A) Refusal) → after [] r ≡ r
  after-nil (Ok others) = refl
  after-nil (Err refusal) = refl

  after-one : (xs : List A) (p : ℕ) (x : A) (r : Result (List A) Refusal) → after xs (before p (Ok x) r) ≡ after (xs ++ x ∷ []) r
  after-one xs p x (Ok others) = ap Ok (sym (append_assoc xs (x ∷ []) others))
  after-one xs p x (Err refusal) = refl

  all_of-more : (rs : List (Result A SyntaxError)) (k : ℕ) (r : Result A SyntaxError) → k < length rs → get_or rs k r ≡ r
      → all_of k (drop k rs) ≡ before k r (all_of (k + 1) (drop (k + 1) rs))
  unfolding all_of
  all_of-more rs k r lt here = ap (all_of k) (drop_more rs k r lt) ∙ ap (λ s. all_of k (s ∷ drop (k + 1) rs)) here

  all_of-over : (rs : List (Result A SyntaxError)) (k : ℕ) → length rs ≤ k → all_of k (drop k rs) ≡ Ok []
  unfolding all_of
  all_of-over rs k le = ap (all_of k) (drop_all k rs le)

  -- What the first k give, before what those that are left give, is what all give.
  pub record Gathers (rs : List (Result A SyntaxError)) (k : ℕ) (xs : List A) : Type 0 where
    pub count : length xs ≡ k
    pub whole : after xs (all_of k (drop k rs)) ≡ all_of 0 rs

  pub Gathers-begun : (rs : List (Result A SyntaxError)) (xs : List A) → xs ≡ [] → Gathers rs 0 xs
  Gathers-begun rs xs none =
      let P : List A → Type 0 = Gathers rs 0 in
      subst P (sym none) (record { count = refl; whole = after-nil _ })

  pub Gathers-more : (rs : List (Result A SyntaxError)) (k : ℕ) (xs xs' : List A) (r : Result A SyntaxError) (x : A) → Gathers rs k xs → k < length rs
      → get_or rs k r ≡ r → r ≡ Ok x → xs' ≡ xs ++ x ∷ [] → Gathers rs (k + 1) xs'
  Gathers-more rs k xs xs' r x g lt here is longer =
      let P : List A → Type 0 = Gathers rs (k + 1) in
      subst P (sym longer) (record {
        count = omega (arith, length-append xs (x ∷ []), g.count);
        whole =
            sym (after-one xs k x (all_of (k + 1) (drop (k + 1) rs))) ∙ ap (λ s. after xs (before k s (all_of (k + 1) (drop (k + 1) rs)))) (sym is)
            ∙ ap (after xs) (sym (all_of-more rs k r lt here)) ∙ g.whole;
      })

  pub Gathers-over : (rs : List (Result A SyntaxError)) (k : ℕ) (xs : List A) → Gathers rs k xs → length rs ≤ k → all_of 0 rs ≡ Ok xs
  Gathers-over rs k xs g le = sym g.whole ∙ ap (after xs) (all_of-over rs k le) ∙ ap Ok (append-nil xs)

  pub Gathers-fails : (rs : List (Result A SyntaxError)) (k : ℕ) (xs : List A) (r : Result A SyntaxError) (e : ParseError) → Gathers rs k xs → k < length rs
      → get_or rs k r ≡ r → Refuses e r → RefusesAll (error_at k e) (all_of 0 rs)
  Gathers-fails rs k xs r (OneRefused error) g lt here is =
      sym g.whole ∙ ap (after xs) (all_of-more rs k r lt here) ∙ ap (λ s. after xs (before k s (all_of (k + 1) (drop (k + 1) rs)))) is
  Gathers-fails rs k xs r OneMemory g lt here is = tt

pub error_at-within : (k count : ℕ) (e : ParseError) → k < count → IsWithin (error_at k e) count
error_at-within k count (OneRefused error) lt = lt
error_at-within k count OneMemory lt = tt

-- what is answered of each pattern
module _ {A : Type 0} (answer : List ℕ → Result A SyntaxError) where
  abbrev pub each_answer : List (Bor (List ℕ)) → List (Result A SyntaxError)
  each_answer ps = map answer (map (λ (p : Bor (List ℕ)). p.now) ps)

  pub each_answer-at : (ps : List (Bor (List ℕ))) (k : ℕ) (d : Bor (List ℕ)) → k < length ps
      → get_or (each_answer ps) k (answer (get_or ps k d).now) ≡ answer (get_or ps k d).now
  each_answer-at ps k d lt =
      let texts = map (λ (p : Bor (List ℕ)). p.now) ps in
      let text = (get_or ps k d).now in
      let within : k < length texts = omega (arith, length-map ps (λ (p : Bor (List ℕ)). p.now)) in
      let here : get_or texts k text ≡ text = get_or-map (λ (p : Bor (List ℕ)). p.now) ps k d text lt in
      get_or-map answer texts k text (answer text) within ∙ ap answer here

  pub length-each_answer : (ps : List (Bor (List ℕ))) → length (each_answer ps) ≡ length ps
  length-each_answer ps = length-map (map (λ (p : Bor (List ℕ)). p.now) ps) answer ∙ length-map ps (λ (p : Bor (List ℕ)). p.now)

-- the syntax of a pattern of these bytes
abbrev pub syntax_of : Config → List ℕ → Result Syntax SyntaxError
syntax_of config text = read config (chars text)

-- its expression
abbrev pub expression_of : Config → List ℕ → Result Expression SyntaxError
expression_of config text = reads config (chars text)

-- what each syntax stands for
abbrev pub translate_each : Config → List Syntax → List (Result Expression SyntaxError)
translate_each config ss = map (translated config) ss

pub translate_each-at : (config : Config) (ss : List Syntax) (k : ℕ) (s : Syntax) → k < length ss → s ≡ get_or ss k s
    → get_or (translate_each config ss) k (translated config s) ≡ translated config s
translate_each-at config ss k s lt is = get_or-map (translated config) ss k s (translated config s) lt ∙ ap (translated config) (sym is)

pub length-translate_each : (config : Config) (ss : List Syntax) → length (translate_each config ss) ≡ length ss
length-translate_each config ss = length-map ss (translated config)
