-- Which lines of a text are patterns.
use Rattle.std.proofs.Common.{◌≡◌, ℕ, ◌≢◌, List, [], ◌∷◌, ◌++◌, length, refl, sym, ap, subst, ◌∙◌, append_assoc, append-nil, arith}
use Rattle.std.specs.Prelude.{map}
use Rattle.std.specs.List.{All}
use Rattle.std.specs.Str.{IsUtf8}
use Rattle.std.proofs.lemmas.List.{map-append}
use Rattle.std.proofs.lemmas.List.Elements.{All-push}
use Rattle.rx_scan.specs.Input.{lines, patterns, haystacks}

-- a text more that is UTF-8
pub each-utf8 : {V : Type 0} (now : V → List ℕ) (vs vs' : List V) (v : V) (line : List ℕ) → vs' ≡ vs ++ v ∷ [] → now v ≡ line → IsUtf8 line
    → All (λ x. IsUtf8 (now x)) vs → All (λ x. IsUtf8 (now x)) vs'
each-utf8 now vs vs' v line more is utf8 each =
    subst (All (λ x. IsUtf8 (now x))) (sym more) (All-push (λ x. IsUtf8 (now x)) vs v each (subst IsUtf8 (sym is) utf8))

module _ {V : Type 0} (now : V → List ℕ) where
  -- the patterns that were cut off, and those that are left, are all of them
  pub record Cut (text : List ℕ) (vs : List V) (rest : List ℕ) : Type 0 where
    pub patterns : map now vs ++ patterns (lines rest) ≡ patterns (lines text)
    pub haystacks : haystacks (lines rest) ≡ haystacks (lines text)

  pub Cut-begun : (text : List ℕ) (vs : List V) → vs ≡ [] → Cut text vs text
  Cut-begun text vs none = record { patterns = ap (λ l. map now l ++ patterns (lines text)) none; haystacks = refl }

  -- a pattern's line
  pub Cut-more : (text rest others : List ℕ) (vs vs' : List V) (v : V) (line : List ℕ) → Cut text vs rest → lines rest ≡ line ∷ lines others
      → length line ≢ 0 → now v ≡ line → vs' ≡ vs ++ v ∷ [] → Cut text vs' others
  unfolding patterns haystacks
  Cut-more text rest others vs vs' v [] c cut some is more = absurd (some refl)
  Cut-more text rest others vs vs' v (b ∷ line) c cut some is more = record {
    patterns =
        ap (λ l. map now l ++ patterns (lines others)) more
        ∙ ap (λ l. l ++ patterns (lines others)) (map-append now vs (v ∷ []))
        ∙ append_assoc (map now vs) (now v ∷ []) (patterns (lines others))
        ∙ ap (λ x. map now vs ++ (x ∷ patterns (lines others))) is
        ∙ ap (λ ls. map now vs ++ patterns ls) (sym cut) ∙ c.patterns;
    haystacks = ap haystacks (sym cut) ∙ c.haystacks;
  }

  -- the empty line that ends the patterns
  pub Cut-ended : (text rest others : List ℕ) (vs : List V) (line : List ℕ) → Cut text vs rest → lines rest ≡ line ∷ lines others → length line ≡ 0
      → (map now vs ≡ patterns (lines text)) × (lines others ≡ haystacks (lines text))
  unfolding patterns haystacks
  Cut-ended text rest others vs [] c cut none = (
    sym (append-nil (map now vs)) ∙ ap (λ ls. map now vs ++ patterns ls) (sym cut) ∙ c.patterns,
    ap haystacks (sym cut) ∙ c.haystacks,
  )
  Cut-ended text rest others vs (b ∷ line) c cut none = absurd (omega arith)

  -- no line is left
  pub Cut-over : (text rest : List ℕ) (vs : List V) → Cut text vs rest → length rest ≡ 0
      → (map now vs ≡ patterns (lines text)) × (lines rest ≡ haystacks (lines text))
  unfolding lines patterns haystacks
  Cut-over text [] vs c none = (sym (append-nil (map now vs)) ∙ c.patterns, c.haystacks)
  Cut-over text (b ∷ rest) vs c none = absurd (omega arith)
