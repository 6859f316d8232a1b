-- The properties of each pattern, and what is known of a strategy for the patterns.
use Rattle.std.proofs.Common.{◌≡◌, List, [], ◌∷◌, ◌++◌, refl, sym, ap, ◌∙◌}
use Rattle.std.specs.Prelude.{Bool, true, false, ◌||◌, option_map}
use Rattle.rx_model.specs.Expression.{Expression, alternation}
use Rattle.rx_model.specs.Search.{Patterns, told_of}
use Rattle.rx_hir.specs.Normal.{expressions}
use Rattle.rx_hir.specs.PropertiesViews.{AreOf, AreOfEach}
use Rattle.rx_hir.specs.declared.hir.properties.Properties.{Properties}
use Rattle.rx_nfa.specs.Nfa.{Nfa}
use Rattle.rx_nfa.specs.Compiled.{patterns_of, IsCompiled}
use Rattle.rx_strategy.specs.Config.{utf8_of, terminator_of, captures_of, compiler_of}
use Rattle.rx_strategy.specs.Core.{AreKnownOf}
use Rattle.rx_strategy.specs.declared.config.Config.{Config}
use Rattle.rx_strategy.proofs.AnswerLemmas.{agree}
use Rattle.rx_strategy.proofs.ImpossibleLemmas.{no-next}

-- the first of four tests that passes, or else the last
module _ (a b c d : Bool) where
  pub by-first : a ≡ true → true ≡ (a || b || c || d)
  by-first e = rw e refl

  pub by-second : a ≡ false → b ≡ true → true ≡ (a || b || c || d)
  by-second e f = rw (e, f) refl

  pub by-third : a ≡ false → b ≡ false → c ≡ true → true ≡ (a || b || c || d)
  by-third e f g = rw (e, f, g) refl

  pub by-last : a ≡ false → b ≡ false → c ≡ false → d ≡ (a || b || c || d)
  by-last e f g = rw (e, f, g) refl

pub AreOfEach-more : (hs : List Expression) (ps : List Properties) (h : Expression) (p : Properties) → AreOfEach hs ps → AreOf h p
    → AreOfEach (hs ++ h ∷ []) (ps ++ p ∷ [])
AreOfEach-more [] [] h p each is = (is, tt)
AreOfEach-more [] (q ∷ ps) h p each is = absurd each
AreOfEach-more (g ∷ hs) [] h p each is = absurd each
AreOfEach-more (g ∷ hs) (q ∷ ps) h p each is = (each.0, AreOfEach-more hs ps h p each.1 is)

-- what is known of the core that was made of these expressions
pub known-of : (c : Config) (hs : List Expression) (nfa : Nfa) (p : Properties) → IsCompiled (compiler_of c) hs nfa
    → AreOf (alternation (expressions hs)) p → AreKnownOf p nfa
known-of c hs nfa p compiled of =
    let r : Patterns = patterns_of hs (utf8_of c) (terminator_of c) (captures_of c) in
    record {
      patterns = hs;
      properties = of;
      none = λ v within e.
          agree nfa v within r (record { runs = compiled.runs refl (utf8_of c); utf8 = sym compiled.utf8 })
          ∙ ap (option_map (told_of r.which_captures)) (no-next r v compiled.ordered within e);
    }
