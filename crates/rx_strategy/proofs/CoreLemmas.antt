-- The engines of a core, and its DFAs.
use Rattle.std.proofs.Common.{◌≡◌, ℕ, true, false, List, length, Option, Some, None, refl, sym, ap, ◌∙◌, subst, true≢false}
use Rattle.std.proofs.lemmas.Bool.{and_parts}
use Rattle.std.specs.Prelude.{MatchOption, IfSome, is_some}
use Rattle.rx_model.specs.Expression.{Expression, alternation}
use Rattle.rx_search.specs.declared.anchored.MatchKind.{MatchKind}
use Rattle.rx_search.specs.declared.anchored.MatchKind.TheVariants.{All, LeftmostFirst}
use Rattle.rx_hir.specs.Normal.{expressions}
use Rattle.rx_hir.specs.PropertiesViews.{AreOf}
use Rattle.rx_nfa.specs.Compiled.{IsCompiled, IsRefusal}
use Rattle.rx_nfa.specs.Nfa.{Nfa}
use Rattle.rx_nfa.specs.declared.error.BuildError.{BuildError}
use Rattle.rx_nfa.specs.declared.error.BuildError.TheVariants.{TooManyPatterns, TooManyGroups, TooManyStates, ExceededSizeLimit, Memory}
use Rattle.rx_dfa.specs.Automaton.{Dfa}
use Rattle.rx_engines.specs.Bounded.{BacktrackerValue}
use Rattle.rx_engines.specs.Engine.{PikeVMValue}
use Rattle.rx_strategy.specs.Availability.{AreDfasBeside}
use Rattle.rx_strategy.specs.Config.{kind_of, backtrack_of, is_leftmost, has_backtracker, asks_for_dfas, captures_of, compiler_of, reverse_compiler_of}
use Rattle.rx_strategy.specs.Core.{CoreValue, IsCoreOf}
use Rattle.rx_strategy.specs.Dfas.{ArePair, IsPairOf, ServeNfa}
use Rattle.rx_strategy.specs.OnePass.{IsOnePassBeside}
use Rattle.rx_strategy.specs.Prefilter.{prefilter_for}
use Rattle.rx_strategy.specs.declared.dfas.Dfas.{Dfas}
use Rattle.rx_strategy.specs.declared.dfas.Dfas.TheVariants.{Absent, Full, Lazy}
use Rattle.rx_strategy.specs.declared.config.Config.{Config}

leftmost-kind : (kind : MatchKind) → is_leftmost kind ≡ true → kind ≡ LeftmostFirst
leftmost-kind All e = absurd (true≢false (sym e))
leftmost-kind LeftmostFirst e = refl

-- a backtracker that the configuration has stands beside a leftmost-first PikeVM over the same NFA
pub engines-agree : (config : Config) (o : Option BacktrackerValue) (vm : PikeVMValue) (nfa : Nfa) (pre : Option (List (List ℕ))) → vm.nfa ≡ nfa
    → vm.kind ≡ kind_of config
    → MatchOption o (has_backtracker config ≡ false) (λ b. (has_backtracker config ≡ true) × (b.nfa ≡ nfa) × (b.pre ≡ pre))
    → IfSome o (λ b. (b.nfa ≡ vm.nfa) × (b.pre ≡ pre) × (vm.kind ≡ LeftmostFirst))
engines-agree config None vm nfa pre same kind made = tt
engines-agree config (Some b) vm nfa pre same kind made =
    (made.1 ∙ sym same, made.2, kind ∙ leftmost-kind (kind_of config) (and_parts (backtrack_of config) (is_leftmost (kind_of config)) made.0).1)

-- what is asked of the NFA that reads backwards beside the other one
abbrev pub ReadsBack : Nfa → Nfa → Type 0
ReadsBack nfa back = (back.reverse ≡ true) × (back.utf8 ≡ nfa.utf8) × (back.accounted ≡ nfa.accounted) × (length back.starts ≡ length nfa.starts)

-- two DFAs of the NFAs serve
module _ (nfa reverse : Nfa) (kind : MatchKind) (on : nfa.reverse ≡ false) (back : ReadsBack nfa reverse) (both : Dfa × Dfa)
    (first : both.0.nfa ≡ nfa) (first_kind : both.0.kind ≡ kind) (second : both.1.nfa ≡ reverse) (second_kind : both.1.kind ≡ All) where
  pair : ArePair both
  pair = record {
    reads_on = ap (λ (n : Nfa). n.reverse) first ∙ on;
    reads_back = ap (λ (n : Nfa). n.reverse) second ∙ back.0;
    backward_kind = second_kind;
    utf8 = ap (λ (n : Nfa). n.utf8) first ∙ sym back.1 ∙ sym (ap (λ (n : Nfa). n.utf8) second);
    patterns = ap (λ (n : Nfa). length n.starts) second ∙ back.3 ∙ sym (ap (λ (n : Nfa). length n.starts) first);
  }

  pair-of : IsPairOf nfa kind (Some reverse) both
  pair-of = record { forward_nfa = first; forward_kind = first_kind; backward_nfa = ap Some (sym second) }

-- the DFAs that a core is made with serve its NFA
pub dfas-serve : (config : Config) (nfa : Nfa) (reverse : Option Nfa) (dfas : Dfas) → AreDfasBeside config nfa reverse dfas → nfa.reverse ≡ false
    → IfSome reverse (ReadsBack nfa) → ServeNfa nfa (kind_of config) reverse dfas
dfas-serve config nfa None dfas are on back = subst (ServeNfa nfa (kind_of config) None) (sym are) (record { paired = tt; are = tt })
dfas-serve config nfa (Some reverse) Absent are on back = record { paired = tt; are = tt }
dfas-serve config nfa (Some reverse) (Full f b) are on back =
    let both : Dfa × Dfa = (f.dfa, b.dfa) in
    let first = are.1.0.dfa in
    let second = are.1.1.dfa in
    record {
      paired = pair nfa reverse (kind_of config) on back both first.nfa first.kind second.nfa second.kind;
      are = pair-of nfa reverse (kind_of config) on back both first.nfa first.kind second.nfa second.kind;
    }
dfas-serve config nfa (Some reverse) (Lazy f b) are on back =
    let both : Dfa × Dfa = (f.dfa, b.dfa) in
    let first = are.1.1.0 in
    let second = are.1.1.1 in
    record {
      paired = pair nfa reverse (kind_of config) on back both first.nfa_is first.kind_is second.nfa_is second.kind_is;
      are = pair-of nfa reverse (kind_of config) on back both first.nfa_is first.kind_is second.nfa_is second.kind_is;
    }

-- of the expressions both NFAs are compiled, and the second one where DFAs are asked for
abbrev pub IsCompiledBack : Config → List Expression → Option Nfa → Type 0
IsCompiledBack c hs o =
    MatchOption o (asks_for_dfas c ≡ false) (λ nfa. (asks_for_dfas c ≡ true) × IsCompiled (reverse_compiler_of c) hs nfa)

pub reads-back : (c : Config) (hs : List Expression) (nfa : Nfa) (o : Option Nfa) → IsCompiled (compiler_of c) hs nfa → IsCompiledBack c hs o
    → (nfa.reverse ≡ false) × IfSome o (ReadsBack nfa)
reads-back c hs nfa None compiled back = (compiled.reverse, tt)
reads-back c hs nfa (Some reverse) compiled back =
    let patterns = (back.1.reverse_runs refl true).patterns ∙ sym (compiled.runs refl true).patterns in
    (compiled.reverse, (back.1.reverse, back.1.utf8 ∙ sym compiled.utf8, back.1.accounted ∙ sym compiled.accounted, patterns))

asked : (c : Config) (hs : List Expression) (o : Option Nfa) → IsCompiledBack c hs o → is_some o ≡ asks_for_dfas c
asked c hs None back = sym back
asked c hs (Some reverse) back = sym back.0

compiled-back : (c : Config) (hs : List Expression) (o : Option Nfa) → IsCompiledBack c hs o → IfSome o (IsCompiled (reverse_compiler_of c) hs)
compiled-back c hs None back = tt
compiled-back c hs (Some reverse) back = back.1

-- the core that is made of these is that of the expressions
pub core-made : (config : Config) (hs : List Expression) (core made : CoreValue) → core ≡ made → made.kind ≡ kind_of config
    → made.which_captures ≡ captures_of config → IsOnePassBeside config made.nfa (alternation (expressions hs)) made.onepass → made.backtracks ≡ has_backtracker config → made.pre ≡ prefilter_for config hs
    → IsCompiled (compiler_of config) hs made.nfa → IsCompiledBack config hs made.reverse → AreOf (alternation (expressions hs)) made.properties
    → AreDfasBeside config made.nfa made.reverse made.dfas → IsCoreOf config hs core
core-made config hs core made is kind which onepass backtracks pre compiled back properties dfas =
    subst (IsCoreOf config hs) (sym is) (record {
      compiled = compiled;
      kind = kind;
      which_captures = which;
      onepass = onepass;
      backtracks = backtracks;
      pre = pre;
      properties = properties;
      asked = asked config hs made.reverse back;
      reverse = compiled-back config hs made.reverse back;
      dfas = dfas;
    })

-- what is refused of the one NFA is refused of the other
pub refusal-alike : (c : Config) (hs : List Expression) (e : BuildError) → IsRefusal (reverse_compiler_of c) hs e → IsRefusal (compiler_of c) hs e
refusal-alike c hs (TooManyPatterns given limit) r = r
refusal-alike c hs (TooManyGroups given limit) r = r
refusal-alike c hs (TooManyStates given limit) r = r
refusal-alike c hs (ExceededSizeLimit limit size) r = r
refusal-alike c hs Memory r = record { few = r.few; states = r.states; size = r.size }
