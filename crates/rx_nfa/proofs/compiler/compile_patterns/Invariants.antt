use Rattle.std.proofs.Common.{◌≡◌, ℕ, ◌<◌, ◌≤◌, ◌+◌, length, drop, vec_len}
use Rattle.std.specs.Prelude.{All, true, Some, slice_get}
use Rattle.rx_model.specs.Expression.{Expression}
use Rattle.rx_hir.specs.Sound.{IsSound}
use Rattle.rx_nfa.specs.Built.{HasParts}
use Rattle.rx_nfa.specs.Directed.{directed_part}
use Rattle.rx_nfa.specs.Compiled.{patterns_of, first_slot_of, nfa_states}
use Rattle.rx_nfa.specs.Config.{captures_kind}
use Rattle.rx_nfa.specs.Draft.{Continues}
use Rattle.rx_nfa.proofs.compiler.compile_patterns.Given as goal

abbrev pub invariant-loop-hir : goal.invariant-loop-hir
invariant-loop-hir l = record {
  extends : Continues l.initial.builder l.builder;
  accepted : l.builder.accepted ≡ l.hir-index;
  len : vec_len l.starts ≡ l.hir-index;
  count : length l.builder.states + nfa_states (drop l.hir-index l.exprs) ≤ length l.initial.builder.states + nfa_states l.exprs;
  items : length l.starts.items ≡ l.hir-index;
  first_slot : l.first_slot ≡ first_slot_of (captures_kind l.which) l.exprs l.hir-index;
  has : HasParts l.builder.states (directed_part l.reverse (patterns_of l.exprs true 0 (captures_kind l.which))) l.exprs l.hir-index l.starts.items;
  inside : All (λ q. q < length l.builder.states) l.starts.items;
  sound : (p : ℕ) (h : Expression) → p < l.hir-index → slice_get l.exprs p ≡ Some h → IsSound h;
}
