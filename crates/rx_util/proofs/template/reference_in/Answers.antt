use Rattle.std.proofs.Common.{refl, ◌≡◌, ◌<◌, ◌≤◌, ◌+◌, ◌-◌, ℕ, List, Bor, IfSome, length, slice_index, subst}
use Rattle.std.specs.List.{position}
use Rattle.std.specs.Option.{option_map}
use Rattle.rx_util.proofs.TemplateLemmas.{end-braced}
use Rattle.rx_util.specs.Template.{Reference, braced, is_closing_brace}
use Rattle.rx_util.proofs.template.reference_in.Goals as goal

pub returns-then-begins_with-clause-value : goal.returns-then-begins_with-clause-value
returns-then-begins_with-clause-value c =
    rw (← c.if-begins_with.ensures.value) (subst (λ (inside : List ℕ). option_map {T = Bor (List ℕ) × ℕ} {U = Reference} (λ found.
    (found.0.now, found.1)) c.in_braces.result ≡ braced inside (position is_closing_brace inside)) c.past.ensures c.in_braces.ensures.value)

pub returns-then-begins_with-clause-end : goal.returns-then-begins_with-clause-end
returns-then-begins_with-clause-end c = end-braced c.args.after.now c.in_braces.result (c.if-begins_with.ensures.some refl)
    (subst (λ (inside : List ℕ). IfSome c.in_braces.result (λ (found : Bor (List ℕ) × ℕ). (1 < found.1) × (found.1 ≤ length inside + 1) ×
    (slice_index inside (found.1 - 2) ≡ 125))) c.past.ensures c.in_braces.ensures.end)

pub returns-clause-value : goal.returns-clause-value
returns-clause-value c = rw (← c.if-begins_with.ensures.value) c.without_braces.ensures.value
