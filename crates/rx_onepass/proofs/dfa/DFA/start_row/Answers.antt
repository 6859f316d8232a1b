use Rattle.std.proofs.Common.{◌≡◌, ◌+◌, refl, sym, subst, ap, ◌∙◌, true≢false}
use Rattle.std.specs.Prelude.{true, false, slice_get}
use Rattle.rx_search.specs.Anchored.{anchor_of}
use Rattle.rx_search.specs.declared.match_error.MatchError.TheVariants.{UnsupportedAnchored}
use Rattle.rx_onepass_build.specs.Config.{each_of}
use Rattle.rx_onepass.specs.Dfa.{Dfa}
use Rattle.rx_onepass.specs.Search.{IsStartRow, IsUnsupported}
use Rattle.rx_onepass.proofs.lemmas.StartLemmas.{start-anchored, start-free, start-each}
use Rattle.rx_onepass.proofs.dfa.DFA.start_row.Goals as goal

pub returns-else-not-get_starts_for_each_pattern-clause-found : goal.returns-else-not-get_starts_for_each_pattern-clause-found
returns-else-not-get_starts_for_each_pattern-clause-found c =
    let d = c.args.self.now in
    let each : each_of d.config ≡ true =
    sym (ap (λ (x : Dfa). each_of x.config) c.self.view_is) ∙ sym c.get_starts_for_each_pattern.ensures
    ∙ c.if-not-get_starts_for_each_pattern.false in
    subst (λ mode. IsStartRow d (anchor_of mode) c.start-in-Pattern.result) (sym c.in-Pattern.is)
    (start-each d c.start-in-Pattern.ensures.sound each c.in-Pattern.pattern c.start-in-Pattern.result
    (c.start-in-Pattern.ensures.value ∙ ap (λ n. slice_get d.starts (1 + n)) c.as_usize.ensures.value))

pub as_usize-requires : goal.as_usize-requires
as_usize-requires c = tt

pub get_starts_for_each_pattern-requires : goal.get_starts_for_each_pattern-requires
get_starts_for_each_pattern-requires c = tt

pub is_always_start_anchored-requires : goal.is_always_start_anchored-requires
is_always_start_anchored-requires c = tt

pub start-requires : goal.start-requires
start-requires c = tt

pub start-requires-in-No : goal.start-requires-in-No
start-requires-in-No c = tt

pub start-requires-in-Pattern : goal.start-requires-in-Pattern
start-requires-in-Pattern c = tt

pub returns-in-Yes-clause-err : goal.returns-in-Yes-clause-err
returns-in-Yes-clause-err c = tt

pub returns-else-not-get_starts_for_each_pattern-clause-err : goal.returns-else-not-get_starts_for_each_pattern-clause-err
returns-else-not-get_starts_for_each_pattern-clause-err c = tt

pub returns-else-not-is_always_start_anchored-clause-err : goal.returns-else-not-is_always_start_anchored-clause-err
returns-else-not-is_always_start_anchored-clause-err c = tt

pub returns-then-not-get_starts_for_each_pattern-clause-found : goal.returns-then-not-get_starts_for_each_pattern-clause-found
returns-then-not-get_starts_for_each_pattern-clause-found c = tt

pub returns-then-not-get_starts_for_each_pattern-clause-served : goal.returns-then-not-get_starts_for_each_pattern-clause-served
returns-then-not-get_starts_for_each_pattern-clause-served c = tt

pub returns-then-not-is_always_start_anchored-clause-found : goal.returns-then-not-is_always_start_anchored-clause-found
returns-then-not-is_always_start_anchored-clause-found c = tt

pub returns-then-not-is_always_start_anchored-clause-served : goal.returns-then-not-is_always_start_anchored-clause-served
returns-then-not-is_always_start_anchored-clause-served c = tt

pub returns-else-not-get_starts_for_each_pattern-clause-served : goal.returns-else-not-get_starts_for_each_pattern-clause-served
returns-else-not-get_starts_for_each_pattern-clause-served c asked =
    let each : each_of c.args.self.now.config ≡ true =
    sym (ap (λ (x : Dfa). each_of x.config) c.self.view_is) ∙ sym c.get_starts_for_each_pattern.ensures
    ∙ c.if-not-get_starts_for_each_pattern.false in
    absurd (true≢false (sym each ∙ subst (λ mode. IsUnsupported c.args.self.now (anchor_of mode)) c.in-Pattern.is asked))

pub returns-else-not-is_always_start_anchored-clause-served : goal.returns-else-not-is_always_start_anchored-clause-served
returns-else-not-is_always_start_anchored-clause-served c asked =
    let always : c.args.self.now.nfa.always_start_anchored ≡ true =
    sym (ap (λ (x : Dfa). x.nfa.always_start_anchored) c.self.view_is) ∙ sym c.is_always_start_anchored.ensures
    ∙ c.if-not-is_always_start_anchored.false in
    absurd (true≢false (sym always ∙ subst (λ mode. IsUnsupported c.args.self.now (anchor_of mode)) c.in-No.is asked))

pub returns-else-not-is_always_start_anchored-clause-found : goal.returns-else-not-is_always_start_anchored-clause-found
returns-else-not-is_always_start_anchored-clause-found c =
    subst (λ mode. IsStartRow c.args.self.now (anchor_of mode) c.start-in-No.result) (sym c.in-No.is)
    (start-free c.args.self.now c.start-in-No.ensures.sound c.start-in-No.result c.start-in-No.ensures.value)

pub returns-in-Yes-clause-found : goal.returns-in-Yes-clause-found
returns-in-Yes-clause-found c =
    subst (λ mode. IsStartRow c.args.self.now (anchor_of mode) c.start.result) (sym c.in-Yes.is)
    (start-anchored c.args.self.now c.start.ensures.sound c.start.result c.start.ensures.value)

pub returns-in-Yes-clause-served : goal.returns-in-Yes-clause-served
returns-in-Yes-clause-served c asked = subst (λ mode. IsUnsupported c.args.self.now (anchor_of mode)) c.in-Yes.is asked

pub returns-then-not-get_starts_for_each_pattern-clause-err : goal.returns-then-not-get_starts_for_each_pattern-clause-err
returns-then-not-get_starts_for_each_pattern-clause-err c =
    let each : each_of c.args.self.now.config ≡ false =
    sym (ap (λ (x : Dfa). each_of x.config) c.self.view_is) ∙ sym c.get_starts_for_each_pattern.ensures
    ∙ c.if-not-get_starts_for_each_pattern.true in (
      ap UnsupportedAnchored (sym c.in-Pattern.is),
      subst (λ mode. IsUnsupported c.args.self.now (anchor_of mode)) (sym c.in-Pattern.is) each,
    )

pub returns-then-not-is_always_start_anchored-clause-err : goal.returns-then-not-is_always_start_anchored-clause-err
returns-then-not-is_always_start_anchored-clause-err c =
    let always : c.args.self.now.nfa.always_start_anchored ≡ false =
    sym (ap (λ (x : Dfa). x.nfa.always_start_anchored) c.self.view_is) ∙ sym c.is_always_start_anchored.ensures
    ∙ c.if-not-is_always_start_anchored.true in
    (refl, subst (λ mode. IsUnsupported c.args.self.now (anchor_of mode)) (sym c.in-No.is) always)
