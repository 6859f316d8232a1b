use Rattle.std.proofs.Common.{◌≡◌, ◌<◌, ◌∙◌, sym, ap, subst, refl, arith, length}
use Rattle.std.proofs.lemmas.Result.{IfOk-from_err}
use Rattle.std.proofs.lemmas.List.{length-map}
use Rattle.std.specs.Prelude.{true, false, All, None as Absent}
use Rattle.std.proofs.lemmas.List.Elements.{All-weaker}
use Rattle.rx_nfa.specs.Automaton.{IsWithin, state_writes}
use Rattle.rx_nfa.specs.declared.state.State.{State}
use Rattle.rx_nfa.specs.Built.{StartsAll, HasParts}
use Rattle.rx_nfa.specs.Directed.{directed_part}
use Rattle.rx_nfa.specs.Compiled.{patterns_of, slots_of, slots_written, groups_of}
use Rattle.rx_nfa.specs.Config.{reverse_of, terminator_of, captures_of, captures_kind, written_in}
use Rattle.rx_nfa.specs.Draft.{Draft}
use Rattle.rx_nfa.specs.Nfa.{Nfa, HasRuns, HasReverseRuns}
use Rattle.rx_search.specs.GroupInfo.{slot_count}
use Rattle.rx_hir.specs.Names.{group_names}
use Rattle.rx_hir.proofs.SoundLemmas.{IsSound-ordered}
use Rattle.rx_nfa.proofs.lemmas.runs.GroupLemmas.{slots-counted}
use Rattle.rx_nfa.proofs.lemmas.runs.NextMatchLemmas.{written-none, writes-none}
use Rattle.rx_nfa.proofs.lemmas.runs.PatternLemmas.{HasRuns-from, HasPatterns-forwards, StartsAll-kept}
use Rattle.rx_nfa.proofs.lemmas.parts.BelowLemmas.{StartsAll-below}
use Rattle.rx_nfa.proofs.lemmas.parts.SlotLemmas.{written-within}
use Rattle.rx_nfa.proofs.lemmas.reverse.ReverseLemmas.{HasReverseRuns-from}
use Rattle.rx_nfa.specs.Prefixes.{HasSameRuns}
use Rattle.rx_nfa.proofs.lemmas.prefixes.SharedLemmas.{with_states, HasRuns-shared, HasReverseRuns-shared}
use Rattle.rx_nfa.proofs.compiler.build.Goals as goal

pub finish-requires-clause-slots : goal.finish-requires-clause-slots
finish-requires-clause-slots c =
    let exprs = c.args.exprs.now in
    let which = captures_kind c.written_in-which.result in
    let starts = c.in-Ok.starts.items in
    let old = c.compile_patterns.new.builder in
    let new = c.start_of_all.new.builder in
    let all : StartsAll old new starts c.in-Ok-start_of_all.start = subst (λ qs. StartsAll c.compile_patterns.new.builder c.start_of_all.new.builder qs
    c.in-Ok-start_of_all.start) c.deref.ensures.value c.in-Ok-start_of_all.ensures.starts in
    let kept = StartsAll-kept old new starts c.in-Ok-start_of_all.start all in
    let written : c.share_prefixes.new.builder.slots ≡ slots_written which exprs =
    c.in-Ok-share_prefixes.ensures.slots ∙ kept.1 ∙ c.in-Ok.ensures.extends.slots ∙ ap (λ (d : Draft). d.slots) c.new-builder.ensures
    ∙ c.slots_written.ensures in
    let groups : c.share_prefixes.new.builder.groups ≡ groups_of exprs =
    c.in-Ok-share_prefixes.ensures.groups ∙ kept.0 ∙ c.in-Ok.ensures.extends.groups ∙ ap (λ (d : Draft). d.groups) c.new-builder.ensures
    ∙ c.in_ok-group_info.ensures in
    let within = written-within which exprs in
    let counted = slots-counted exprs ∙ sym (ap slot_count groups) in
    omega arith

pub finish-requires-clause-patterns : goal.finish-requires-clause-patterns
finish-requires-clause-patterns c =
    let exprs = c.args.exprs.now in
    let starts = c.in-Ok.starts.items in
    let old = c.compile_patterns.new.builder in
    let new = c.start_of_all.new.builder in
    let all : StartsAll old new starts c.in-Ok-start_of_all.start = subst (λ qs. StartsAll c.compile_patterns.new.builder c.start_of_all.new.builder qs
    c.in-Ok-start_of_all.start) c.deref.ensures.value c.in-Ok-start_of_all.ensures.starts in
    let groups : c.share_prefixes.new.builder.groups ≡ groups_of exprs =
    c.in-Ok-share_prefixes.ensures.groups ∙ (StartsAll-kept old new starts c.in-Ok-start_of_all.start all).0 ∙ c.in-Ok.ensures.extends.groups
    ∙ ap (λ (d : Draft). d.groups) c.new-builder.ensures
    ∙ c.in_ok-group_info.ensures in
    c.in-Ok.ensures.len ∙ sym (ap length groups ∙ length-map exprs group_names)

pub finish-requires-clause-few : goal.finish-requires-clause-few
finish-requires-clause-few c =
    let exprs = c.args.exprs.now in
    let starts = c.in-Ok.starts.items in
    let old = c.compile_patterns.new.builder in
    let new = c.start_of_all.new.builder in
    let all : StartsAll old new starts c.in-Ok-start_of_all.start = subst (λ qs. StartsAll c.compile_patterns.new.builder c.start_of_all.new.builder qs
    c.in-Ok-start_of_all.start) c.deref.ensures.value c.in-Ok-start_of_all.ensures.starts in
    let groups : c.share_prefixes.new.builder.groups ≡ groups_of exprs =
    c.in-Ok-share_prefixes.ensures.groups ∙ (StartsAll-kept old new starts c.in-Ok-start_of_all.start all).0 ∙ c.in-Ok.ensures.extends.groups
    ∙ ap (λ (d : Draft). d.groups) c.new-builder.ensures
    ∙ c.in_ok-group_info.ensures in
    let long = ap length groups ∙ length-map exprs group_names in
    let few = c.requires.few.patterns in
    omega arith

pub returns : goal.returns
returns c =
    let exprs = c.args.exprs.now in
    let reverse = reverse_of c.args.config in
    let which = written_in (reverse_of c.args.config) (captures_of c.args.config) in
    let which_is : captures_kind c.written_in-which.result ≡ which =
    c.written_in-which.ensures ∙ (λ i. written_in (c.get_reverse-reverse.ensures i) (captures_kind (c.get_which_captures.ensures i))) in
    let starts = c.in-Ok.starts.items in
    let old = c.compile_patterns.new.builder in
    let new = c.start_of_all.new.builder in
    let shared = c.share_prefixes.new.builder in
    let sharing = c.in-Ok-share_prefixes.ensures in
    let nfa = c.in_ok-nfa.nfa in
    let is = c.in_ok-nfa.ensures.value in
    let long = c.in-Ok.ensures.len in
    let all : StartsAll old new starts c.in-Ok-start_of_all.start =
    subst (λ qs. StartsAll old new qs c.in-Ok-start_of_all.start) c.deref.ensures.value c.in-Ok-start_of_all.ensures.starts in
    let kept = StartsAll-kept old new starts c.in-Ok-start_of_all.start all in
    let before : new.slots ≡ slots_written which exprs =
    kept.1 ∙ c.in-Ok.ensures.extends.slots ∙ ap (λ (d : Draft). d.slots) c.new-builder.ensures ∙ c.slots_written.ensures
    ∙ ap (λ w. slots_written w c.args.exprs.now) which_is in
    let written : shared.slots ≡ slots_written which exprs = sharing.slots ∙ before in
    let groups : shared.groups ≡ groups_of exprs =
    sharing.groups ∙ kept.0 ∙ c.in-Ok.ensures.extends.groups ∙ ap (λ (d : Draft). d.groups) c.new-builder.ensures ∙ c.in_ok-group_info.ensures in
    let slots : nfa.slots ≡ slots_of exprs = ap (λ (n : Nfa). n.slots) is ∙ ap slot_count groups ∙ sym (slots-counted exprs) in
    let states : nfa.states ≡ shared.states = ap (λ (n : Nfa). n.states) is in
    let terminator : nfa.terminator ≡ terminator_of c.args.config = ap (λ (n : Nfa). n.terminator) is ∙ c.get_look_matcher.ensures in
    let has : HasParts old.states (directed_part reverse (patterns_of exprs true 0 which)) exprs (length exprs) starts =
    subst (λ b. HasParts c.compile_patterns.new.builder.states (directed_part b (patterns_of c.args.exprs.now true 0 which)) c.args.exprs.now
    (length c.args.exprs.now) c.in-Ok.starts.items) c.get_reverse-reverse.ensures
    (subst (λ w. HasParts c.compile_patterns.new.builder.states (directed_part c.get_reverse-reverse.result (patterns_of c.args.exprs.now true 0 w))
    c.args.exprs.now (length c.args.exprs.now) c.in-Ok.starts.items) which_is c.in-Ok.ensures.has) in
    let made : Nfa = record {
      states = shared.states;
      start_anchored = c.in-Ok-start_of_all.start;
      starts = starts;
      slots = slot_count shared.groups;
      groups = shared.groups;
      utf8 = c.get_utf8.result;
      reverse = c.get_reverse-reverse.result;
      terminator = c.get_look_matcher.result;
      looks = nfa.looks;
      classes = nfa.classes;
      always_start_anchored = c.all_start_anchored.result;
      has_empty = c.one_can_be_empty.result;
      accounted = c.args.states;
    } in
    let each : All (HasSameRuns new.states shared.states) starts =
    subst (All (HasSameRuns c.start_of_all.new.builder.states c.share_prefixes.new.builder.states)) c.deref-2.ensures.value sharing.starts in
    record {
      in_range = c.in_ok-nfa.ensures.in_range;
      few =
          (let grown = ap (λ (n : Nfa). length n.states) is in
          let none = ap (λ (d : Draft). length d.states) c.new-builder.ensures in
          let patterns = c.in-Ok.ensures.count in
          let last = c.in-Ok-start_of_all.ensures.count in
          let long' = sharing.long in
          omega arith);
      slots = slots;
      groups = ap (λ (n : Nfa). n.groups) is ∙ groups;
      utf8 = ap (λ (n : Nfa). n.utf8) is ∙ c.get_utf8.ensures;
      terminator = terminator;
      always_start_anchored = ap (λ (n : Nfa). n.always_start_anchored) is ∙ c.all_start_anchored.ensures;
      has_empty = ap (λ (n : Nfa). n.has_empty) is ∙ c.one_can_be_empty.ensures;
      accounted = ap (λ (n : Nfa). n.accounted) is ∙ c.requires.states;
      ordered = λ p h at. IsSound-ordered h (c.in-Ok.ensures.sound p h at);
      reverse = ap (λ (n : Nfa). n.reverse) is ∙ c.get_reverse-reverse.ensures;
      runs = λ ahead utf8_empty.
          (let same : which ≡ captures_of c.args.config = ap (λ b. written_in b (captures_of c.args.config)) ahead in
          subst (λ n. HasRuns n (patterns_of exprs utf8_empty (terminator_of c.args.config) (captures_of c.args.config))) (sym is)
          (HasRuns-shared (patterns_of exprs utf8_empty (terminator_of c.args.config) (captures_of c.args.config)) made new.states shared.states
          sharing.start each
          (HasRuns-from (patterns_of exprs utf8_empty (terminator_of c.args.config) (captures_of c.args.config)) (with_states made new.states) old new
          (HasPatterns-forwards (patterns_of exprs utf8_empty (terminator_of c.args.config) (captures_of c.args.config)) old.states (length exprs) starts
          (subst (λ w. HasParts old.states (directed_part false (patterns_of exprs true 0 w)) exprs (length exprs) starts) same
          (subst (λ b. HasParts old.states (directed_part b (patterns_of exprs true 0 which)) exprs (length exprs) starts) ahead has)))
          long c.get_look_matcher.ensures refl all
          (λ none text end x. written-none (length new.groups) new.slots new.states (before ∙ ap (λ w. slots_written w exprs) (same ∙ none))
          sharing.range.within (terminator_of c.args.config) text end x))));
      silent = λ behind.
          (let none : shared.slots ≡ 0 = written ∙ ap (λ b. slots_written (written_in b (captures_of c.args.config)) exprs) behind in
          subst (λ ss. All (λ (s : State). state_writes s ≡ Absent) ss) (sym states)
          (All-weaker (IsWithin (length shared.groups) shared.slots) (λ s. state_writes s ≡ Absent)
          (λ s w. writes-none (length shared.groups) shared.slots s none w)
          shared.states c.in_ok-nfa.ensures.within));
      reverse_runs = λ behind utf8_empty.
          (let runs = HasReverseRuns-shared (patterns_of exprs utf8_empty (terminator_of c.args.config) which) made new.states shared.states
          sharing.start each
          (HasReverseRuns-from (patterns_of exprs utf8_empty (terminator_of c.args.config) which) (with_states made new.states) old new
          (subst (λ b. HasParts old.states (directed_part b (patterns_of exprs true 0 which)) exprs (length exprs) starts) behind has) long
          c.get_look_matcher.ensures refl all
          (λ p h at. IsSound-ordered h (c.in-Ok.ensures.sound p h at))) in
          subst (λ n. HasReverseRuns n (patterns_of exprs utf8_empty (terminator_of c.args.config) (captures_of c.args.config))) (sym is)
          (record { patterns = runs.patterns; each = runs.each; all = runs.all }));
    }

pub returns-in_err-group_info : goal.returns-in_err-group_info
returns-in_err-group_info c = IfOk-from_err c.from_residual.result _ c.from_residual.ensures.0

pub returns-in_err-nfa : goal.returns-in_err-nfa
returns-in_err-nfa c = IfOk-from_err c.from_residual-in_err-nfa.result _ c.from_residual-in_err-nfa.ensures.0

pub compile_patterns-requires-clause-fits : goal.compile_patterns-requires-clause-fits
compile_patterns-requires-clause-fits c =
    let none = ap (λ (d : Draft). length d.states) c.new-builder.ensures in
    let states = c.requires.states in
    let few = c.requires.few_states in
    omega arith

pub start_of_all-requires-clause-inside : goal.start_of_all-requires-clause-inside
start_of_all-requires-clause-inside c =
    subst (All (λ q. q < length c.compile_patterns.new.builder.states)) (sym c.deref.ensures.value) c.in-Ok.ensures.inside

pub start_of_all-requires-clause-fits : goal.start_of_all-requires-clause-fits
start_of_all-requires-clause-fits c =
    let none = ap (λ (d : Draft). length d.states) c.new-builder.ensures in
    let count = c.in-Ok.ensures.count in
    let states = c.requires.states in
    let few = c.requires.few_states in
    omega arith

pub share_prefixes-requires-clause-start : goal.share_prefixes-requires-clause-start
share_prefixes-requires-clause-start c = c.in-Ok-start_of_all.ensures.inside

pub share_prefixes-requires-clause-starts : goal.share_prefixes-requires-clause-starts
share_prefixes-requires-clause-starts c =
    subst (All (λ q. q < length c.start_of_all.new.builder.states)) (sym c.deref-2.ensures.value)
    (StartsAll-below c.compile_patterns.new.builder c.start_of_all.new.builder c.deref.result.now c.in-Ok.starts.items c.in-Ok-start_of_all.start
    c.in-Ok-start_of_all.ensures.starts c.in-Ok.ensures.inside)

pub finish-requires-clause-start : goal.finish-requires-clause-start
finish-requires-clause-start c =
    let inside = c.in-Ok-start_of_all.ensures.inside in
    let long = c.in-Ok-share_prefixes.ensures.long in
    omega arith

pub finish-requires-clause-starts : goal.finish-requires-clause-starts
finish-requires-clause-starts c =
    subst (λ n. All (λ q. q < n) c.in-Ok.starts.items) (sym c.in-Ok-share_prefixes.ensures.long)
    (StartsAll-below c.compile_patterns.new.builder c.start_of_all.new.builder c.deref.result.now c.in-Ok.starts.items c.in-Ok-start_of_all.start
    c.in-Ok-start_of_all.ensures.starts c.in-Ok.ensures.inside)

pub finish-requires-clause-accounted : goal.finish-requires-clause-accounted
finish-requires-clause-accounted c = c.requires.few_states
