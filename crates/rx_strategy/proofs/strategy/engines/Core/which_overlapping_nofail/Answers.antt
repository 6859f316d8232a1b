use Rattle.std.proofs.Common.{◌≡◌, ℕ, ◌≤◌, List, length, ap, sym, ◌∙◌, subst}
use Rattle.std.specs.Prelude.{Option}
use Rattle.rx_model.specs.Search.{Patterns}
use Rattle.rx_search.specs.declared.anchored.MatchKind.{MatchKind}
use Rattle.rx_nfa.specs.Nfa.{Nfa, IsNfaOf}
use Rattle.rx_engines.specs.Needles.{BeginsEachRun}
use Rattle.rx_search.specs.Sets.{GainsMatching, IsFilledFor}
use Rattle.rx_strategy.specs.Core.{CoreValue, pikevm_of}
use Rattle.rx_strategy.proofs.AnswerLemmas.{core-adds, core-fills}
use Rattle.rx_strategy.specs.Cache.{CacheValue}
use Rattle.rx_strategy.proofs.PartLemmas.{pikevm-is, own-pikevm, pikevm-again, pikevm-alike}
use Rattle.rx_strategy.proofs.strategy.engines.Core.which_overlapping_nofail.Goals as goal

pub which_overlapping_matches-requires-clause-room : goal.which_overlapping_matches-requires-clause-room
which_overlapping_matches-requires-clause-room c =
    subst (λ (core : CoreValue). length core.nfa.starts ≤ length c.args.set.now) (sym c.self.view_is) c.requires.room

pub returns-clause-matching : goal.returns-clause-matching
returns-clause-matching c =
    let core = c.args.self.now in
    let v = c.args.input.now in
    let called = c.which_overlapping_matches in
    let nfa : c.self.inside.pikevm.nfa ≡ core.nfa = ap (λ (k : CoreValue). k.nfa) c.self.view_is in
    let pre : c.self.inside.pikevm.pre ≡ core.pre = c.self.invariant.2 ∙ ap (λ (k : CoreValue). k.pre) c.self.view_is in
    core-adds core v c.args.set.now called.new.set c.requires.spanned.end
    (subst (λ (p : Option (List (List ℕ)) × Nfa). (r : Patterns) → IsNfaOf p.1 r → BeginsEachRun p.0 p.1 v
    → GainsMatching r v c.args.set.now called.new.set) (λ i. (pre i, nfa i)) called.ensures.matching)

pub returns-clause-filled : goal.returns-clause-filled
returns-clause-filled c =
    let core = c.args.self.now in
    let v = c.args.input.now in
    let called = c.which_overlapping_matches in
    let nfa : c.self.inside.pikevm.nfa ≡ core.nfa = ap (λ (k : CoreValue). k.nfa) c.self.view_is in
    let pre : c.self.inside.pikevm.pre ≡ core.pre = c.self.invariant.2 ∙ ap (λ (k : CoreValue). k.pre) c.self.view_is in
    let kind : c.self.inside.pikevm.kind ≡ core.kind = ap (λ (k : CoreValue). k.kind) c.self.view_is in
    core-fills core v c.args.set.now called.new.set c.requires.spanned.end core.kind
    (subst (λ (p : (Option (List (List ℕ)) × Nfa) × MatchKind). (r : Patterns) → IsNfaOf p.0.1 r → BeginsEachRun p.0.0 p.0.1 v
    → IsFilledFor r v c.args.set.now called.new.set p.1) (λ i. ((pre i, nfa i), kind i)) called.ensures.filled)

pub which_overlapping_matches-requires-clause-fits : goal.which_overlapping_matches-requires-clause-fits
which_overlapping_matches-requires-clause-fits c =
    let was = c.cache.inside in
    let held : CacheValue = record { pikevm = was.pikevm; onepass = was.onepass; backtrack = was.backtrack; lazies = was.lazies; memory = was.memory } in
    let view = c.self.view_is in
    let own : c.self.inside.pikevm ≡ pikevm_of c.args.self.now =
    pikevm-is c.args.self.now c.self.inside.pikevm (ap (λ (k : CoreValue). k.nfa) view) (ap (λ (k : CoreValue). k.kind) view)
    (c.self.invariant.2 ∙ ap (λ (k : CoreValue). k.pre) view) in
    own-pikevm c.args.self.now held c.args.cache.now c.cache.view_is c.self.inside.pikevm own c.requires.fits

pub returns-clause-cache : goal.returns-clause-cache
returns-clause-cache c =
    let was = c.cache.inside in
    let held : CacheValue = record { pikevm = was.pikevm; onepass = was.onepass; backtrack = was.backtrack; lazies = was.lazies; memory = was.memory } in
    let view = c.self.view_is in
    let own : c.self.inside.pikevm ≡ pikevm_of c.args.self.now =
    pikevm-is c.args.self.now c.self.inside.pikevm (ap (λ (k : CoreValue). k.nfa) view) (ap (λ (k : CoreValue). k.kind) view)
    (c.self.invariant.2 ∙ ap (λ (k : CoreValue). k.pre) view) in
    pikevm-again c.args.self.now held c.args.cache.now c.cache.view_is c.self.inside.pikevm own c.which_overlapping_matches.new.cache c.requires.fits
    c.which_overlapping_matches.ensures.cache

pub returns-clause-memory : goal.returns-clause-memory
returns-clause-memory c =
    let was = c.cache.inside in
    let held : CacheValue = record { pikevm = was.pikevm; onepass = was.onepass; backtrack = was.backtrack; lazies = was.lazies; memory = was.memory } in
    pikevm-alike c.args.self.now held c.args.cache.now c.cache.view_is c.which_overlapping_matches.new.cache
