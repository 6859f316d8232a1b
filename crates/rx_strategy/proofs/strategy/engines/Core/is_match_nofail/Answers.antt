use Rattle.std.proofs.Common.{◌≡◌, ℕ, List, Option, sym, ap, ◌∙◌, subst}
use Rattle.std.specs.Prelude.{is_some}
use Rattle.rx_nfa.specs.Nfa.{Nfa, IsNfaOf}
use Rattle.rx_nfa.specs.NextMatch.{next_match_in}
use Rattle.rx_engines.specs.Needles.{BeginsEachRun}
use Rattle.rx_strategy.specs.Core.{CoreValue, pikevm_of}
use Rattle.rx_strategy.proofs.AnswerLemmas.{core-whether}
use Rattle.rx_strategy.proofs.OnePassLemmas.{begun-next, one-over}
use Rattle.rx_strategy.specs.Cache.{CacheValue}
use Rattle.rx_strategy.proofs.PartLemmas.{fit-before, onepass-fit, onepass-alike, one-serves, one-again, pikevm-is, own-pikevm, pikevm-again, pikevm-alike}
use Rattle.rx_strategy.proofs.strategy.engines.Core.is_match_nofail.Goals as goal

pub meets_in_one_pass-requires-clause-each : goal.meets_in_one_pass-requires-clause-each
meets_in_one_pass-requires-clause-each c = (one-over c.args.self.now c.in-Some.engine.now c.in-Some.ensures.serves.1 c.in-Some.ensures.once).each

pub returns-in-Some-clause-value : goal.returns-in-Some-clause-value
returns-in-Some-clause-value c r p =
    let core = c.args.self.now in
    let d = c.in-Some.engine.now in
    let over = one-over core d c.in-Some.ensures.serves.1 c.in-Some.ensures.once in
    let own : IsNfaOf d.nfa r = subst (λ (n : Nfa). IsNfaOf n r) (sym over.nfa_is) p.is_for.nfa in
    c.meets_in_one_pass.ensures.value r own
    ∙ ap is_some (begun-next core c.args.input.now c.in-Some.ensures.serves.0 c.in-Some.ensures.once r p.is_for)

pub returns-in-None-clause-value : goal.returns-in-None-clause-value
returns-in-None-clause-value c =
    let core = c.args.self.now in
    let v = c.args.input.now in
    let nfa : c.self.inside.pikevm.nfa ≡ core.nfa = ap (λ (k : CoreValue). k.nfa) c.self.view_is in
    let pre : c.self.inside.pikevm.pre ≡ core.pre = c.self.invariant.2 ∙ ap (λ (k : CoreValue). k.pre) c.self.view_is in
    core-whether core v c.is_match.result
    (subst (λ (p : Option (List (List ℕ)) × Nfa). BeginsEachRun p.0 p.1 v → c.is_match.result ≡ is_some (next_match_in p.1 v)) (λ i. (pre i, nfa i))
    c.is_match.ensures.value)
    c.requires.spanned.end

pub meets_in_one_pass-requires-clause-fits : goal.meets_in_one_pass-requires-clause-fits
meets_in_one_pass-requires-clause-fits c =
    let was = c.cache.inside in
    let held : CacheValue = record { pikevm = was.pikevm; onepass = was.onepass; backtrack = was.backtrack; lazies = was.lazies; memory = was.memory } in
    one-serves c.args.self.now.onepass c.in-Some.engine.now held.onepass c.in-Some.ensures.serves.1
    (fit-before c.args.self.now held c.args.cache.now c.cache.view_is c.requires.fits).onepass

pub returns-in-Some-clause-cache : goal.returns-in-Some-clause-cache
returns-in-Some-clause-cache c =
    let was = c.cache.inside in
    let held : CacheValue = record { pikevm = was.pikevm; onepass = was.onepass; backtrack = was.backtrack; lazies = was.lazies; memory = was.memory } in
    onepass-fit c.args.self.now held c.args.cache.now c.cache.view_is c.meets_in_one_pass.new.cache c.requires.fits
    (one-again c.args.self.now.onepass c.in-Some.engine.now c.meets_in_one_pass.new.cache c.in-Some.ensures.serves.1 c.meets_in_one_pass.ensures.cache)

pub returns-in-Some-clause-memory : goal.returns-in-Some-clause-memory
returns-in-Some-clause-memory c =
    let was = c.cache.inside in
    let held : CacheValue = record { pikevm = was.pikevm; onepass = was.onepass; backtrack = was.backtrack; lazies = was.lazies; memory = was.memory } in
    onepass-alike c.args.self.now held c.args.cache.now c.cache.view_is c.meets_in_one_pass.new.cache

pub is_match-requires : goal.is_match-requires
is_match-requires c =
    let was = c.cache.inside in
    let held : CacheValue = record { pikevm = was.pikevm; onepass = was.onepass; backtrack = was.backtrack; lazies = was.lazies; memory = was.memory } in
    let view = c.self.view_is in
    let own : c.self.inside.pikevm ≡ pikevm_of c.args.self.now =
    pikevm-is c.args.self.now c.self.inside.pikevm (ap (λ (k : CoreValue). k.nfa) view) (ap (λ (k : CoreValue). k.kind) view)
    (c.self.invariant.2 ∙ ap (λ (k : CoreValue). k.pre) view) in
    own-pikevm c.args.self.now held c.args.cache.now c.cache.view_is c.self.inside.pikevm own c.requires.fits

pub returns-in-None-clause-cache : goal.returns-in-None-clause-cache
returns-in-None-clause-cache c =
    let was = c.cache.inside in
    let held : CacheValue = record { pikevm = was.pikevm; onepass = was.onepass; backtrack = was.backtrack; lazies = was.lazies; memory = was.memory } in
    let view = c.self.view_is in
    let own : c.self.inside.pikevm ≡ pikevm_of c.args.self.now =
    pikevm-is c.args.self.now c.self.inside.pikevm (ap (λ (k : CoreValue). k.nfa) view) (ap (λ (k : CoreValue). k.kind) view)
    (c.self.invariant.2 ∙ ap (λ (k : CoreValue). k.pre) view) in
    pikevm-again c.args.self.now held c.args.cache.now c.cache.view_is c.self.inside.pikevm own c.is_match.new.cache c.requires.fits
    c.is_match.ensures.cache

pub returns-in-None-clause-memory : goal.returns-in-None-clause-memory
returns-in-None-clause-memory c =
    let was = c.cache.inside in
    let held : CacheValue = record { pikevm = was.pikevm; onepass = was.onepass; backtrack = was.backtrack; lazies = was.lazies; memory = was.memory } in
    pikevm-alike c.args.self.now held c.args.cache.now c.cache.view_is c.is_match.new.cache
