use Rattle.std.proofs.Common.{◌≡◌, ◌<◌, length, refl, sym, ◌∙◌, ap, subst, arith}
use Rattle.std.proofs.lemmas.Bool.Decides.{nat_tests}
use Rattle.std.specs.Prelude.{true, nat_lt}
use Rattle.rx_model.proofs.lemmas.runs.RunLemmas.{by_test}
use Rattle.rx_search.specs.PatternSet.{has}
use Rattle.rx_engines.specs.Engine.{PikeVMValue}
use Rattle.rx_search.specs.Sets.{MatchesIn}
use Rattle.rx_engines.proofs.lemmas.answers.OverlapLemmas.{keeps-same, keeps-twice, gains-same, gains-twice, matches-there}
use Rattle.rx_engines.proofs.pikevm.vm.PikeVM.fill.Goals as goal

pub loop-k-init : goal.loop-k-init
loop-k-init c = record {
  kept = keeps-same c.args.set.now;
  matching = λ r is begins. gains-same r c.args.input.now c.args.set.now;
  each = λ r is begins p lt m. absurd (omega arith);
  fits = c.requires.fits;
  memory = refl;
}

-- the patterns are numbered by the loop

pub try_pattern-requires-clause-is_there : goal.try_pattern-requires-clause-is_there
try_pattern-requires-clause-is_there c =
    let is = (rw c.unwrap-pattern.ensures at c.new.ensures).0 in
    let count = c.pattern_len-count.ensures.value in
    let same = ap (λ (e : PikeVMValue). length e.nfa.starts) c.self.view_is in
    omega (arith, is, count, same)

pub try_pattern-requires-clause-room : goal.try_pattern-requires-clause-room
try_pattern-requires-clause-room c =
    let is = (rw c.unwrap-pattern.ensures at c.new.ensures).0 in
    let count = c.pattern_len-count.ensures.value in
    let same = ap (λ (e : PikeVMValue). length e.nfa.starts) c.self.view_is in
    let room = c.requires.room in
    let kept = c.loop-k.invariant.kept.room in
    omega (arith, is, count, same, room, kept)

pub loop-k-preserved : goal.loop-k-preserved
loop-k-preserved c =
    let v = c.args.input.now in
    let old = c.args.set.now in
    let set = c.loop-k.set in
    let new = c.try_pattern.new.set in
    let is : c.unwrap-pattern.result ≡ c.loop-k.k = (rw c.unwrap-pattern.ensures at c.new.ensures).0 in
    record {
      kept = keeps-twice old set new c.loop-k.invariant.kept c.try_pattern.ensures.kept;
      matching = λ r is begins. gains-twice r v old set new (c.loop-k.invariant.matching r is begins) (c.try_pattern.ensures.matching r is begins);
      each = λ r of begins p lt m. by_test (nat_lt p c.loop-k.k)
          (λ e. c.try_pattern.ensures.kept.kept p (c.loop-k.invariant.each r of begins p (grind (arith, nat_tests)) m))
          (λ e.
          let last : p ≡ c.loop-k.k = grind (arith, nat_tests) in
          let same : p ≡ c.unwrap-pattern.result = last ∙ sym is in
          subst (λ q. has new q ≡ true) (sym same) (c.try_pattern.ensures.tried r of begins (subst (MatchesIn r v) same m)));
      fits = c.try_pattern.ensures.cache;
      memory = c.try_pattern.ensures.memory ∙ c.loop-k.invariant.memory;
    }

pub returns-clause-each : goal.returns-clause-each
returns-clause-each c r is begins p m =
    let lt = matches-there r c.args.input.now p m in
    let patterns = is.runs.patterns in
    let count = c.pattern_len-count.ensures.value in
    let same = ap (λ (e : PikeVMValue). length e.nfa.starts) c.self.view_is in
    c.loop-k.invariant.each r is begins p (omega (arith, lt, patterns, count, same)) m
