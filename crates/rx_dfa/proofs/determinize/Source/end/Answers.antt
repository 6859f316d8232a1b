use Rattle.std.proofs.Common.{◌≡◌, ℕ, [], sym, ◌∙◌, ap}
use Rattle.std.specs.Prelude.{Bool, false, Option, None}
use Rattle.rx_model.specs.Look as model
use Rattle.rx_nfa.specs.Ordered.{threads_from}
use Rattle.rx_determinize.specs.Key.{Key, matching, end_key}
use Rattle.rx_dfa.proofs.determinize.Source.end.Goals as goal

pub returns-clause-key : goal.returns-clause-key
unfolding end_key
returns-clause-key c sight holds =
    let s = c.args.self.now in
    let k = c.args.key.now in
    let threads : c.clear.new.key.threads.items ≡ [] = ap (λ (k : Key). k.threads) c.clear.ensures in
    let loops : c.clear.new.key.loops ≡ false = ap (λ (k : Key). k.loops) c.clear.ensures in
    let before : c.clear.new.key.before ≡ None = ap (λ (k : Key). k.before) c.clear.ensures in
    let matches : c.matching.new.into.items ≡ matching s.kind s.states.now (threads_from s.states.now (sight.holds k.before c.args.after) k.threads.items) =
    c.in_ok-matching.ensures
    ∙ ap (matching s.kind s.states.now)
    (c.as_slice.ensures.value ∙ c.in_ok-stay.ensures.threads
    ∙ ap (λ (h : Option ℕ → Option ℕ → model.Look → Bool). threads_from s.states.now (h k.before c.args.after) k.threads.items) (sym holds)) in
    λ j. record { threads = threads j; loops = loops j; matches = matches j; before = before j }
