use Rattle.std.proofs.Common.{◌≡◌, ◌≤◌, ◌+◌, ◌∙◌, ap, subst, rules}
use Rattle.rx_search.specs.Input.{InputValue}
use Rattle.rx_search.specs.Matches.{MatchValue}
use Rattle.rx_limited.specs.Calls.{calls_forwards}
use Rattle.rx_limited.specs.Stopat.{stop_forwards}
use Rattle.rx_attempts.proofs.lemmas.StepLemmas.{end-most, end-few}
use Rattle.rx_attempts.proofs.parts.match_or_stop.Goals as goal

pub returns-in-Ok-Ok-clause-most : goal.returns-in-Ok-Ok-clause-most
returns-in-Ok-Ok-clause-most g c =
    let d = g.F.Automaton.dfa c.args.fwd.now in
    let v = c.args.input.now in
    let new = c.fwd_stopat.new.steps in
    let most = subst (λ (w : InputValue). new ≤ c.args.steps.now + calls_forwards d w) c.from_start-part.ensures c.fwd_stopat.ensures.most in
    end-most d v c.args.start c.requires.lies.0 c.requires.lies.1 c.args.steps.now new most

pub returns-in-Ok-Err-clause-most : goal.returns-in-Ok-Err-clause-most
returns-in-Ok-Err-clause-most g c =
    let d = g.F.Automaton.dfa c.args.fwd.now in
    let v = c.args.input.now in
    let new = c.fwd_stopat.new.steps in
    let most = subst (λ (w : InputValue). new ≤ c.args.steps.now + calls_forwards d w) c.from_start-part.ensures c.fwd_stopat.ensures.most in
    end-most d v c.args.start c.requires.lies.0 c.requires.lies.1 c.args.steps.now new most

pub returns-in-Ok-Err-clause-few : goal.returns-in-Ok-Err-clause-few
returns-in-Ok-Err-clause-few g c =
    let d = g.F.Automaton.dfa c.args.fwd.now in
    let v = c.args.input.now in
    let new = c.fwd_stopat.new.steps in
    let most = subst (λ (w : InputValue). new ≤ c.args.steps.now + calls_forwards d w) c.from_start-part.ensures c.fwd_stopat.ensures.most in
    let stop : c.in-Ok-Err.place ≡ stop_forwards d c.from_start-part.result = search rules in
    end-few d v c.args.start c.requires.lies.0 c.requires.lies.1 c.args.steps.now new most c.in-Ok-Err.place (stop ∙ ap (stop_forwards d) c.from_start-part.ensures)

pub returns-in-Err-clause-most : goal.returns-in-Err-clause-most
returns-in-Err-clause-most g c =
    let d = g.F.Automaton.dfa c.args.fwd.now in
    let v = c.args.input.now in
    let new = c.fwd_stopat.new.steps in
    let most = subst (λ (w : InputValue). new ≤ c.args.steps.now + calls_forwards d w) c.from_start-part.ensures c.fwd_stopat.ensures.most in
    end-most d v c.args.start c.requires.lies.0 c.requires.lies.1 c.args.steps.now new most

pub returns-in-Ok-Ok-clause-ticks : goal.returns-in-Ok-Ok-clause-ticks
returns-in-Ok-Ok-clause-ticks g c =
    let d = g.F.Automaton.dfa c.args.fwd.now in
    let part = c.from_start-part.ensures in
    λ every.
    let taken : c.fwd_stopat.new.steps ≡ c.args.steps.now + calls_forwards d c.from_start-part.result =
    c.in-Ok-Ok.ensures.ticks (ap (λ (w : InputValue). w.earliest) part ∙ every) in
    taken ∙ ap (λ (w : InputValue). c.args.steps.now + calls_forwards d w) part

pub returns-in-Ok-Err-clause-ticks : goal.returns-in-Ok-Err-clause-ticks
returns-in-Ok-Err-clause-ticks g c =
    let d = g.F.Automaton.dfa c.args.fwd.now in
    let part = c.from_start-part.ensures in
    λ every.
    let taken : c.fwd_stopat.new.steps ≡ c.args.steps.now + calls_forwards d c.from_start-part.result =
    c.in-Ok-Err.ensures.ticks (ap (λ (w : InputValue). w.earliest) part ∙ every) in
    taken ∙ ap (λ (w : InputValue). c.args.steps.now + calls_forwards d w) part

pub returns-in-Ok-Ok-clause-begins : goal.returns-in-Ok-Ok-clause-begins
returns-in-Ok-Ok-clause-begins g c =
    ap (λ (m : MatchValue). m.start) c.from_half.ensures
