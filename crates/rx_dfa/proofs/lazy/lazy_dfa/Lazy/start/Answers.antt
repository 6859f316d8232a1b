use Rattle.std.proofs.Common.{◌≡◌, ◌<◌, List, [], length, refl, sym, ◌∙◌, ap, subst}
use Rattle.std.specs.Prelude.{All, None}
use Rattle.rx_nfa.specs.declared.state.State.{State}
use Rattle.rx_determinize.specs.Key.{Key, is_dead, start_key}
use Rattle.rx_dfa.specs.Clearing.{IsGrown}
use Rattle.rx_dfa.specs.Lazy.{IsLive, begun_key}
use Rattle.rx_dfa.specs.StateKey.{key_of}
use Rattle.rx_dfa.proofs.lemmas.ClearingLemmas.{grown-kept, grown-same}
use Rattle.rx_dfa.proofs.lemmas.LazyLemmas.{live-start}
use Rattle.rx_dfa.proofs.lazy.lazy_dfa.Lazy.start.Goals as goal

pub enter-requires-clause-live : goal.enter-requires-clause-live
enter-requires-clause-live c alive =
    let d = c.args.self.now.dfa in
    let start = c.args.start in
    let loops = c.args.loops in
    let before = c.args.before in
    let into = key_of c.start.new.into in
    let is : into ≡ start_key d.kind d.nfa.states start loops before =
    c.in_ok-start.ensures.key ∙ (λ j. start_key (c.source.ensures.kind j) (c.source.ensures.states j) start loops before) in
    let below : All (λ q. q < length d.nfa.states) into.threads =
    subst (λ (ss : List State). All (λ q. q < length ss) into.threads) c.source.ensures.states c.in_ok-start.ensures.below in
    subst (IsLive d) (sym is)
    (live-start d start loops before (ap is_dead (sym is) ∙ alive) (subst (λ (x : Key). All (λ q. q < length d.nfa.states) x.threads) is below)
    c.requires.byte c.requires.readable c.requires.reached)

pub returns-in-Some-clause-grown : goal.returns-in-Some-clause-grown
returns-in-Some-clause-grown c =
    let r = c.args.cache.now.rows in
    grown-kept c.args.self.now [] (begun_key c.args.self.now.dfa c.args.start c.args.loops c.args.before) r.since _ r r refl refl

pub returns-in_err-start-clause-grown : goal.returns-in_err-start-clause-grown
returns-in_err-start-clause-grown c =
    let r = c.args.cache.now.rows in
    grown-kept c.args.self.now [] (begun_key c.args.self.now.dfa c.args.start c.args.loops c.args.before) r.since _ r r refl refl

pub returns-in_err-state-clause-grown : goal.returns-in_err-state-clause-grown
returns-in_err-state-clause-grown c =
    let d = c.args.self.now.dfa in
    let is : key_of c.start.new.into ≡ start_key d.kind d.nfa.states c.args.start c.args.loops c.args.before =
    c.in_ok-start.ensures.key ∙ (λ j. start_key (c.source.ensures.kind j) (c.source.ensures.states j) c.args.start c.args.loops c.args.before) in
    let r = c.args.cache.now.rows in
    subst (λ (x : Key). IsGrown c.args.self.now [] x r.since None r c.enter.new.cache.rows) is c.enter.ensures.grown

pub returns-in_err-note_start-clause-grown : goal.returns-in_err-note_start-clause-grown
returns-in_err-note_start-clause-grown c =
    let d = c.args.self.now.dfa in
    let r = c.args.cache.now.rows in
    let is : key_of c.start.new.into ≡ start_key d.kind d.nfa.states c.args.start c.args.loops c.args.before =
    c.in_ok-start.ensures.key ∙ (λ j. start_key (c.source.ensures.kind j) (c.source.ensures.states j) c.args.start c.args.loops c.args.before) in
    grown-same c.args.self.now [] (begun_key d c.args.start c.args.loops c.args.before) r.since None r r c.enter.new.cache.rows c.note_start.new.self refl
    refl refl c.note_start.ensures.keys c.note_start.ensures.counts
    (subst (λ (x : Key). IsGrown c.args.self.now [] x r.since None r c.enter.new.cache.rows) is c.enter.ensures.grown)

pub returns-clause-grown : goal.returns-clause-grown
returns-clause-grown c =
    let d = c.args.self.now.dfa in
    let r = c.args.cache.now.rows in
    let is : key_of c.start.new.into ≡ start_key d.kind d.nfa.states c.args.start c.args.loops c.args.before =
    c.in_ok-start.ensures.key ∙ (λ j. start_key (c.source.ensures.kind j) (c.source.ensures.states j) c.args.start c.args.loops c.args.before) in
    grown-same c.args.self.now [] (begun_key d c.args.start c.args.loops c.args.before) r.since None r r c.enter.new.cache.rows c.note_start.new.self refl
    refl refl c.note_start.ensures.keys c.note_start.ensures.counts
    (subst (λ (x : Key). IsGrown c.args.self.now [] x r.since None r c.enter.new.cache.rows) is c.enter.ensures.grown)
