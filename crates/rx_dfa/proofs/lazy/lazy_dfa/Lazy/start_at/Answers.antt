use Rattle.std.proofs.Common.{◌≡◌, ◌<◌, inl, [], refl, sym, ap, subst, rules}
use Rattle.std.specs.Prelude.{Some, None, IfSome, not}
use Rattle.rx_search.specs.Anchored.{anchor_of}
use Rattle.rx_nfa.specs.NextMatch.{start_of}
use Rattle.rx_determinize.specs.Key.{Key}
use Rattle.rx_dfa.specs.Automaton.{IsReadable, first_key}
use Rattle.rx_dfa.specs.Lazy.{StandsFor}
use Rattle.rx_dfa.proofs.lemmas.BegunLemmas.{first-begun, first-dead, fits-uncounted}
use Rattle.rx_dfa.proofs.lemmas.ClearingLemmas.{grown-kept, grown-first}
use Rattle.rx_dfa.proofs.lemmas.LazyLemmas.{beside-readable, begun-reached}
use Rattle.rx_dfa.proofs.lazy.lazy_dfa.Lazy.start_at.Goals as goal

pub start-requires-clause-readable : goal.start-requires-clause-readable
start-requires-clause-readable c =
    let d = c.args.self.now.dfa in
    let small : IfSome c.args.beside (λ b. b < 256) = search rules in
    subst (IsReadable d.nfa) (sym c.kept_beside-before.ensures)
    (beside-readable d c.refused.ensures.sound.dfa c.args.beside small c.in_default.ensures.none)

pub start-requires-clause-reached : goal.start-requires-clause-reached
start-requires-clause-reached c =
    let d = c.args.self.now.dfa in
    let small : IfSome c.args.beside (λ b. b < 256) = search rules in
    begun-reached d (anchor_of c.args.mode) c.args.beside c.in-Some-start_of.start (not c.is_anchored.result) c.kept_beside-before.result
    c.in-Some-start_of.ensures.value (ap not c.is_anchored.ensures) c.kept_beside-before.ensures small c.in_default.ensures.none

pub returns-in-Some-clause-grown : goal.returns-in-Some-clause-grown
returns-in-Some-clause-grown c =
    grown-kept c.args.self.now [] (first_key c.args.self.now.dfa (anchor_of c.args.mode) c.args.beside) None _ c.args.cache.now.rows _ refl refl

pub returns-in-Ok-clause-grown : goal.returns-in-Ok-clause-grown
returns-in-Ok-clause-grown c =
    let d = c.args.self.now.dfa in
    let begins : Some c.in-Some-start_of.start ≡ start_of d.nfa (anchor_of c.args.mode) = c.in-Some-start_of.ensures.value in
    grown-first c.args.self.now (anchor_of c.args.mode) c.args.beside c.in-Some-start_of.start (not c.is_anchored.result) c.kept_beside-before.result
    c.args.cache.now.rows (record c.args.cache.now.rows { since = None }) c.start.new.cache.rows begins (ap not c.is_anchored.ensures)
    c.kept_beside-before.ensures refl refl refl refl c.start.ensures.grown

pub returns-in-Err-clause-grown : goal.returns-in-Err-clause-grown
returns-in-Err-clause-grown c =
    let d = c.args.self.now.dfa in
    let begins : Some c.in-Some-start_of.start ≡ start_of d.nfa (anchor_of c.args.mode) = c.in-Some-start_of.ensures.value in
    grown-first c.args.self.now (anchor_of c.args.mode) c.args.beside c.in-Some-start_of.start (not c.is_anchored.result) c.kept_beside-before.result
    c.args.cache.now.rows (record c.args.cache.now.rows { since = None }) c.start.new.cache.rows begins (ap not c.is_anchored.ensures)
    c.kept_beside-before.ensures refl refl refl refl c.start.ensures.grown

pub returns-in-Some-clause-err : goal.returns-in-Some-clause-err
returns-in-Some-clause-err c = let quits = c.in-Some.ensures.some in (refl, quits.0, quits.1)

pub returns-in-Some-clause-fits : goal.returns-in-Some-clause-fits
returns-in-Some-clause-fits c = fits-uncounted c.args.self.now c.args.cache.now c.requires

pub returns-in_default-start_of-clause-fits : goal.returns-in_default-start_of-clause-fits
returns-in_default-start_of-clause-fits c = fits-uncounted c.args.self.now c.args.cache.now c.requires

pub start-requires-clause-fits : goal.start-requires-clause-fits
start-requires-clause-fits c = fits-uncounted c.args.self.now c.args.cache.now c.requires

pub returns-in_default-start_of-clause-start : goal.returns-in_default-start_of-clause-start
returns-in_default-start_of-clause-start c =
    inl (record {
      dead = first-dead c.args.self.now.dfa (anchor_of c.args.mode) c.args.beside c.in_default-start_of.ensures.value;
      is = c.dead.ensures;
    })

pub returns-in-Ok-clause-start : goal.returns-in-Ok-clause-start
returns-in-Ok-clause-start c =
    let l = c.args.self.now in
    subst (λ (k : Key). StandsFor l.stride c.start.new.cache.rows.keys c.in-Ok.state k)
    (first-begun l.dfa (anchor_of c.args.mode) c.args.beside c.in-Some-start_of.start (not c.is_anchored.result) c.kept_beside-before.result
    c.in-Some-start_of.ensures.value (ap not c.is_anchored.ensures) c.kept_beside-before.ensures)
    c.in-Ok.ensures.state

pub returns-in-Some-clause-sound : goal.returns-in-Some-clause-sound
returns-in-Some-clause-sound c = c.refused.ensures.sound.dfa

pub returns-in_default-start_of-clause-sound : goal.returns-in_default-start_of-clause-sound
returns-in_default-start_of-clause-sound c = c.refused.ensures.sound.dfa

pub returns-in-Ok-clause-sound : goal.returns-in-Ok-clause-sound
returns-in-Ok-clause-sound c = c.refused.ensures.sound.dfa

pub returns-in-Err-clause-sound : goal.returns-in-Err-clause-sound
returns-in-Err-clause-sound c = c.refused.ensures.sound.dfa

pub returns-in-Some-clause-start : goal.returns-in-Some-clause-start
returns-in-Some-clause-start c = tt

pub returns-in-Some-clause-readable : goal.returns-in-Some-clause-readable
returns-in-Some-clause-readable c = tt

pub returns-in-Err-clause-start : goal.returns-in-Err-clause-start
returns-in-Err-clause-start c = tt

pub returns-in-Err-clause-readable : goal.returns-in-Err-clause-readable
returns-in-Err-clause-readable c = tt

pub returns-in_default-start_of-clause-err : goal.returns-in_default-start_of-clause-err
returns-in_default-start_of-clause-err c = tt

pub returns-in_default-start_of-clause-readable : goal.returns-in_default-start_of-clause-readable
returns-in_default-start_of-clause-readable c = c.in_default.ensures.none

pub returns-in-Ok-clause-err : goal.returns-in-Ok-clause-err
returns-in-Ok-clause-err c = tt

pub returns-in-Ok-clause-readable : goal.returns-in-Ok-clause-readable
returns-in-Ok-clause-readable c = c.in_default.ensures.none

pub returns-in-Err-clause-err : goal.returns-in-Err-clause-err
returns-in-Err-clause-err c = tt

pub returns-in-Ok-clause-fits : goal.returns-in-Ok-clause-fits
returns-in-Ok-clause-fits c = c.start.ensures.fits

pub returns-in-Err-clause-fits : goal.returns-in-Err-clause-fits
returns-in-Err-clause-fits c = c.start.ensures.fits

pub returns-in_default-start_of-clause-grown : goal.returns-in_default-start_of-clause-grown
returns-in_default-start_of-clause-grown c =
    grown-kept c.args.self.now [] (first_key c.args.self.now.dfa (anchor_of c.args.mode) c.args.beside) None _ c.args.cache.now.rows _ refl refl

pub start-requires-clause-start : goal.start-requires-clause-start
start-requires-clause-start c = c.in-Some-start_of.ensures.within
