use Rattle.std.proofs.Common.{◌≡◌, ◌∙◌, [], subst}
use Rattle.std.specs.Prelude.{OnOk, None}
use Rattle.rx_model.specs.Look.{byte_after}
use Rattle.rx_search.specs.Anchored.{anchor_of}
use Rattle.rx_dfa.specs.Automaton.{IsReadable, first_key}
use Rattle.rx_dfa.specs.Clearing.{IsGrown}
use Rattle.rx_dfa.specs.LazyCache.{GaveUpOn}
use Rattle.rx_dfa.proofs.lemmas.BegunLemmas.{begun-state, begun-error}
use Rattle.rx_dfa.proofs.lazy.automaton.LazyAutomaton.start_reverse.Goals as goal

pub returns-clause-readable : goal.returns-clause-readable
returns-clause-readable c =
    let v = c.args.input.now in
    let is : c.byte_after-after.result ≡ byte_after v.haystack v.end =
    c.byte_after-after.ensures ∙ (λ j. byte_after (c.haystack-haystack.ensures.value j) (c.end-end.ensures.value j)) in
    subst (λ o. OnOk c.start_at.result (IsReadable c.args.self.now.dfa.nfa o)) is c.start_at.ensures.readable

pub returns-clause-grown : goal.returns-clause-grown
returns-clause-grown c =
    let l = c.args.self.now in
    let v = c.args.input.now in
    let is : c.byte_after-after.result ≡ byte_after v.haystack v.end =
    c.byte_after-after.ensures ∙ (λ j. byte_after (c.haystack-haystack.ensures.value j) (c.end-end.ensures.value j)) in
    subst (λ k. IsGrown l [] k None None c.args.cache.now.rows c.start_at.new.cache.rows) (λ j. first_key l.dfa (c.get_anchored.ensures j) (is j))
    c.start_at.ensures.grown

pub start_at-requires : goal.start_at-requires
start_at-requires c = c.requires

pub returns-clause-sound : goal.returns-clause-sound
returns-clause-sound c = c.start_at.ensures.sound

pub returns-clause-start : goal.returns-clause-start
returns-clause-start c =
    let v = c.args.input.now in
    let is : c.byte_after-after.result ≡ byte_after v.haystack v.end =
    c.byte_after-after.ensures ∙ (λ j. byte_after (c.haystack-haystack.ensures.value j) (c.end-end.ensures.value j)) in
    begun-state c.args.self.now c.start_at.result c.start_at.new.cache.rows.keys (anchor_of c.get_anchored.result) v.anchor c.byte_after-after.result
    (byte_after v.haystack v.end) c.get_anchored.ensures is c.start_at.ensures.start

pub returns-clause-err : goal.returns-clause-err
returns-clause-err c =
    let l = c.args.self.now in
    let v = c.args.input.now in
    let is : c.byte_after-after.result ≡ byte_after v.haystack v.end =
    c.byte_after-after.ensures ∙ (λ j. byte_after (c.haystack-haystack.ensures.value j) (c.end-end.ensures.value j)) in
    begun-error l.dfa.nfa c.start_at.result c.byte_after-after.result (byte_after v.haystack v.end) c.end-end.result v.end v.end
    (GaveUpOn l c.start_at.new.cache.rows) is c.end-end.ensures.value c.start_at.ensures.err

pub returns-clause-goes_on : goal.returns-clause-goes_on
returns-clause-goes_on c =
    let v = c.args.input.now in
    let is : c.byte_after-after.result ≡ byte_after v.haystack v.end =
    c.byte_after-after.ensures ∙ (λ j. byte_after (c.haystack-haystack.ensures.value j) (c.end-end.ensures.value j)) in
    begun-error c.args.self.now.dfa.nfa c.start_at.result c.byte_after-after.result (byte_after v.haystack v.end) c.end-end.result v.end v.end ⊥ is
    c.end-end.ensures.value c.start_at.ensures.err

pub returns-clause-fits : goal.returns-clause-fits
returns-clause-fits c = c.start_at.ensures.fits
