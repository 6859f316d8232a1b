use Rattle.std.proofs.lemmas.Result.{err_from_is_err_and}
use Rattle.std.proofs.Common.{length, sym, ◌∙◌, ap, subst, refl}
use Rattle.std.specs.Prelude.{slice_index}
use Rattle.rx_nfa.specs.Ordered.{AreBelow, targets}
use Rattle.rx_determinize.specs.Key.{counting, looping, matching}
use Rattle.rx_dfa.proofs.lemmas.KeyLemmas.{counting-below}
use Rattle.rx_dfa.proofs.lemmas.SpreadLemmas.{lists-same}
use Rattle.rx_dfa.specs.Job.{dfa_in}
use Rattle.rx_dfa.proofs.dense.spread.Spread.spread_out.Goals as goal

pub put_all-requires-clause-below : goal.put_all-requires-clause-below
put_all-requires-clause-below c =
    let d = dfa_in c.args.job.now in
    let n = length d.nfa.states in
    subst (AreBelow n) (sym (c.as_slice-3.ensures.value ∙ c.cut.ensures))
    (counting-below n d.kind d.nfa.states c.args.scratch.now.threads.items c.requires.below)

pub returns-clause-parts : goal.returns-clause-parts
returns-clause-parts c =
    let d = dfa_in c.args.job.now in
    let threads = c.args.scratch.now.threads.items in
    record {
      lists = lists-same c.put_all.new.lists
          (λ class. targets d.nfa.states (slice_index d.bytes class) c.as_slice-3.result.now)
          (λ class. targets d.nfa.states (slice_index d.bytes class) (counting d.kind d.nfa.states threads))
          (λ class lt. ap (targets d.nfa.states (slice_index d.bytes class)) (c.as_slice-3.ensures.value ∙ c.cut.ensures)) c.in_ok-put_all.ensures.lists;
      loops = c.looping-self.ensures ∙ ap (λ xs. looping d.kind d.nfa.states xs c.args.loops) c.as_slice-2.ensures.value;
      matches = c.in_ok-matching.ensures ∙ ap (matching d.kind d.nfa.states) c.as_slice.ensures.value;
    }

pub matching-requires-clause-empty : goal.matching-requires-clause-empty
matching-requires-clause-empty c = c.clear.ensures.items

pub matching-requires-clause-below : goal.matching-requires-clause-below
matching-requires-clause-below c = subst (AreBelow (length c.args.job.now.source.states.now)) (sym c.as_slice.ensures.value) c.requires.below

pub looping-self-requires : goal.looping-self-requires
looping-self-requires c = subst (AreBelow (length c.args.job.now.source.states.now)) (sym c.as_slice-2.ensures.value) c.requires.below

pub cut-requires : goal.cut-requires
cut-requires c = c.requires.below

pub put_all-requires-clause-classes : goal.put_all-requires-clause-classes
put_all-requires-clause-classes c = c.requires.job.sound.classes

pub put_all-requires-clause-stand : goal.put_all-requires-clause-stand
put_all-requires-clause-stand c = c.requires.job.sound.serve.stand

pub put_all-requires-clause-count : goal.put_all-requires-clause-count
put_all-requires-clause-count c = c.clear-2.ensures.count ∙ c.requires.count

pub put_all-requires-clause-empty : goal.put_all-requires-clause-empty
put_all-requires-clause-empty c = c.clear-2.ensures.lists

pub returns-clause-count : goal.returns-clause-count
returns-clause-count c = c.in_ok-put_all.ensures.count ∙ c.clear-2.ensures.count

pub returns-clause-known : goal.returns-clause-known
returns-clause-known c = refl

pub returns-clause-room : goal.returns-clause-room
returns-clause-room c = c.requires.room

pub returns-in_err-matching-clause-known : goal.returns-in_err-matching-clause-known
returns-in_err-matching-clause-known c = refl

pub returns-in_err-matching-clause-room : goal.returns-in_err-matching-clause-room
returns-in_err-matching-clause-room c = c.requires.room

pub returns-in_err-put_all-clause-known : goal.returns-in_err-put_all-clause-known
returns-in_err-put_all-clause-known c = refl

pub returns-in_err-put_all-clause-room : goal.returns-in_err-put_all-clause-room
returns-in_err-put_all-clause-room c = c.requires.room

pub returns-in_err-matching-clause-count : goal.returns-in_err-matching-clause-count
returns-in_err-matching-clause-count c = refl

pub returns-in_err-put_all-clause-count : goal.returns-in_err-put_all-clause-count
returns-in_err-put_all-clause-count c = c.in_err-put_all.ensures.count ∙ c.clear-2.ensures.count

pub returns-in_err-matching-clause-parts : goal.returns-in_err-matching-clause-parts
returns-in_err-matching-clause-parts c =
    let e = err_from_is_err_and c.from_residual.result c.from_residual.ensures.1 in
    rw (e.1) tt

pub returns-in_err-put_all-clause-parts : goal.returns-in_err-put_all-clause-parts
returns-in_err-put_all-clause-parts c =
    let e = err_from_is_err_and c.from_residual-in_err-put_all.result c.from_residual-in_err-put_all.ensures.1 in
    rw (e.1) tt
