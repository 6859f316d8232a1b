use Rattle.std.proofs.Common.{◌≡◌, ◌∷◌, ◌++◌, [], length, map, ◌∙◌, ap, arith}
use Rattle.rx_dfa.specs.KeyRow.{key_in}
use Rattle.rx_dfa.specs.StateKey.{key_of}
use Rattle.rx_dfa.specs.declared.lazy.key_row.KeyRow.{KeyRow}
use Rattle.rx_dfa.proofs.lemmas.KeyRowLemmas.{keys-grow, keys-grow_threads, arena-push, key-made, on-err}
use Rattle.rx_dfa.proofs.lazy.arena.KeyArena.push.Goals as goal

pub returns-in_err-extend_from_slice-2-clause-err : goal.returns-in_err-extend_from_slice-2-clause-err
returns-in_err-extend_from_slice-2-clause-err c =
    let s = c.self.inside in
    let t : c.extend_from_slice.new.self.items ≡ s.threads.items ++ c.as_slice.result.now = c.in_ok-extend_from_slice.ensures.items in
    let m : c.extend_from_slice-2.new.self.items ≡ s.matches.items = c.in_err-extend_from_slice-2.ensures.items in
    on-err c.from_residual-in_err-extend_from_slice-2.result _
    ((λ j. map (key_in (t j) (m j)) s.rows.items)
    ∙ keys-grow_threads s.threads.items c.as_slice.result.now s.matches.items s.rows.items c.self.invariant ∙ c.self.view_is)

pub returns-in_err-push-clause-err : goal.returns-in_err-push-clause-err
returns-in_err-push-clause-err c =
    let s = c.self.inside in
    let t : c.extend_from_slice.new.self.items ≡ s.threads.items ++ c.as_slice.result.now = c.in_ok-extend_from_slice.ensures.items in
    let m : c.extend_from_slice-2.new.self.items ≡ s.matches.items ++ c.as_slice-2.result.now = c.in_ok-extend_from_slice-2.ensures.items in
    let r : c.push.new.self.items ≡ s.rows.items = c.in_err-push.ensures.items in
    on-err c.from_residual-in_err-push.result _
    ((λ j. map (key_in (t j) (m j)) (r j))
    ∙ keys-grow s.threads.items c.as_slice.result.now s.matches.items c.as_slice-2.result.now s.rows.items c.self.invariant ∙ c.self.view_is)

pub returns-clause-ok : goal.returns-clause-ok
returns-clause-ok c =
    let s = c.self.inside in
    let key = c.args.key.now in
    let more = c.as_slice.result.now in
    let others = c.as_slice-2.result.now in
    let row : KeyRow = record {
      threads = c.len-threads.result;
      threads_end = c.len.result;
      matches = c.len-matches.result;
      matches_end = c.len-2.result;
      loops = key.loops;
      before = key.before;
    } in
    let t : c.extend_from_slice.new.self.items ≡ s.threads.items ++ more = c.in_ok-extend_from_slice.ensures.items in
    let m : c.extend_from_slice-2.new.self.items ≡ s.matches.items ++ others = c.in_ok-extend_from_slice-2.ensures.items in
    let r : c.push.new.self.items ≡ s.rows.items ++ row ∷ [] = c.in_ok-push.ensures.items in
    let ea : c.len-threads.result ≡ length s.threads.items = omega (arith, s.threads.ok.0) in
    let eb : c.len.result ≡ length (s.threads.items ++ more) = omega (arith, c.extend_from_slice.new.self.ok.0, ap length t) in
    let ec : c.len-matches.result ≡ length s.matches.items = omega (arith, s.matches.ok.0) in
    let ed : c.len-2.result ≡ length (s.matches.items ++ others) = omega (arith, c.extend_from_slice-2.new.self.ok.0, ap length m) in
    let own : key_in (s.threads.items ++ more) (s.matches.items ++ others) row ≡ key_of key =
    key-made s.threads.items more s.matches.items others c.len-threads.result c.len.result c.len-matches.result c.len-2.result key.loops key.before ea eb ec ed
    ∙ (λ j. record { threads = c.as_slice.ensures.value j; loops = key.loops; matches = c.as_slice-2.ensures.value j; before = key.before }) in
    (λ j. map (key_in (t j) (m j)) (r j))
    ∙ arena-push s.threads.items more s.matches.items others s.rows.items row (key_of key) c.self.invariant own
    ∙ ap (λ ks. ks ++ key_of key ∷ []) c.self.view_is
