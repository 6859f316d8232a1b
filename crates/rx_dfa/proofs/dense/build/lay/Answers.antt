use Rattle.std.proofs.Common.{ℕ, ◌*◌, map, sym, ◌∙◌, ap}
use Rattle.std.proofs.lemmas.List.{length-map}
use Rattle.std.proofs.lemmas.Result.{err_from_is_err_and}
use Rattle.rx_dfa.specs.Alphabet.{dfa_of}
use Rattle.rx_dfa.specs.StateKey.{key_of}
use Rattle.rx_dfa.specs.declared.state_key.StateKey.{StateKey}
use Rattle.rx_dfa.proofs.lemmas.FilledLemmas.{unmade}
use Rattle.rx_dfa.proofs.lemmas.FindLemmas.{memory-refused}
use Rattle.rx_dfa.proofs.dense.build.lay.Goals as goal

pub returns-in_err-drawn-clause-grows : goal.returns-in_err-drawn-clause-grows
returns-in_err-drawn-clause-grows c = c.in_err-drawn.ensures.grows

pub returns-in_err-drawn-clause-made : goal.returns-in_err-drawn-clause-made
returns-in_err-drawn-clause-made c =
    let e = err_from_is_err_and c.from_residual.result c.from_residual.ensures.1 in
    record { found = c.in_err-drawn.ensures.made.found; ok = rw (e.1) tt; err = rw (e.1, e.2) c.in_err-drawn.ensures.made.err }

pub returns-in_err-matches-clause-grows : goal.returns-in_err-matches-clause-grows
returns-in_err-matches-clause-grows c = c.in_ok-drawn.ensures.grows

pub returns-in_err-matches-clause-made : goal.returns-in_err-matches-clause-made
returns-in_err-matches-clause-made c =
    let d = dfa_of c.args.nfa.now c.args.kind c.args.alphabet.now in
    let e = err_from_is_err_and c.from_residual-in_err-matches.result c.from_residual-in_err-matches.ensures.1 in
    record {
      found = c.in_ok-drawn.ensures.made.found;
      ok = rw (e.1) tt;
      err = rw (e.1) (memory-refused d c.args.found.now.stride c.args.found.now.limit e.0 e.2);
    }

pub returns-in_err-drawn-clause-dead : goal.returns-in_err-drawn-clause-dead
returns-in_err-drawn-clause-dead c = unmade _ _ c.from_residual.result c.from_residual.ensures.1

pub returns-in_err-drawn-clause-matches : goal.returns-in_err-drawn-clause-matches
returns-in_err-drawn-clause-matches c = unmade _ _ c.from_residual.result c.from_residual.ensures.1

pub returns-in_err-matches-clause-dead : goal.returns-in_err-matches-clause-dead
returns-in_err-matches-clause-dead c = unmade _ _ c.from_residual-in_err-matches.result c.from_residual-in_err-matches.ensures.1

pub returns-in_err-matches-clause-matches : goal.returns-in_err-matches-clause-matches
returns-in_err-matches-clause-matches c = unmade _ _ c.from_residual-in_err-matches.result c.from_residual-in_err-matches.ensures.1

pub returns-clause-grows : goal.returns-clause-grows
returns-clause-grows c = c.in_ok-drawn.ensures.grows

pub returns-clause-made : goal.returns-clause-made
returns-clause-made c = record { found = c.in_ok-drawn.ensures.made.found; ok = c.in_ok-drawn.ensures.made.ok; err = tt }

pub returns-clause-dead : goal.returns-clause-dead
returns-clause-dead c =
    let f = c.draw.new.found in
    let plain = c.len-plain.ensures.len ∙ sym (length-map f.plain.keys key_of) in
    c.in-Some.ensures.0 ∙ ap (λ (n : ℕ). n * f.stride) plain

pub returns-clause-matches : goal.returns-clause-matches
returns-clause-matches c = c.in_ok-matches.ensures ∙ ap (map (λ (k : StateKey). k.matches.items)) c.as_slice.ensures.keys

pub returns-in_default-clause-made : goal.returns-in_default-clause-made
returns-in_default-clause-made c = record { found = c.in_ok-drawn.ensures.made.found; ok = tt; err = tt }

pub returns-in_default-clause-grows : goal.returns-in_default-clause-grows
returns-in_default-clause-grows c = c.in_ok-drawn.ensures.grows
