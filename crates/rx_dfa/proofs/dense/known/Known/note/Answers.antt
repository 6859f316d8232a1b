use Rattle.std.proofs.Common.{◌∷◌, ◌++◌, [], ◌∙◌, ap}
use Rattle.rx_dfa.specs.StateKey.{key_of}
use Rattle.rx_dfa.proofs.lemmas.KnownLemmas.{known-push}
use Rattle.rx_dfa.proofs.dense.known.Known.note.Goals as goal

pub returns-clause-known : goal.returns-clause-known
returns-clause-known c d f are is =
    known-push d f c.args.self.now _ (key_of c.args.reached.now) c.args.state c.args.self.now.same c.in_ok-append.ensures.keys
    (c.push_reserved.ensures.items ∙ ap (λ (xs : _). xs ++ c.args.state ∷ []) c.in_ok-reserve.ensures.items) are is
