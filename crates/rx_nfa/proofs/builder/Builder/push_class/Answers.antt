use Rattle.std.proofs.Common.{◌∙◌, sym, ap}
use Rattle.rx_class.specs.ClassViews.{class_view}
use Rattle.rx_nfa.specs.Directed.{build_class}
use Rattle.rx_nfa.proofs.lemmas.parts.CompileLemmas.{Built-same}
use Rattle.rx_nfa.proofs.lemmas.parts.OrderLemmas.{class-bytes}
use Rattle.rx_nfa.proofs.builder.Builder.push_class.Goals as goal

pub returns-in-Unicode-clause-built : goal.returns-in-Unicode-clause-built
returns-in-Unicode-clause-built c =
    Built-same _ _ c.args.next c.args.self.now c.push_scalars.new.self c.push_scalars.result
    (ap (λ class. build_class c.args.backwards (class_view class)) (sym c.in-Unicode.is)) c.push_scalars.ensures.built

pub returns-in-Bytes-clause-built : goal.returns-in-Bytes-clause-built
returns-in-Bytes-clause-built c =
    Built-same _ _ c.args.next c.args.self.now c.push_bytes.new.self c.push_bytes.result
    (class-bytes c.args.backwards c.in-Bytes.bytes ∙ ap (λ class. build_class c.args.backwards (class_view class)) (sym c.in-Bytes.is))
    c.push_bytes.ensures.built
