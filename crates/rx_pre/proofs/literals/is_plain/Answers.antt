use Rattle.std.proofs.Common.{◌∙◌, arith}
use Rattle.rx_hir.proofs.SoundLemmas.{IsSound-ordered}
use Rattle.rx_pre.proofs.WholeLemmas.{not-plain, plain-value}
use Rattle.rx_pre.proofs.literals.is_plain.Goals as goal

pub returns-then-explicit_captures_len-gt0-clause-value : goal.returns-then-explicit_captures_len-gt0-clause-value
returns-then-explicit_captures_len-gt0-clause-value c =
    not-plain c.args.hir.now c.explicit_captures_len.result (c.explicit_captures_len.ensures ∙ c.properties.ensures.count) (omega arith)

pub returns-then-explicit_captures_len-gt0-clause-ordered : goal.returns-then-explicit_captures_len-gt0-clause-ordered
returns-then-explicit_captures_len-gt0-clause-ordered c = IsSound-ordered c.args.hir.now c.kind-kind.ensures.sound

pub returns-clause-value : goal.returns-clause-value
returns-clause-value c =
    plain-value c.args.hir.now c.explicit_captures_len.result (c.explicit_captures_len.ensures ∙ c.properties.ensures.count) (omega arith)
    c.is_look_free.result c.is_look_free.ensures.value

pub returns-clause-ordered : goal.returns-clause-ordered
returns-clause-ordered c = IsSound-ordered c.args.hir.now c.kind-kind.ensures.sound
