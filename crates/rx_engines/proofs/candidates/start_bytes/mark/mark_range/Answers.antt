use Rattle.std.proofs.Common.{◌≡◌, ◌<◌, true, false, length, get_or, arith, ◌∙◌, subst, nat_lt, length-set, set}
use Rattle.std.proofs.lemmas.Bool.Decides.{nat_tests}
use Rattle.std.proofs.lemmas.List.{get_or-set_same}
use Rattle.rx_model.proofs.lemmas.runs.RunLemmas.{by_test}
use Rattle.rx_engines.proofs.lemmas.candidates.StartBytesLemmas.{marks-same, marks-set}
use Rattle.rx_engines.proofs.candidates.start_bytes.mark.mark_range.Goals as goal

pub loop-byte-init : goal.loop-byte-init
loop-byte-init c = record { kept = marks-same c.args.has.now; marked = λ b low high. absurd (omega arith) }

pub loop-byte-preserved : goal.loop-byte-preserved
loop-byte-preserved c =
    let has = c.loop-byte.has in
    let byte = c.loop-byte.byte in
    let lt : byte < length has = omega arith in
    record {
      kept = record {
        size = length-set has byte true ∙ c.loop-byte.invariant.kept.size;
        kept = λ b h. marks-set has byte b lt (c.loop-byte.invariant.kept.kept b h);
      };
      marked = λ b low high.
          by_test (nat_lt b byte)
          (λ e. marks-set has byte b lt (c.loop-byte.invariant.marked b low (grind (arith, nat_tests))))
          (λ e. let same : byte ≡ b = grind (arith, nat_tests) in
          subst (λ j. get_or (set has byte true) j false ≡ true) same (get_or-set_same has byte true false lt));
    }

pub returns-clause-marked : goal.returns-clause-marked
returns-clause-marked c = λ b low high. c.loop-byte.invariant.marked b low (omega arith)

pub returns-clause-kept : goal.returns-clause-kept
returns-clause-kept c = c.loop-byte.invariant.kept
