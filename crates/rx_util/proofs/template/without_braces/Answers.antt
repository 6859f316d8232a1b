use Rattle.std.proofs.Common.{arith, ◌<◌, lt-ltb}
use Rattle.std.proofs.lemmas.List.Sums.{prefix_len-le-length}
use Rattle.rx_util.proofs.TemplateLemmas.{name_is_text, name_is_ascii}
use Rattle.rx_util.specs.Template.{is_name_byte}
use Rattle.rx_util.proofs.template.without_braces.Goals as goal

pub returns-then-len-eq0-clause-value : goal.returns-then-len-eq0-clause-value
returns-then-len-eq0-clause-value c = rw (← c.name_len-len.ensures, c.if-len-eq0.true)

pub returns-in_default-clause-value : goal.returns-in_default-clause-value
returns-in_default-clause-value c =
    let broken = rw c.in_default.is at c.from_utf8.ensures.cases in
    absurd (broken.0 (rw c.name_len-len.ensures (name_is_text c.args.after.now)))

pub returns-clause-value : goal.returns-clause-value
returns-clause-value c =
    let some : 0 < c.name_len-len.result = omega arith in rw (c.in-Ok.ensures.cases.0, ← c.name_len-len.ensures, lt-ltb _ _ some)

pub returns-clause-end : goal.returns-clause-end
returns-clause-end c = (
  omega arith,
  omega (arith, c.name_len-len.ensures, prefix_len-le-length is_name_byte c.args.after.now),
  name_is_ascii c.args.after.now _ (omega (arith, c.name_len-len.ensures)),
)
