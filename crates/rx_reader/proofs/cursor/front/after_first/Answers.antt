use Rattle.std.proofs.Common.{List, ℕ, drop, sym, ap, ◌∙◌}
use Rattle.rx_reader.proofs.cursor.front.after_first.Goals as goal

pub returns-in-Some : goal.returns-in-Some
returns-in-Some c = sym (ap (λ (cs : List ℕ). drop 1 cs) c.in-Some.ensures.parts)

pub returns-in-None : goal.returns-in-None
returns-in-None c = c.in-None.ensures.parts ∙ sym (ap (λ (cs : List ℕ). drop 1 cs) c.in-None.ensures.parts)
