use Rattle.std.proofs.Common.{sym, ap, subst, ◌∙◌}
use Rattle.std.specs.Prelude.{map}
use Rattle.std.specs.List.{All}
use Rattle.std.specs.Str.{IsUtf8}
use Rattle.std.proofs.lemmas.List.Elements.{All-map}
use Rattle.rx_syntax.specs.Patterns.{all_syntaxes}
use Rattle.rx_scan.specs.Input.{lines, patterns}
use Rattle.rx_scan.proofs.input.read_patterns.Goals as goal

pub returns : goal.returns
returns c =
    let split = c.in_ok-patterns.ensures in
    let texts = ap (map (λ line. line.now)) c.deref.ensures.value ∙ split.patterns in
    record {
      syntaxes = ap (λ k. all_syntaxes k (patterns (lines c.args.text.now))) (sym c.new.ensures) ∙ ap (all_syntaxes c.new.result) (sym texts)
          ∙ c.in_ok-asts.ensures.value;
      patterns = subst (All IsUtf8) split.patterns (All-map IsUtf8 (λ line. line.now) c.in_ok-patterns.patterns.items split.utf8.0);
      haystacks = split.haystacks;
      utf8 = split.utf8.1;
    }
