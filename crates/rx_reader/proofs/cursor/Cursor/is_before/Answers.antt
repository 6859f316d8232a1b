use Rattle.std.proofs.Common.{◌≡◌, ◌∙◌, ap, sym, List, ℕ, [], ◌∷◌, drop, true, Bool}
use Rattle.std.specs.Prelude.{nat_eq, chars}
use Rattle.std.specs.Char.{is_whitespace}
use Rattle.std.specs.List.{prefix_len, starts_with}
use Rattle.rx_reader.specs.Classes.{next_text}
use Rattle.rx_reader.proofs.cursor.Cursor.is_before.Goals as goal

pub returns-then-skips : goal.returns-then-skips
returns-then-skips c =
    let rest = drop 1 (chars c.args.self.now.rest.now) in
    let ahead : List ℕ → Bool = λ t. starts_with nat_eq t (c.args.c ∷ []) in
    let same : ahead (next_text c.args.skips rest) ≡ ahead (next_text true rest) = ap (λ (b : Bool). ahead (next_text b rest)) c.if-skips.true in
    c.begins_with.ensures ∙ ap ahead (c.after_white.ensures ∙ ap (λ (t : List ℕ). drop (prefix_len is_whitespace t) t) c.after_first-text.ensures) ∙ sym same

pub returns-else-skips : goal.returns-else-skips
returns-else-skips c =
    let rest = drop 1 (chars c.args.self.now.rest.now) in
    let ahead : List ℕ → Bool = λ t. starts_with nat_eq t (c.args.c ∷ []) in
    let same : ahead (next_text c.args.skips rest) ≡ ahead rest = ap (λ (b : Bool). ahead (next_text b rest)) c.if-skips.false in
    c.begins_with-else-skips.ensures ∙ ap ahead c.after_first-text.ensures ∙ sym same
