use Rattle.std.proofs.Common.{◌≡◌, List, [], ◌∷◌, ◌++◌, refl, sym, ◌∙◌, ap}
use Rattle.std.proofs.lemmas.Option.{none-some}
use Rattle.std.specs.Prelude.{slice_get}
use Rattle.rx_dfa.specs.declared.lazy.start.Start.{Start}
use Rattle.rx_dfa.proofs.lemmas.RowsLemmas.{rows-same, rows-noted, noted-push}
use Rattle.rx_dfa.proofs.lazy.rows.Rows.note_start.Goals as goal

pub returns-then-is_full-clause-rows : goal.returns-then-is_full-clause-rows
returns-then-is_full-clause-rows c =
    let starts : c.clear.new.self.items ≡ [] = c.clear.ensures.items in
    rows-noted c.args.lazy.now c.args.self.now _ c.requires.rows refl refl refl
    (λ i st got. absurd (none-some st (sym (ap (λ (ss : List Start). slice_get ss i) starts) ∙ got)))

pub returns-in_err-push-clause-rows : goal.returns-in_err-push-clause-rows
returns-in_err-push-clause-rows c =
    let starts : c.push.new.self.items ≡ c.args.self.now.starts.items = c.in_err-push.ensures.items in
    rows-same c.args.lazy.now c.args.self.now _ c.requires.rows refl refl starts refl

pub returns-clause-rows : goal.returns-clause-rows
returns-clause-rows c =
    let l = c.args.lazy.now in
    let r = c.args.self.now in
    let start = c.args.start in
    let starts : c.push.new.self.items ≡ r.starts.items ++ start ∷ [] = c.in_ok-push.ensures.items in
    rows-noted l r _ c.requires.rows refl refl refl
    (λ i st got. noted-push l r c.requires.rows start c.requires.state i st (sym (ap (λ (ss : List Start). slice_get ss i) starts) ∙ got))
