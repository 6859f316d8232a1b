use Rattle.std.proofs.Common.{◌≡◌, ◌+◌, ◌<◌, ◌++◌, ◌∷◌, [], ℕ, length, All, sym, ap, subst, ◌∙◌, append_assoc, arith}
use Rattle.std.specs.Prelude.{map}
use Rattle.std.proofs.lemmas.List.Elements.{All-tail}
use Rattle.memchr.specs.Find.{is_byte, places}
use Rattle.memchr.proofs.lemmas.CallerLemmas.{All-places}
use Rattle.rx_scan.specs.Lines.{newlines}
use Rattle.rx_scan.proofs.NewlineLemmas.{newlines-from, places-newlines}
use Rattle.rx_scan.proofs.newlines.newlines.Goals as goal

pub places-init : goal.places-init
places-init c =
    let text = c.args.text.now in
    let at = c.args.at in
    let source : c.into_iter-place-iterator.result ≡ places (is_byte 10) text =
    c.into_iter-place-iterator.ensures.into_iter_gives ∙ c.memchr_iter-place-items.ensures.value in
    let plus : ℕ → ℕ = λ n. at + n in
    let start : at + 0 ≡ at = omega arith in
    record {
      told = (λ k. c.new-all.ensures.items k ++ map plus (source k)) ∙ ap (map plus) (places-newlines text) ∙ newlines-from at 0 text
          ∙ ap (λ n. newlines n text) start;
      within = subst (All (λ n. n < length text)) (sym source) (λ k d below. (All-places (is_byte 10) text k d below).0);
    }

pub places-preserved : goal.places-preserved
places-preserved c =
    let all = c.places.all.items in
    let plus : ℕ → ℕ = λ n. c.args.at + n in
    let left = c.in-Some.ensures.steps in
    record {
      told = ap (λ l. l ++ map plus c.next.new.self) c.in_ok-push.ensures.items ∙ append_assoc all ((c.args.at + c.in-Some.place) ∷ []) (map plus c.next.new.self)
          ∙ ap (λ l. all ++ map plus l) (sym left) ∙ c.places.invariant.told;
      within = All-tail (λ n. n < length c.args.text.now) _ _ (subst (All (λ n. n < length c.args.text.now)) left c.places.invariant.within);
    }
