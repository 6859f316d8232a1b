use Rattle.std.proofs.Common.{List, ℕ, ◌∙◌}
use denote.Ref.{Bor}
use Rattle.std.proofs.lemmas.List.Elements.{All-map}
use Rattle.std.proofs.lemmas.Simd.{map-map}
use Rattle.rx_model.specs.Utf8.{MeansUtf8}
use Rattle.rx_meta.specs.Build.{patterns_for}
use Rattle.rx_scan.specs.Row.{scan_rows}
use Rattle.rx_scan.proofs.haystacks.scan.Goals as goal

pub returns : goal.returns
returns g c = λ config hs built leftmost begins utf8.
    let r = patterns_for config hs in
    let given = c.args.haystacks.now in
    let now : Bor (List ℕ) → List ℕ = λ h. h.now in
    c.in_ok-rows.ensures config hs built leftmost begins (λ on. All-map (MeansUtf8 r) now given (utf8 on)) ∙ map-map (scan_rows r) now given
