-- The kinds of matches are apart.
use Rattle.std.proofs.Common.{◌≡◌, sym, ◌∙◌, ap, true≢false}
use Rattle.std.specs.Prelude.{Bool, true, false}
use Rattle.rx_search.specs.declared.anchored.MatchKind.{MatchKind}
use Rattle.rx_search.specs.declared.anchored.MatchKind.TheVariants.{All, LeftmostFirst}

is_all : MatchKind → Bool
is_all All = true
is_all LeftmostFirst = false

pub kinds-apart : {A : Type 0} (kind : MatchKind) → kind ≡ LeftmostFirst → kind ≡ All → A
unfolding is_all
kinds-apart kind leftmost every = absurd (true≢false (ap is_all (sym every ∙ leftmost)))
