use Rattle.rx_model.specs.Look.{byte_before, byte_after}
use Rattle.rx_model.proofs.lemmas.meaning.BesideLemmas.{holds-alike, same-alike}
use Rattle.rx_model.proofs.looks.a_look_around_holds_alike.Goals as goal

pub returns : goal.returns
returns c = λ terminator text other kind i j within within' before after told.
    holds-alike text other i j within within' terminator kind (same-alike terminator kind (byte_before text i) (byte_before other j) before)
    (same-alike terminator kind (byte_after text i) (byte_after other j) after) told
