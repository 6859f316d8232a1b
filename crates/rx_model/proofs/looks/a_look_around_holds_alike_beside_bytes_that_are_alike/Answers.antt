use Rattle.rx_model.proofs.lemmas.meaning.BesideLemmas.{holds-alike}
use Rattle.rx_model.proofs.looks.a_look_around_holds_alike_beside_bytes_that_are_alike.Goals as goal

pub returns : goal.returns
returns c = λ terminator text other kind i j within within' before after told. holds-alike text other i j within within' terminator kind before after told
