use Rattle.rx_reader.proofs.lemmas.places.CharsLemmas.{first-at}
use Rattle.rx_reader.proofs.cursor.Cursor.current.Goals as goal

pub returns-in-Some : goal.returns-in-Some
returns-in-Some c = first-at _ _ _ c.in-Some.ensures.parts
