use Rattle.rx_reader.proofs.lemmas.patterns.CharacterLemmas.{read-scalars}
use Rattle.rx_reader.proofs.laws.each_character_of_a_pattern_is_a_scalar.Goals as goal

pub returns : goal.returns
returns c = read-scalars
