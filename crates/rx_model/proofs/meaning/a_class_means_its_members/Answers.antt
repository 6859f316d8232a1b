use Rattle.rx_model.proofs.lemmas.meaning.CharLemmas.{member_len-is, member_len-of, byte_len-is, byte_len-of}
use Rattle.rx_model.proofs.meaning.a_class_means_its_members.Goals as goal

pub returns-clause-scalars : goal.returns-clause-scalars
returns-clause-scalars c = λ text ranges i n. (member_len-is text ranges i n, member_len-of text ranges i n)

pub returns-clause-bytes : goal.returns-clause-bytes
returns-clause-bytes c = λ text ranges i n. (byte_len-is text ranges i n, byte_len-of text ranges i n)
