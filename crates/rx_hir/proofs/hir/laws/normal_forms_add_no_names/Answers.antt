use Rattle.rx_hir.proofs.NamedFormsLemmas.{literal-unnamed, class-unnamed, repetition-named, concat-named, alternation-named}
use Rattle.rx_hir.proofs.hir.laws.normal_forms_add_no_names.Goals as goal

pub returns : goal.returns
returns c = record {
  literals = λ g name bytes s. literal-unnamed g name bytes s;
  classes = λ g name members s. class-unnamed g name members s;
  copies = λ g name least greatest greedy h s. repetition-named g name least greatest greedy h s;
  rows = λ g name hs s. concat-named g name hs s;
  choices = λ g name hs s. alternation-named g name hs s;
}
