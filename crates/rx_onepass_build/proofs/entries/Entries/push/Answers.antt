use Rattle.std.proofs.Common.{◌≡◌, suc, ◌+◌, refl, subst, arith}
use Rattle.rx_onepass_build.specs.Entries.{IsWithin}
use Rattle.rx_onepass_build.proofs.lemmas.EntryLemmas.{met-push, row-pushed, grown-push}
use Rattle.rx_onepass_build.proofs.entries.Entries.push.Goals as goal

pub returns-clause-met : goal.returns-clause-met
returns-clause-met c =
    let few = c.in_ok-admit.ensures.few in
    let more : c.len-row.result + 1 + 1 ≡ suc (c.len-row.result + 1) = omega arith in
    met-push c.args.self.now _ c.args.state c.as_usize.result (c.len-row.result + 1) c.as_usize.ensures.value (omega arith) c.in_ok-push.ensures.items refl refl
    c.requires.met c.requires.new (omega arith) (subst (IsWithin c.args.self.now.layout) more c.in_ok-admit.ensures.within)

pub returns-clause-row : goal.returns-clause-row
returns-clause-row c = row-pushed c.args.self.now.items.items _ c.args.state (c.len-row.result + 1) (omega arith) c.in_ok-push.ensures.items

pub returns-clause-grows : goal.returns-clause-grows
returns-clause-grows c =
    grown-push c.args.self.now _ c.args.state c.as_usize.result (c.len-row.result + 1) c.as_usize.ensures.value (omega arith) c.in_ok-push.ensures.items refl
    refl
