use Rattle.std.proofs.Common.{◌<◌, reverse, sym, ◌∙◌, subst}
use Rattle.std.proofs.lemmas.Result.{err_from_is_err_and}
use Rattle.rx_onepass_build.specs.Rows.{unmarked}
use Rattle.rx_onepass_build.specs.Tree.{IsSearched}
use Rattle.rx_onepass_build.proofs.lemmas.ListLemmas.{unmarked-less}
use Rattle.rx_onepass_build.proofs.lemmas.WalkingLemmas.{the-top, top-way, top-inside, top-taken, top-twice, walking-on}
use Rattle.rx_onepass_build.proofs.closure.Closure.advance.Goals as goal

pub returns-in_default-clause-walking : goal.returns-in_default-clause-walking
returns-in_default-clause-walking c =
    let w = c.requires.walking in
    record {
      done = w.done;
      ways = w.ways;
      searched =
          subst (λ fs. IsSearched c.args.job.now.nfa.now c.args.self.now.entry w.done w.ways (reverse fs)) (sym c.in_default.ensures.same) w.searched;
      marked = w.marked;
      cells = w.cells;
      told = w.told;
    }

pub mark-requires : goal.mark-requires
mark-requires c =
    let w = c.requires.walking in
    subst (λ n. c.in-Some.frame.state < n) (sym w.marked.len)
    (top-inside c.args.job.now c.args.entries.now.items.items c.args.self.now w c.in-Some.frame (reverse c.pop_frame.new.frames.items)
    c.in-Some.ensures.some c.requires.job.in_range.names c.requires.inside)

pub look_at-requires-clause-inside : goal.look_at-requires-clause-inside
look_at-requires-clause-inside c =
    top-inside c.args.job.now c.args.entries.now.items.items c.args.self.now c.requires.walking c.in-Some.frame (reverse c.pop_frame.new.frames.items)
    c.in-Some.ensures.some c.requires.job.in_range.names c.requires.inside

pub look_at-requires-clause-small : goal.look_at-requires-clause-small
look_at-requires-clause-small c =
    (top-way c.args.job.now c.args.entries.now.items.items c.args.self.now c.requires.walking c.in-Some.frame (reverse c.pop_frame.new.frames.items)
    c.in-Some.ensures.some).small

pub look_at-requires-clause-width : goal.look_at-requires-clause-width
look_at-requires-clause-width c = c.requires.walking.cells.width

pub returns-in_err-mark-clause-err : goal.returns-in_err-mark-clause-err
returns-in_err-mark-clause-err c =
    let w = c.requires.walking in
    let e = err_from_is_err_and c.from_residual.result c.from_residual.ensures.1 in
    rw (e.1, e.2, c.in_err-mark.ensures.err.0) (
      c.args.self.now.entry,
      w.cells.is_entry,
      top-twice c.args.job.now c.args.entries.now.items.items c.args.self.now w c.in-Some.frame (reverse c.pop_frame.new.frames.items)
          c.in-Some.ensures.some c.in_err-mark.ensures.err.1,
    )

pub returns-in_err-look_at-clause-err : goal.returns-in_err-look_at-clause-err
returns-in_err-look_at-clause-err c =
    let w = c.requires.walking in
    let rest = reverse c.pop_frame.new.frames.items in
    let e = err_from_is_err_and c.from_residual-in_err-look_at.result c.from_residual-in_err-look_at.ensures.1 in
    rw (e.1, e.2)
    (c.in_err-look_at.ensures.err w.done
    (the-top c.args.job.now c.args.entries.now.items.items c.args.self.now w c.in-Some.frame rest c.in-Some.ensures.some).way
    (top-taken c.args.job.now c.args.entries.now.items.items c.args.self.now w c.in-Some.frame rest c.in-Some.ensures.some c.in_ok-mark.ensures.new)
    w.told w.cells)

pub returns-clause-more : goal.returns-clause-more
returns-clause-more c asked =
    let w = c.requires.walking in
    let marks = c.in_ok-look_at.ensures.marks ∙ c.in_ok-mark.ensures.marks in
    subst (λ ms. unmarked c.args.self.now.row ms < unmarked c.args.self.now.row c.args.self.now.marks.items) (sym marks)
    (unmarked-less c.args.self.now.row c.args.self.now.marks.items c.in-Some.frame.state
    (subst (λ n. c.in-Some.frame.state < n) (sym w.marked.len)
    (top-inside c.args.job.now c.args.entries.now.items.items c.args.self.now w c.in-Some.frame (reverse c.pop_frame.new.frames.items)
    c.in-Some.ensures.some c.requires.job.in_range.names c.requires.inside))
    c.in_ok-mark.ensures.new)

pub returns-clause-walking : goal.returns-clause-walking
returns-clause-walking c =
    let w = c.requires.walking in
    let j = c.args.job.now in
    let old = c.args.entries.now.items.items in
    let rest = reverse c.pop_frame.new.frames.items in
    let top = c.in-Some.ensures.some in
    let taken = top-taken j old c.args.self.now w c.in-Some.frame rest top c.in_ok-mark.ensures.new in
    let way = (the-top j old c.args.self.now w c.in-Some.frame rest top).way in
    walking-on j old c.args.self.now w c.in-Some.frame rest top c.in_ok-mark.ensures.new
    (subst (λ n. c.in-Some.frame.state < n) (sym w.marked.len)
    (top-inside j old c.args.self.now w c.in-Some.frame rest top c.requires.job.in_range.names c.requires.inside))
    c.look_at.new.entries.items.items c.look_at.new.self c.in_ok-look_at.ensures.entry c.in_ok-look_at.ensures.row
    (c.in_ok-look_at.ensures.marks ∙ c.in_ok-mark.ensures.marks) c.in_ok-look_at.ensures.on
    (c.in_ok-look_at.ensures.cells w.done way taken w.told w.cells) (c.in_ok-look_at.ensures.told w.done way taken w.told)
