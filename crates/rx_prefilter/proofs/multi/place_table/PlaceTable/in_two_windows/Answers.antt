use Rattle.std.proofs.Common.{map, sym, ◌∙◌}
use Rattle.std.specs.Vec.{vec_items}
use Rattle.rx_prefilter.proofs.PlaceLemmas.{two_found, two_next}
use Rattle.rx_prefilter.proofs.multi.place_table.PlaceTable.in_two_windows.Goals as goal

pub returns-in-Some : goal.returns-in-Some
returns-in-Some c =
    sym (two_found (map vec_items c.args.self.now.needles.items) c.args.text.now c.args.at c.args.self.now.stride c.in-Some.span
    (sym c.in_window.ensures ∙ c.in-Some.is))

pub returns : goal.returns
returns c =
    c.in_window-2.ensures
    ∙ sym (two_next (map vec_items c.args.self.now.needles.items) c.args.text.now c.args.at c.args.self.now.stride (sym c.in_window.ensures ∙ c.in_default.is))
