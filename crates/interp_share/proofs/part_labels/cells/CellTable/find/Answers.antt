use Rattle.std.proofs.Common.{◌<◌, length, ap, sym, ◌∙◌, arith}
use Rattle.std.proofs.lemmas.List.{length-map}
use Rattle.std.specs.Prelude.{position}
use Rattle.plain_lists.specs.Lists.{same_list}
use Rattle.interp_share.specs.part_labels.Sets.{set_of}
use Rattle.interp_share.proofs.part_labels.Given.{few-cells, short-cells}
use Rattle.interp_share.proofs.part_labels.Tables.{place-of_set}
use Rattle.interp_share.proofs.part_labels.cells.CellTable.find.Goals as goal

pub returns : goal.returns
returns c =
    let g = c.requires.given in
    let cells = c.args.part.now.cells in
    sym c.in_ok-place.was ∙ c.get_index_of.ensures.index
    ∙ (λ i. position (same_list (c.set_on.ensures i)) (c.requires.table.found i))
    ∙ place-of_set c.args.vertices.now cells c.requires.short (short-cells c.args.part.now g.m g.a g.n g.r g.is)

pub returns-in_err-place : goal.returns-in_err-place
returns-in_err-place c =
    let g = c.requires.given in
    let cells = c.args.part.now.cells in
    c.from_residual.ensures ∙ sym c.in_err-place.was ∙ c.get_index_of.ensures.index
    ∙ (λ i. position (same_list (c.set_on.ensures i)) (c.requires.table.found i))
    ∙ place-of_set c.args.vertices.now cells c.requires.short (short-cells c.args.part.now g.m g.a g.n g.r g.is)

pub overflow_cast-result : goal.overflow_cast-result
overflow_cast-result c =
    let g = c.requires.given in
    let within : c.in_ok-place.place < length c.args.self.now.sets.keys = c.in_ok-place.ensures.within in
    omega (arith, within, ap length c.requires.table.found, length-map c.args.part.now.cells set_of, few-cells c.args.part.now g.m g.a g.n g.r g.is)
