use Rattle.std.proofs.Common.{length, sym, ap, ◌∙◌}
use Rattle.std.proofs.lemmas.List.{length-map}
use Rattle.dist_state.specs.scatter_state.Parts.{number_of}
use Rattle.dist_state.specs.scatter_state.Whole.{part_at}
use Rattle.spread_tests.proofs.Rows.{many_on, rows-many}
use Rattle.spread_tests.proofs.seeds.rows_on.Goals as goal

pub returns-in-Node : goal.returns-in-Node
returns-in-Node c =
    let s = c.args.s.now in
    let (m, dofs, a, n, is) = c.requires.some in
    ap length c.vertices.ensures ∙ sym (rows-many s m dofs a n is c.args.rank c.args.f c.section.result c.requires.rank c.section.ensures ∙ ap (many_on (part_at s.parts c.args.rank)) c.in-Node.is)

pub returns-in-Element : goal.returns-in-Element
returns-in-Element c =
    let s = c.args.s.now in
    let (m, dofs, a, n, is) = c.requires.some in
    let part = part_at s.parts c.args.rank in
    ap length c.cells.ensures.cells ∙ (length-map part.cells number_of ∙ sym (rows-many s m dofs a n is c.args.rank c.args.f c.section.result c.requires.rank c.section.ensures ∙ ap (many_on part) c.in-Element.is))
