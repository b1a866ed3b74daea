use Rattle.std.proofs.Common.{[], ◌∷◌, length, sym, ap, ◌∙◌, arith}
use Rattle.std.proofs.lemmas.List.{length-map}
use Rattle.mesh_defs.specs.declared.Poly.TheVariants.{Segment}
use Rattle.mesh_defs.specs.Points.{point_on}
use Rattle.local_points.specs.Points.{Local}
use Rattle.local_points.specs.Stored.{edge_sight_of, edge_set}
use Rattle.local_points.proofs.Places.{found-by_set}
use Rattle.local_points.proofs.Ends.{ends-tell}
use Rattle.local_points.proofs.finder.PointFinder.find_edge.Goals as goal

pub overflow_cast-result : goal.overflow_cast-result
overflow_cast-result c =
    let found = c.self.invariant.edges in
    omega (arith, c.in_ok-place.ensures.within, ap length found.are, length-map found.edges edge_set, length-map found.edges edge_sight_of, ap length found.shown, c.self.invariant.few_edges)

pub returns : goal.returns
returns c =
    let ends = c.args.a ∷ c.args.b ∷ [] in
    let found = c.self.invariant.edges in
    sym c.in_ok-place.was ∙ c.get_index_of.ensures.index
    ∙ found-by_set edge_sight_of edge_set c.rising_two.result (point_on Segment ends) c.self.inside.edge_sets.keys found.edges c.args.self.now.edges
    found.are (found.shown ∙ ap (λ (l : Local). l.edges) c.self.view_is) (ends-tell ends c.rising_two.result c.rising_two.ensures found.edges)

pub returns-in_err-place : goal.returns-in_err-place
returns-in_err-place c =
    let ends = c.args.a ∷ c.args.b ∷ [] in
    let found = c.self.invariant.edges in
    c.from_residual.ensures ∙ sym c.in_err-place.was ∙ c.get_index_of.ensures.index
    ∙ found-by_set edge_sight_of edge_set c.rising_two.result (point_on Segment ends) c.self.inside.edge_sets.keys found.edges c.args.self.now.edges
    found.are (found.shown ∙ ap (λ (l : Local). l.edges) c.self.view_is) (ends-tell ends c.rising_two.result c.rising_two.ensures found.edges)
