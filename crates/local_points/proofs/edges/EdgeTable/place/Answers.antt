use Rattle.std.proofs.Common.{List, map, sym, ap, ◌∙◌, [], ◌∷◌, ◌++◌}
use Rattle.mesh_defs.specs.Diagram.{place_in}
use Rattle.mesh_defs.specs.Points.{Sight, point_of}
use Rattle.local_points.specs.declared.seen_edges.Edge.{Edge}
use Rattle.local_points.specs.Stored.{edge_sight_of, edge_set}
use Rattle.local_points.proofs.Places.{table-place, table-new, table-known}
use Rattle.local_points.proofs.Ends.{edges-tell}
use Rattle.local_points.proofs.edges.EdgeTable.place.Goals as goal
use Rattle.local_points.proofs.edges.EdgeTable.place.Goals.{then-is_new, else-is_new}

pub returns-clause-ok : goal.returns-clause-ok
returns-clause-ok c =
    let items = c.self.inside.edges.items in
    let keys = c.self.inside.sets.keys in
    let tell = edges-tell c.args.edge c.rising_two.result c.rising_two.ensures items in
    elim c.if-is_new.branch [
      | then-is_new w ↦
          w.self-is ∙ ap (map edge_sight_of) (w.push_reserved.ensures.items ∙ ap (λ (l : List Edge). l ++ c.args.edge ∷ []) c.reserve.ensures.items)
          ∙ table-new edge_sight_of edge_set keys items c.args.self.now c.args.edge c.rising_two.result c.self.invariant c.self.view_is tell c.in_ok-place.is_new c.in_ok-place.ensures.added w.if-is_new.true
      | else-is_new w ↦
          w.self-is ∙ ap (map edge_sight_of) c.reserve.ensures.items
          ∙ table-known edge_sight_of edge_set keys items c.args.self.now c.args.edge c.rising_two.result c.self.invariant c.self.view_is tell c.in_ok-place.is_new c.in_ok-place.ensures.added w.if-is_new.false
    ]

pub returns-clause-place : goal.returns-clause-place
returns-clause-place c =
    let items = c.self.inside.edges.items in
    let keys = c.self.inside.sets.keys in
    c.in_ok-place.ensures.index
    ∙ table-place edge_sight_of edge_set keys items c.args.self.now c.args.edge c.rising_two.result c.self.invariant c.self.view_is (edges-tell c.args.edge c.rising_two.result c.rising_two.ensures items)
    ∙ ap (λ (l : List Sight). place_in l (point_of (edge_sight_of c.args.edge))) (sym (returns-clause-ok c))
