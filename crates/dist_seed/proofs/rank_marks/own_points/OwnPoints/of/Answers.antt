use Rattle.std.proofs.Common.{◌<◌, length, sym, subst, ◌∙◌}
use Rattle.std.specs.List.{AllByRecursion}
use Rattle.dist_seed.specs.rank_marks.Own.{AreTold}
use Rattle.dist_seed.proofs.rank_marks.Marked.{short-cells, own-fit, vertices-low}
use Rattle.dist_seed.proofs.rank_marks.own_points.OwnPoints.of.Goals as goal

pub told-requires : goal.told-requires
told-requires g c =
    let m = c.args.mesh.now in
    let low = vertices-low (length m.at) c.args.own.now.cells c.vertices.result.now (c.vertices.ensures ∙ c.requires.vertices) in
    subst (λ n. AllByRecursion (λ v. v < n) c.vertices.result.now) (sym c.vertices-2.ensures) low

pub of-requires : goal.of-requires
of-requires g c = short-cells c.args.mesh.now c.requires.right c.args.own.now.cells c.requires.cells

pub points_between-requires : goal.points_between-requires
points_between-requires g c = (c.type_bounds.sync-R, own-fit c.args.mesh.now c.requires.right c.args.own.now.cells c.requires.cells c.requires.few)

pub returns : goal.returns
returns g c = record {
  own = c.requires.vertices;
  vertices = coe 0 1 (i. AreTold (c.vertices.ensures i) (c.vertices-2.ensures i) c.in_ok-vertices.vertices.items) c.in_ok-vertices.ensures;
  sets = c.in_ok-cells.ensures;
  between = c.in_ok-between.ensures;
}
