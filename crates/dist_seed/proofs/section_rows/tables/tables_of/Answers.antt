use Rattle.std.proofs.Common.{◌≡◌, ◌+◌, ◌<◌, [], ◌∷◌, ◌++◌, take, sym, subst, arith}
use Rattle.std.specs.List.{AllByRecursion}
use Rattle.mesh_defs.specs.Mesh.{Row, Section}
use Rattle.plex_base.specs.DataFields.{section_on}
use Rattle.dist_seed.specs.section_rows.Last.{AreTablesOf, HasLastRows}
use Rattle.dist_seed.proofs.section_rows.Rowing.{tables-more, numbers-right}
use Rattle.dist_seed.proofs.section_rows.tables.tables_of.Goals as goal

pub last_rows-requires : goal.last_rows-requires
last_rows-requires c =
    let f : Section = section_on c.field-on.result.0 c.field-on.result.1.now in
    subst (λ n. AllByRecursion (λ (row : Row). row.number < n) f.rows) (sym c.count_on.ensures) (numbers-right c.args.mesh.now c.loop-i.i f c.dim-dim.ensures.right.fields c.field-on.ensures)

pub loop-i-preserved : goal.loop-i-preserved
loop-i-preserved c =
    let m = c.args.mesh.now in
    let f : Section = section_on c.field-on.result.0 c.field-on.result.1.now in
    let table = c.in_ok-last_rows.field-0 in
    subst (AreTablesOf m (take (c.loop-i.i + 1) m.fields)) (sym c.in_ok-push.ensures.items)
    (tables-more m m.fields c.loop-i.i c.loop-i.tables.items f table c.field-on.ensures c.loop-i.invariant
    (subst (λ n. HasLastRows f.rows n table.places.items) c.count_on.ensures c.in_ok-last_rows.ensures))
