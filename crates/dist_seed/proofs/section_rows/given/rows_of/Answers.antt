use Rattle.std.proofs.Common.{◌≡◌, ℕ, ◌<◌, List, [], ◌∷◌, ◌++◌, map, length, ap, sym, subst, ◌∙◌, arith, rules}
use Rattle.std.specs.List.{AllByRecursion}
use Rattle.mesh_defs.specs.Mesh.{Section}
use Rattle.mesh_defs.specs.RightMesh.{count_on}
use Rattle.plex_base.specs.DataFields.{section_on}
use Rattle.plex_defs.specs.Fields.{row_values}
use Rattle.dist_state.specs.scatter_state.Parts.{given_rows}
use Rattle.dist_seed.specs.section_rows.Last.{last_values, HasLastRows, numbers_on}
use Rattle.dist_seed.proofs.section_rows.Rowing.{length-tables, table-at, numbers-low, rows-more, rows-defined}
use Rattle.dist_seed.proofs.section_rows.given.rows_of.Goals as goal

pub bounds-tables-i : goal.bounds-tables-i
bounds-tables-i c = let count = length-tables c.args.mesh.now c.args.mesh.now.fields c.args.tables.now c.requires.tables in omega (arith, count, c.loop-i-test.true, c.fields-i-end.ensures)

pub offset_bounds-tables-i : goal.offset_bounds-tables-i
offset_bounds-tables-i c =
    let count = length-tables c.args.mesh.now c.args.mesh.now.fields c.args.tables.now c.requires.tables in
    let low : c.loop-i.i < length c.args.tables.now = omega (arith, count, c.loop-i-test.true, c.fields-i-end.ensures) in
    search rules

pub values_of-requires-clause-table : goal.values_of-requires-clause-table
values_of-requires-clause-table c =
    let m = c.args.mesh.now in
    let f : Section = section_on c.field-on.result.0 c.field-on.result.1.now in
    let table = c.index-tables-i.result in
    let last = table-at m m.fields c.args.tables.now c.loop-i.i f table c.requires.tables c.field-on.ensures c.index-tables-i.is in
    subst (λ n. HasLastRows f.rows n table.places.items) (sym last.many) last

pub values_of-requires-clause-numbers : goal.values_of-requires-clause-numbers
values_of-requires-clause-numbers c =
    let m = c.args.mesh.now in
    let f : Section = section_on c.field-on.result.0 c.field-on.result.1.now in
    let table = c.index-tables-i.result in
    let last = table-at m m.fields c.args.tables.now c.loop-i.i f table c.requires.tables c.field-on.ensures c.index-tables-i.is in
    subst (λ n. AllByRecursion (λ k. k < n) c.numbers_on-numbers.result.now) (sym last.many)
    (subst (AllByRecursion (λ k. k < count_on m f.on)) (sym c.numbers_on-numbers.ensures) (numbers-low m f.on c.args.cells.now c.args.vertices.now c.requires.cells c.requires.vertices))

pub loop-i-preserved : goal.loop-i-preserved
loop-i-preserved c =
    let m = c.args.mesh.now in
    let f : Section = section_on c.field-on.result.0 c.field-on.result.1.now in
    ap (map given_rows) c.in_ok-push.ensures.items
    ∙ rows-more (λ (s : Section). map (row_values s) (numbers_on s.on c.args.cells.now c.args.vertices.now)) m.fields c.loop-i.i f c.loop-i.all.items c.in_ok-values_of.field-0 c.field-on.ensures c.loop-i.invariant
    (c.in_ok-values_of.ensures ∙ ap (map (last_values f.rows)) c.numbers_on-numbers.ensures ∙ rows-defined f (numbers_on f.on c.args.cells.now c.args.vertices.now))
