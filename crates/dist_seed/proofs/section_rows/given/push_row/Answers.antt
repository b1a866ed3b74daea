use Rattle.std.proofs.Common.{◌≡◌, ◌<◌, ◌≤◌, length, arith}
use Rattle.mesh_defs.specs.Mesh.{Row}
use Rattle.dist_seed.specs.section_rows.Last.{values_by}
use Rattle.dist_seed.proofs.section_rows.Rowing.{given-push, row-there}
use Rattle.dist_seed.proofs.section_rows.given.push_row.Goals as goal

pub returns : goal.returns
returns c =
    let rows = c.args.rows.now.rows in
    let r : Row = record { number = c.row.result.0; values = c.row.result.1.now } in
    let one : 1 ≤ length r.values = omega (arith, c.row.ensures.comps, c.comps-comps.ensures.comps, c.comps-comps.ensures.some) in
    let some : 0 < c.args.place = omega (arith, c.if-place-eq0.false) in
    given-push c.args.lists.now c.push-2.new.self r.values (values_by rows c.args.place) c.in_ok-push-2.ensures.ok (row-there rows c.args.place r some c.row.ensures.row one)
