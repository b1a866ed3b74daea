use Rattle.std.proofs.Common.{◌<◌, [], length, subst, sym, arith, rules}
use Rattle.dist_seed.specs.section_rows.Last.{HasLastRows}
use Rattle.dist_seed.proofs.section_rows.LastRows.{last-none, last-more, last-all, row-within}
use Rattle.dist_seed.proofs.section_rows.tables.last_rows.Goals as goal

pub loop-i-init : goal.loop-i-init
loop-i-init c = subst (HasLastRows [] c.args.count) (sym (c.in_ok-places.ensures.items_if_clones_equal (λ y e. e))) (last-none c.args.count)

pub index_mut-requires : goal.index_mut-requires
index_mut-requires c =
    let low : c.row-number.result.0 < c.args.count = row-within c.args.rows.now.rows c.args.count c.loop-i.i _ c.row-number.ensures.row c.requires in
    let there : c.row-number.result.0 < length c.loop-i.places.items = omega (arith, c.loop-i.invariant.many) in
    search rules

pub loop-i-preserved : goal.loop-i-preserved
loop-i-preserved c =
    let rows = c.args.rows.now.rows in
    let low : c.row-number.result.0 < c.args.count = row-within rows c.args.count c.loop-i.i _ c.row-number.ensures.row c.requires in
    last-more rows c.loop-i.i _ c.args.count c.loop-i.places.items c.row-number.ensures.row low c.loop-i.invariant
