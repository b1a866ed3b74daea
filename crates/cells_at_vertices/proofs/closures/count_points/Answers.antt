use Rattle.cells_at_vertices.proofs.Cells.{counted-fits}
use Rattle.cells_at_vertices.proofs.closures.count_points.Goals as goal

pub overflow_add-index_mut : goal.overflow_add-index_mut
overflow_add-index_mut c =
    let entries = c.args.closure.now in
    let before = c.args.counts.now.items in
    record { fits = counted-fits entries before c.loop-entry.counts.items c.loop-entry.entry-index c.index_mut.result.now _ c.loop-entry-test.true c.requires.within c.index_mut.ensures.value c.loop-entry.invariant c.requires.once c.requires.low }
