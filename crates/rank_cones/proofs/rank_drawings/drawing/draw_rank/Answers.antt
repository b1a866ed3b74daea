use Rattle.rank_cones.proofs.rank_drawings.AtHand.{part-there, keys-there, cells-few, tops-within, keys-long, lists-long, held-is, is-rank}
use Rattle.rank_cones.proofs.rank_drawings.drawing.draw_rank.Goals as goal

pub cells-requires : goal.cells-requires
cells-requires c = part-there c.args.keys.now c.requires.told

pub vertices-vertices-requires : goal.vertices-vertices-requires
vertices-vertices-requires c = part-there c.args.keys.now c.requires.told

pub local-local-requires : goal.local-local-requires
local-local-requires c = part-there c.args.keys.now c.requires.told

pub bounds-keys-rank : goal.bounds-keys-rank
bounds-keys-rank c = keys-there c.args.keys.now c.requires.told

pub split_at-requires : goal.split_at-requires
split_at-requires c = tops-within c.args.keys.now c.requires.told c.cells.ensures c.vertices-vertices.ensures c.deref.ensures.value c.index-keys-rank.is

pub held_points-requires-clause-keys : goal.held_points-requires-clause-keys
held_points-requires-clause-keys c = keys-long c.args.keys.now c.requires.told c.cells.ensures c.vertices-vertices.ensures c.deref.ensures.value c.index-keys-rank.is c.local-local.ensures c.split_at.ensures.back c.deref-2.ensures.value

pub held_points-requires-clause-arrangements : goal.held_points-requires-clause-arrangements
held_points-requires-clause-arrangements c = lists-long c.args.keys.now c.requires.told c.cells.ensures c.vertices-vertices.ensures c.deref.ensures.value c.index-keys-rank.is c.local-local.ensures c.split_at.ensures.back c.deref-2.ensures.value

pub invariant_of-cells : goal.invariant_of-cells
invariant_of-cells c = record { inside = part-there c.args.keys.now c.requires.told; few = cells-few c.args.keys.now c.requires.told }

pub rank_plex-requires : goal.rank_plex-requires
rank_plex-requires c =
    let held = held-is c.args.keys.now c.requires.told c.cells.ensures c.vertices-vertices.ensures c.deref.ensures.value c.index-keys-rank.is c.local-local.ensures c.split_at.ensures.back c.deref-2.ensures.value c.in_ok-held.ensures.faces c.in_ok-held.ensures.edges in
    (c.requires.m, c.requires.n, c.requires.a, c.args.rank, is-rank c.args.keys.now c.requires.told c.requires.dim_is c.vertices-vertices.ensures c.local-local.ensures held)

pub returns : goal.returns
returns c = λ m dofs a n told dim_is.
    let held = held-is c.args.keys.now told c.cells.ensures c.vertices-vertices.ensures c.deref.ensures.value c.index-keys-rank.is c.local-local.ensures c.split_at.ensures.back c.deref-2.ensures.value c.in_ok-held.ensures.faces c.in_ok-held.ensures.edges in
    record { held = held; drawn = c.in_ok-drawn.ensures m n a c.args.rank (is-rank c.args.keys.now told dim_is c.vertices-vertices.ensures c.local-local.ensures held) }
