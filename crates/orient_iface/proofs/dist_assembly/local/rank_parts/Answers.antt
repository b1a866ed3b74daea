use Rattle.std.proofs.Common.{◌<◌, length, map, get_or, sym, ap, ◌∙◌, subst}
use Rattle.std.specs.List.{AllByRecursion}
use Rattle.orient_iface.specs.dist_assembly.Drawn.{told_owner}
use Rattle.orient_iface.proofs.dist_assembly.OneRank.{rank-fits, local-is}
use Rattle.orient_iface.proofs.dist_assembly.TwistKeys.{whole-drawn}
use Rattle.orient_iface.proofs.dist_assembly.local.rank_parts.Goals as goal

pub sources_of-requires-clause-order : goal.sources_of-requires-clause-order
sources_of-requires-clause-order c = (rank-fits c.args.shared.now c.args.rank c.args.drawing c.args.keys.now c.args.moves.now c.requires).order

pub sources_of-requires-clause-few : goal.sources_of-requires-clause-few
sources_of-requires-clause-few c = (rank-fits c.args.shared.now c.args.rank c.args.drawing c.args.keys.now c.args.moves.now c.requires).few

pub keys_from-requires : goal.keys_from-requires
keys_from-requires c = subst (AllByRecursion (λ i. i < length c.args.keys.now)) (sym (c.deref.ensures.value ∙ c.in_ok-sources.ensures)) (rank-fits c.args.shared.now c.args.rank c.args.drawing c.args.keys.now c.args.moves.now c.requires).read

pub owners_from-requires : goal.owners_from-requires
owners_from-requires c = (rank-fits c.args.shared.now c.args.rank c.args.drawing c.args.keys.now c.args.moves.now c.requires).roots

pub moved_labels-requires-clause-rank : goal.moved_labels-requires-clause-rank
moved_labels-requires-clause-rank c = (rank-fits c.args.shared.now c.args.rank c.args.drawing c.args.keys.now c.args.moves.now c.requires).rank

pub moved_labels-requires-clause-four : goal.moved_labels-requires-clause-four
moved_labels-requires-clause-four c = (rank-fits c.args.shared.now c.args.rank c.args.drawing c.args.keys.now c.args.moves.now c.requires).four

pub moved_labels-requires-clause-marks : goal.moved_labels-requires-clause-marks
moved_labels-requires-clause-marks c = (rank-fits c.args.shared.now c.args.rank c.args.drawing c.args.keys.now c.args.moves.now c.requires).marks

pub moved_labels-requires-clause-few : goal.moved_labels-requires-clause-few
moved_labels-requires-clause-few c = (rank-fits c.args.shared.now c.args.rank c.args.drawing c.args.keys.now c.args.moves.now c.requires).few

pub moved_fields-requires-clause-rank : goal.moved_fields-requires-clause-rank
moved_fields-requires-clause-rank c = (rank-fits c.args.shared.now c.args.rank c.args.drawing c.args.keys.now c.args.moves.now c.requires).rank

pub moved_fields-requires-clause-points : goal.moved_fields-requires-clause-points
moved_fields-requires-clause-points c = (rank-fits c.args.shared.now c.args.rank c.args.drawing c.args.keys.now c.args.moves.now c.requires).fields

pub moved_fields-requires-clause-order : goal.moved_fields-requires-clause-order
moved_fields-requires-clause-order c = (rank-fits c.args.shared.now c.args.rank c.args.drawing c.args.keys.now c.args.moves.now c.requires).order

pub moved_fields-requires-clause-few : goal.moved_fields-requires-clause-few
moved_fields-requires-clause-few c = (rank-fits c.args.shared.now c.args.rank c.args.drawing c.args.keys.now c.args.moves.now c.requires).few

pub coordinates-requires-clause-rank : goal.coordinates-requires-clause-rank
coordinates-requires-clause-rank c = (rank-fits c.args.shared.now c.args.rank c.args.drawing c.args.keys.now c.args.moves.now c.requires).rank

pub coordinates-requires-clause-few : goal.coordinates-requires-clause-few
coordinates-requires-clause-few c = (rank-fits c.args.shared.now c.args.rank c.args.drawing c.args.keys.now c.args.moves.now c.requires).few_vertices

pub coordinates-requires-clause-vertices : goal.coordinates-requires-clause-vertices
coordinates-requires-clause-vertices c = (rank-fits c.args.shared.now c.args.rank c.args.drawing c.args.keys.now c.args.moves.now c.requires).at

pub returns : goal.returns
returns c m dofs a n is =
    let s = c.args.shared.now in
    let keys = c.args.keys.now in
    local-is s m dofs a n is.shared c.args.rank is.rank c.args.moves.now is.moves_are keys is.keys_are _
    (whole-drawn m a c.args.rank c.args.drawing.drawn c.plex_of.result c.plex_of.ensures is.drawing.drawn)
    (c.in_ok-keys_from.ensures ∙ ap (map (λ i. get_or keys i 0)) (c.deref.ensures.value ∙ c.in_ok-sources.ensures))
    (c.in_ok-owners_from.ensures ∙ ap (map (told_owner s.forest c.args.rank)) (c.deref-2.ensures.value ∙ c.in_ok-sources.ensures))
    c.in_ok-moved_labels.ensures c.in_ok-moved_fields.ensures c.in_ok-coordinates.ensures
