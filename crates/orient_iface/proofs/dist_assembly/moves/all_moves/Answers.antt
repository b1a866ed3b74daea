use Rattle.std.proofs.Common.{◌<◌, length, sym, ap, ◌∙◌, subst, arith}
use Rattle.std.proofs.lemmas.List.{get_or-map}
use Rattle.dist_state.specs.shared_state.Points.{shared_at}
use Rattle.rank_cones.specs.rank_drawings.Told.{PlainDrawing}
use Rattle.orient_iface.specs.dist_assembly.Drawn.{no_held, FitHeld}
use Rattle.orient_iface.proofs.dist_assembly.moves.all_moves.Goals as goal

pub rank_moves-requires-clause-fits : goal.rank_moves-requires-clause-fits
rank_moves-requires-clause-fits c =
    let drawing = c.index-drawings-rank.result in
    let low : c.loop-rank.rank < length c.args.shared.now.parts = omega (arith, c.loop-rank-test.true, c.ranks-rank-end.ensures.ranks) in
    let same = get_or-map (λ (d : PlainDrawing). d.held) c.args.drawings.now c.loop-rank.rank drawing no_held (omega (arith, low, c.requires.ranks)) ∙ sym (ap (λ (d : PlainDrawing). d.held) c.index-drawings-rank.is) ∙ sym c.held.ensures in
    subst (FitHeld (shared_at c.args.shared.now.parts c.loop-rank.rank)) same (c.requires.each c.loop-rank.rank low)
