use Rattle.std.proofs.Common.{◌≡◌, length, sym, ap, ◌∙◌, arith}
use Rattle.std.specs.Prelude.{flat_map, fold}
use Rattle.plain_lists.specs.Lists.{below}
use Rattle.plex_defs.specs.Labels.{with_pair, label_of}
use Rattle.orient_iface.proofs.moved_points.Valued.{moved_pairs, pairs-more, all-moved}
use Rattle.orient_iface.proofs.moved_points.label.moved_label.Goals as goal

pub loop-p-preserved : goal.loop-p-preserved
loop-p-preserved c = c.in_ok-move_values.ensures ∙ ap (λ l. fold with_pair l (moved_pairs c.args.moves.now c.args.label.now c.loop-p.p)) c.loop-p.invariant ∙ sym (pairs-more c.args.moves.now c.args.label.now c.loop-p.p)

pub returns : goal.returns
returns c =
    let end : c.loop-p.p ≡ length c.args.moves.now = omega (arith, c.loop-p-test.false, c.loop-p.auto.p-end) in
    c.loop-p.invariant ∙ ap (λ n. label_of (flat_map (moved_pairs c.args.moves.now c.args.label.now) (below n))) end ∙ all-moved c.args.moves.now c.args.label.now (length c.args.moves.now) c.requires.points
