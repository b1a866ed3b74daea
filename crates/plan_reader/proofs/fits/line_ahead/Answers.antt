use Rattle.std.proofs.Common.{sym, ap, ◌∙◌}
use Rattle.std.specs.Prelude.{option_map}
use Rattle.input_defs.specs.Ahead.{is_ahead}
use Rattle.plan_reader.specs.Reading.{move_line_view}
use Rattle.plan_reader.proofs.AheadLemmas.{found-here, found-later, found-nowhere}
use Rattle.plan_reader.proofs.fits.line_ahead.Goals as goal

pub returns-then-is_ahead : goal.returns-then-is_ahead
returns-then-is_ahead c =
    sym (ap (option_map (λ m. m.0)) (c.loop-i.invariant ∙ found-here move_line_view (is_ahead c.args.ranks) c.args.moves.now c.loop-i.i c.index-moves-i.result c.loop-i-test.true c.index-moves-i.is (sym c.is_ahead.ensures ∙ c.if-is_ahead.true)))

pub loop-i-preserved : goal.loop-i-preserved
loop-i-preserved c =
    c.loop-i.invariant ∙ found-later move_line_view (is_ahead c.args.ranks) c.args.moves.now c.loop-i.i c.index-moves-i.result c.loop-i-test.true c.index-moves-i.is (sym c.is_ahead.ensures ∙ c.if-is_ahead.false)

pub returns : goal.returns
returns c = sym (ap (option_map (λ m. m.0)) (c.loop-i.invariant ∙ found-nowhere move_line_view (is_ahead c.args.ranks) c.args.moves.now c.loop-i.i c.loop-i-test.false))
