use Rattle.std.proofs.Common.{◌<◌, ◌∙◌, List, Option, map, ap, sym, subst, option_map}
use Rattle.std.specs.Prelude.{filter_map}
use Rattle.std.specs.List.{AllByRecursion}
use Rattle.std.proofs.lemmas.List.{take_all}
use Rattle.plex_base.specs.declared.key.PointKey.{PointKey}
use Rattle.orient_iface.specs.dist_assembly.Drawn.{twist_in}
use Rattle.orient_iface.proofs.dist_assembly.TwistKeys.{twists-are, twists-low}
use Rattle.orient_iface.proofs.dist_assembly.twists.own_twists.Goals as goal

pub returns-clause-twists : goal.returns-clause-twists
returns-clause-twists c m a n are =
    let all = c.loop-drawing.invariant ∙ ap (map twist_in) (take_all c.loop-drawing.drawing-index c.args.drawings.now c.loop-drawing-test.false) in
    ap (map (option_map (λ (key : PointKey). key.0))) all ∙ twists-are m a n c.args.drawings.now are

pub returns-clause-low : goal.returns-clause-low
returns-clause-low c m a n right are =
    let all = c.loop-drawing.invariant ∙ ap (map twist_in) (take_all c.loop-drawing.drawing-index c.args.drawings.now c.loop-drawing-test.false) in
    subst (λ (own : List (Option PointKey)). AllByRecursion (λ k. k < 18446744073709551615) (filter_map (option_map (λ (key : PointKey). key.0)) own)) (sym all) (twists-low m right a n c.args.drawings.now are)
