use Rattle.std.proofs.Common.{◌≡◌, ℕ, List, map, length, Vec, Global, sym, ap, ap₂, ◌∙◌, subst}
use Rattle.plain_lists.specs.Lists.{below}
use Rattle.plain_lists.specs.Vectors.{lists_of}
use Rattle.sf_defs.specs.Forest.{IsForest}
use Rattle.rank_defs.specs.Spread.{PlainDist, IsDist}
use Rattle.rank_chart_laws.specs.moved_laws.Moves.{moved_forest}
use Rattle.rank_chart_laws.specs.moved_laws.Sames.{all_moves}
use Rattle.orient_iface.specs.moved_points.Fitting.{FitMoves}
use Rattle.dist_state.specs.Whole.{IsWholeDist}
use Rattle.orient_iface.specs.dist_assembly.Drawn.{drawn_moves, FitDrawings}
use Rattle.orient_iface.specs.dist_assembly.Ranks.{AreDrawn}
use Rattle.orient_iface.proofs.dist_assembly.AllRanks.{drawings-fit, moves-all, moves-fit, dist-is, dist-whole}
use Rattle.orient_iface.proofs.dist_assembly.whole.assemble.Goals as goal

pub all_moves-requires : goal.all_moves-requires
all_moves-requires c =
    let some = c.requires in
    subst (FitDrawings c.args.shared) (sym c.deref.ensures.value) (drawings-fit c.args.shared c.args.drawings.items (lists_of c.args.keys.items) some.m some.dofs some.a some.n some.are)

pub moved_forest-requires : goal.moved_forest-requires
moved_forest-requires c =
    let s = c.args.shared in
    let some = c.requires in
    let all : lists_of c.deref-2.result.now ≡ all_moves some.m some.a some.n = ap (λ (vs : List (Vec ℕ Global)). lists_of vs) c.deref-2.ensures.value ∙ c.in_ok-moves.ensures ∙ ap (λ ds. map (drawn_moves s ds) (below (length s.parts))) c.deref.ensures.value ∙ moves-all s c.args.drawings.items (lists_of c.args.keys.items) some.m some.dofs some.a some.n some.are in
    let fit = moves-fit s some.m some.dofs some.a some.n some.are.shared (subst IsForest c.forest-forest.ensures c.ranks-ranks.ensures.right) in
    subst (λ moves. FitMoves moves c.forest-forest.result.now) (sym all) (subst (FitMoves (all_moves some.m some.a some.n)) (sym c.forest-forest.ensures) fit)

pub of-requires : goal.of-requires
of-requires c =
    let s = c.args.shared in
    let some = c.requires in
    let all : lists_of c.deref-2.result.now ≡ all_moves some.m some.a some.n = ap (λ (vs : List (Vec ℕ Global)). lists_of vs) c.deref-2.ensures.value ∙ c.in_ok-moves.ensures ∙ ap (λ ds. map (drawn_moves s ds) (below (length s.parts))) c.deref.ensures.value ∙ moves-all s c.args.drawings.items (lists_of c.args.keys.items) some.m some.dofs some.a some.n some.are in
    let moved = c.in_ok-points.ensures ∙ ap₂ moved_forest all c.forest-forest.ensures in
    let held = c.in_ok-locals.ensures some.m some.dofs some.a some.n (subst (λ (vs : List (Vec ℕ Global)). AreDrawn s c.args.drawings.items (lists_of vs) some.m some.dofs some.a some.n) (sym c.deref-3.ensures.value) some.are) in
    subst IsWholeDist (λ i. record { cells = sym c.whole.ensures i; overlap = 0; sections = sym c.sections.ensures i; points = c.in_ok-points.points; locals = c.in_ok-locals.locals.items })
    (dist-whole s some.m some.dofs some.a some.n some.are.shared c.in_ok-points.points c.in_ok-locals.locals.items moved held)

pub returns : goal.returns
returns c m dofs a n are =
    let s = c.args.shared in
    let all : lists_of c.deref-2.result.now ≡ all_moves m a n = ap (λ (vs : List (Vec ℕ Global)). lists_of vs) c.deref-2.ensures.value ∙ c.in_ok-moves.ensures ∙ ap (λ ds. map (drawn_moves s ds) (below (length s.parts))) c.deref.ensures.value ∙ moves-all s c.args.drawings.items (lists_of c.args.keys.items) m dofs a n are in
    let moved = c.in_ok-points.ensures ∙ ap₂ moved_forest all c.forest-forest.ensures in
    let held = c.in_ok-locals.ensures m dofs a n (subst (λ (vs : List (Vec ℕ Global)). AreDrawn s c.args.drawings.items (lists_of vs) m dofs a n) (sym c.deref-3.ensures.value) are) in
    let whole : c.of.result ≡ record { cells = s.whole; overlap = 0; sections = s.sections; points = c.in_ok-points.points; locals = c.in_ok-locals.locals.items } =
    c.of.ensures ∙ (λ i. record { cells = c.whole.ensures i; overlap = 0; sections = c.sections.ensures i; points = c.in_ok-points.points; locals = c.in_ok-locals.locals.items }) in
    subst (λ (d : PlainDist). IsDist d m dofs a n 0) (sym whole) (dist-is s m dofs a n are.shared c.in_ok-points.points c.in_ok-locals.locals.items moved held)
