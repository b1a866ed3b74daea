use Rattle.std.proofs.Common.{◌≡◌, ◌+◌, List, take, get_or, ◌++◌, [], ◌∷◌, length, ap, sym, ◌∙◌, arith}
use Rattle.std.specs.Prelude.{ℤ}
use Rattle.std.proofs.lemmas.List.{take_more}
use Rattle.std.proofs.lemmas.Option.{get_or_from_slice_get, slice_get_within}
use Rattle.dist_state.specs.shared_state.Points.{shared_at}
use Rattle.orient_iface.proofs.dist_assembly.words.coordinates.Goals as goal

pub overflow_cast-count : goal.overflow_cast-count
overflow_cast-count c = omega (arith, c.requires.few, ap length c.vertices.ensures)

pub loop-i-preserved : goal.loop-i-preserved
loop-i-preserved c =
    let at : List (List ℤ) = (shared_at c.args.shared.now.parts c.args.rank).at in
    let read = get_or_from_slice_get at c.loop-i.i c.at.result [] c.at.ensures in
    let more : take c.loop-i.i at ++ get_or at c.loop-i.i [] ∷ [] ≡ take (c.loop-i.i + 1) at = sym (take_more at c.loop-i.i [] (slice_get_within at c.loop-i.i c.at.result c.at.ensures)) in
    ◌∙◌ {A = List (List ℤ)} c.in_ok-push.ensures.items (◌∙◌ {A = List (List ℤ)} (λ j. c.loop-i.invariant j ++ sym read j ∷ []) more)
