use Rattle.std.proofs.Common.{◌<◌, ℕ, [], length, ap, sym, subst, ◌∙◌, arith}
use Rattle.std.proofs.lemmas.List.{get_or_default}
use Rattle.mesh_defs.specs.Mesh.{Cell}
use Rattle.plain_lists.proofs.Each.{all_at}
use Rattle.rank_chart_laws.specs.mark_laws.Sets.{filled, IsShort}
use Rattle.dist_state.specs.scatter_state.Parts.{cell_at}
use Rattle.dist_seed.specs.rank_marks.Own.{HasSets}
use Rattle.dist_seed.proofs.rank_marks.Sets.{sets-none, sets-more, sets-all}
use Rattle.dist_seed.proofs.rank_marks.cell_sets.CellSets.of.Goals as goal

pub set_on-requires : goal.set_on-requires
set_on-requires c =
    let cells = c.args.own.now.cells in
    let i = c.loop-i.i in
    let low : i < length cells = omega (arith, c.loop-i-test.true, c.len-i-end.ensures) in
    let short = all_at (λ (d : ℕ × Cell). IsShort d.1.vertices) cells i (cell_at [] 0) c.requires low in
    let count = ap length c.corners.ensures in
    omega (arith, short.few, count)

pub loop-i-init : goal.loop-i-init
loop-i-init c = subst (HasSets []) (sym c.new-sets.ensures.empty) sets-none

pub loop-i-preserved : goal.loop-i-preserved
loop-i-preserved c =
    let cells = c.args.own.now.cells in
    let i = c.loop-i.i in
    let low : i < length cells = omega (arith, c.loop-i-test.true, c.len-i-end.ensures) in
    let cell = cell_at cells i in
    sets-more cells i cell c.loop-i.sets.keys c.insert.new.self.keys c.set_on.result low (get_or_default cells i cell (cell_at [] 0) low) (c.set_on.ensures ∙ ap filled c.corners.ensures) c.loop-i.invariant c.in_ok-insert.ensures.keys

pub returns : goal.returns
returns c = sets-all c.args.own.now.cells c.loop-i.i c.loop-i.sets.keys (omega (arith, c.loop-i-test.false, c.len-i-end.ensures)) c.loop-i.invariant
