use Rattle.std.proofs.Common.{◌≡◌, ◌<◌, ℕ, List, length, arith}
use Rattle.std.specs.Prelude.{flat_map}
use Rattle.plain_lists.specs.Lists.{below}
use Rattle.walk_defs.specs.step_defs.Points.{owned_by}
use Rattle.walk_defs.specs.step_defs.Steps.{plain_ghosts}
use Rattle.step_report.specs.Ghosts.{ghost_text}
use Rattle.step_report.proofs.Going.{going-next, going-stop, below-more}
use Rattle.step_report.proofs.ghosts.write_ghosts.Goals as goal

pub returns-in_err-write_ghosts_of : goal.returns-in_err-write_ghosts_of
unfolding plain_ghosts
returns-in_err-write_ghosts_of g c =
    let text : ℕ → List ℕ = λ o. ghost_text c.args.rank o (length (owned_by o c.args.local.now)) in
    let low : c.loop-owner.owner < 64 = omega arith in
    let count = c.count_owners-counts.ensures.each c.loop-owner.owner low in
    going-stop (λ (k : ℕ). flat_map text (below k)) text (below-more text) c.loop-owner.owner c.args.ranks c.from_residual.result c.from_residual.ensures.1 (omega arith) c.loop-owner.invariant
    (rw count at c.in_err-write_ghosts_of.ensures)

pub loop-owner-preserved : goal.loop-owner-preserved
loop-owner-preserved g c =
    let text : ℕ → List ℕ = λ o. ghost_text c.args.rank o (length (owned_by o c.args.local.now)) in
    let low : c.loop-owner.owner < 64 = omega arith in
    let count = c.count_owners-counts.ensures.each c.loop-owner.owner low in
    going-next (λ (k : ℕ). flat_map text (below k)) text (below-more text) c.loop-owner.owner c.loop-owner.invariant (rw count at c.in_ok-write_ghosts_of.ensures)

pub returns : goal.returns
unfolding plain_ghosts
returns g c =
    let all : c.loop-owner.owner ≡ c.args.ranks = omega arith in
    rw all at c.loop-owner.invariant
