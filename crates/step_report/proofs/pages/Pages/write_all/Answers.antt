use Rattle.std.proofs.Common.{◌≡◌, ◌<◌, ℕ, List, length, arith}
use Rattle.std.specs.Prelude.{flat_map}
use Rattle.plain_lists.specs.Lists.{below}
use Rattle.step_report.specs.Conditions.{no_local, local_at}
use Rattle.step_report.specs.Pages.{lines_on}
use Rattle.step_report.proofs.Going.{going-next, going-stop, below-more, texts-by_places}
use Rattle.step_report.proofs.pages.Pages.write_all.Goals as goal

pub returns-in_err-write_on : goal.returns-in_err-write_on
returns-in_err-write_on g c =
    let d = c.args.self.now.dist.now in
    let text : ℕ → List ℕ = λ r. lines_on c.args.kind c.args.self.now (r, local_at d r) in
    let low : c.loop-rank.rank < length d.locals = omega arith in
    let whole = texts-by_places (lines_on c.args.kind c.args.self.now) d.locals no_local in
    rw whole (going-stop (λ (k : ℕ). flat_map text (below k)) text (below-more text) c.loop-rank.rank (length d.locals) c.from_residual.result c.from_residual.ensures.1 low c.loop-rank.invariant c.in_err-write_on.ensures)

pub loop-rank-preserved : goal.loop-rank-preserved
loop-rank-preserved g c =
    let d = c.args.self.now.dist.now in
    let text : ℕ → List ℕ = λ r. lines_on c.args.kind c.args.self.now (r, local_at d r) in
    going-next (λ (k : ℕ). flat_map text (below k)) text (below-more text) c.loop-rank.rank c.loop-rank.invariant c.in_ok-write_on.ensures

pub returns : goal.returns
returns g c =
    let d = c.args.self.now.dist.now in
    let all : c.loop-rank.rank ≡ length d.locals = omega arith in
    let whole = texts-by_places (lines_on c.args.kind c.args.self.now) d.locals no_local in
    rw whole (rw all at c.loop-rank.invariant)
