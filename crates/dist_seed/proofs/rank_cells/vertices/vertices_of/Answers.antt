use Rattle.std.proofs.Common.{◌≡◌, ℕ, Bool, false, length, get_or, take, ap, ◌∙◌, arith}
use Rattle.std.proofs.lemmas.List.{take_all}
use Rattle.dist_seed.specs.rank_cells.Seen.{some_has}
use Rattle.dist_seed.proofs.rank_cells.Placed.{seen-filter}
use Rattle.dist_seed.proofs.rank_cells.vertices.vertices_of.Goals as goal

pub returns : goal.returns
returns c =
    let m = c.args.mesh.now in
    let cells = c.args.cells.now in
    let all : take c.loop-c.c-index cells ≡ cells = take_all c.loop-c.c-index cells (omega (arith, c.loop-c-test.false)) in
    let seen : ℕ → Bool = λ v. get_or c.deref.result.now v false in
    c.in_ok-seen_numbers.ensures
    ∙ seen-filter seen (some_has m cells) (length c.deref.result.now) (length m.at) (ap length c.deref.ensures.value ∙ c.loop-c.invariant.many)
    (λ v low. ap (λ l. get_or l v false) c.deref.ensures.value ∙ c.loop-c.invariant.each v low ∙ ap (λ l. some_has m l v) all)
