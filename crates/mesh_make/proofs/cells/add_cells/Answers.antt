use Rattle.std.proofs.Common.{◌≡◌, ◌*◌, ◌/◌, ◌<◌, [], ◌∷◌, ◌++◌, take, length, sym, ap, ap₂, ◌∙◌, subst, arith}
use Rattle.std.proofs.Math.Seq.{take-length}
use Rattle.mesh_defs.specs.Mesh.{Mesh}
use Rattle.input_defs.specs.Generated.{layers, cuts, made}
use Rattle.input_laws.proofs.made_laws.Made.{cells-count, few-cells}
use Rattle.mesh_make.specs.Spots.{partly, grid_point}
use Rattle.mesh_make.proofs.Listed.{piece-below, next-cell}
use Rattle.mesh_make.proofs.cells.add_cells.Goals as goal

pub overflow_mul-j-end : goal.overflow_mul-j-end
overflow_mul-j-end c =
    let few = few-cells c.args.kind c.args.n c.requires.few in
    let same = ap₂ (λ a b. a * b) c.spot_count.ensures c.cut_count-each.ensures in
    record { fits = omega (arith, few, same) }

pub add_cell-requires : goal.add_cell-requires
add_cell-requires c =
    let low : c.loop-j.j < layers c.args.kind c.args.n * (c.args.n * c.args.n) * length (cuts c.args.kind) = subst (λ k. c.loop-j.j < k) (ap₂ (λ a b. a * b) c.spot_count.ensures c.cut_count-each.ensures) c.loop-j-test.true in
    let spot : c.loop-j.j / c.cut_count-each.result < layers c.args.kind c.args.n * (c.args.n * c.args.n) = piece-below c.args.kind c.cut_count-each.result (layers c.args.kind c.args.n * (c.args.n * c.args.n)) c.loop-j.j c.cut_count-each.ensures low in
    let next = next-cell c.args.kind c.args.n c.loop-j.j c.cut_count-each.result c.loop-j.builder (grid_point c.of.result) c.corners-corners.result c.deref.result.now c.poly_of_kind.result c.requires.some c.requires.few c.cut_count-each.ensures low
    c.loop-j.invariant (c.of.ensures.spot (layers c.args.kind c.args.n) spot) c.corners-corners.ensures (c.deref.ensures.value ∙ c.in_ok-pick.ensures) c.poly_of_kind.ensures in
    record { few = next.few; sound = next.sound; fresh = next.fresh }

pub loop-j-preserved : goal.loop-j-preserved
loop-j-preserved c =
    let low : c.loop-j.j < layers c.args.kind c.args.n * (c.args.n * c.args.n) * length (cuts c.args.kind) = subst (λ k. c.loop-j.j < k) (ap₂ (λ a b. a * b) c.spot_count.ensures c.cut_count-each.ensures) c.loop-j-test.true in
    let spot : c.loop-j.j / c.cut_count-each.result < layers c.args.kind c.args.n * (c.args.n * c.args.n) = piece-below c.args.kind c.cut_count-each.result (layers c.args.kind c.args.n * (c.args.n * c.args.n)) c.loop-j.j c.cut_count-each.ensures low in
    let next = next-cell c.args.kind c.args.n c.loop-j.j c.cut_count-each.result c.loop-j.builder (grid_point c.of.result) c.corners-corners.result c.deref.result.now c.poly_of_kind.result c.requires.some c.requires.few c.cut_count-each.ensures low
    c.loop-j.invariant (c.of.ensures.spot (layers c.args.kind c.args.n) spot) c.corners-corners.ensures (c.deref.ensures.value ∙ c.in_ok-pick.ensures) c.poly_of_kind.ensures in
    c.in_ok-add_cell.ensures.ok
    ∙ ap (λ (m : Mesh). record m { cells = m.cells ++ record { poly = c.poly_of_kind.result; vertices = c.deref.result.now } ∷ [] }) c.loop-j.invariant
    ∙ ap (partly c.args.kind c.args.n (made c.args.kind c.args.n).at) (sym next.more)

pub returns : goal.returns
returns c =
    let same = ap₂ (λ a b. a * b) c.spot_count.ensures c.cut_count-each.ensures in
    let all : c.loop-j.j ≡ length (made c.args.kind c.args.n).cells = omega (arith, cells-count c.args.kind c.args.n, same) in
    c.loop-j.invariant ∙ ap (partly c.args.kind c.args.n (made c.args.kind c.args.n).at) (ap (λ k. take k (made c.args.kind c.args.n).cells) all ∙ take-length (made c.args.kind c.args.n).cells)
