use Rattle.std.proofs.Common.{◌≡◌, ◌+◌, ◌*◌, ◌<◌, [], ◌∷◌, ◌++◌, take, length, sym, ap, ◌∙◌, subst, arith}
use Rattle.std.proofs.Math.Seq.{take-length}
use Rattle.mesh_defs.specs.Mesh.{Mesh}
use Rattle.input_defs.specs.Generated.{layers, made}
use Rattle.input_laws.proofs.made_laws.Made.{points-count}
use Rattle.mesh_make.specs.Spots.{partly, grid_point}
use Rattle.mesh_make.proofs.Listed.{points-step}
use Rattle.mesh_make.proofs.cells.add_points.Goals as goal

pub loop-i-preserved : goal.loop-i-preserved
loop-i-preserved c =
    let kind = c.args.kind in
    let n = c.args.n in
    let at = (made c.args.kind c.args.n).at in
    let low : c.loop-i.i < layers c.args.kind (c.args.n + 1) * ((c.args.n + 1) * (c.args.n + 1)) = subst (λ k. c.loop-i.i < k) c.spot_count-i-end.ensures c.loop-i-test.true in
    let step = points-step c.args.kind c.args.n c.loop-i.i (grid_point c.of.result) low (c.of.ensures.spot (layers c.args.kind (c.args.n + 1)) low) in
    c.in_ok-add_vertex.ensures.ok
    ∙ ap (λ (m : Mesh). record m { at = m.at ++ c.coordinates.result ∷ [] }) c.loop-i.invariant
    ∙ ap (λ points. partly c.args.kind c.args.n points []) (ap (λ a. take c.loop-i.i (made c.args.kind c.args.n).at ++ a ∷ []) c.coordinates.ensures ∙ sym step)

pub returns : goal.returns
returns c =
    let all : c.loop-i.i ≡ length (made c.args.kind c.args.n).at = omega (arith, points-count c.args.kind c.args.n, c.spot_count-i-end.ensures) in
    c.loop-i.invariant ∙ ap (λ points. partly c.args.kind c.args.n points []) (ap (λ k. take k (made c.args.kind c.args.n).at) all ∙ take-length (made c.args.kind c.args.n).at)
