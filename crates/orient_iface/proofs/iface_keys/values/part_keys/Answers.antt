use Rattle.std.proofs.Common.{◌≡◌, ℕ, ◌*◌, ◌++◌, ap, ◌∙◌, map, refl}
use Rattle.plain_lists.proofs.Each.{all_from}
use Rattle.plain_lists.proofs.Filters.{map_map_same}
use Rattle.mesh_defs.specs.Mesh.{Cell}
use Rattle.mesh_defs.specs.Points.{Sight}
use Rattle.dist_state.specs.scatter_state.Parts.{number_of}
use Rattle.rank_chart_laws.specs.key_laws.Places.{part_keys}
use Rattle.rank_chart_laws.specs.key_laws.Words.{part}
use Rattle.orient_iface.proofs.iface_keys.values.part_keys.Goals as goal

pub returns : goal.returns
unfolding part_keys
returns c =
    let first = c.in_ok-push_cells.ensures ∙ (λ i. c.in_ok-keys.ensures.items i ++ cells i) in
    let second = c.in_ok-push_vertices.ensures ∙ (λ i. first i ++ c.vertices.ensures i) in
    let third = c.in_ok-push_faces.ensures ∙ (λ i. second i ++ map (λ (s : Sight). s.key) (c.local.ensures i).faces) in
    c.in_ok-push_edges.ensures ∙ (λ i. third i ++ map (λ (s : Sight). s.key) (c.local-2.ensures i).edges)
  where
    cells : map (λ c. 64 * c) c.cells.result.now ≡ map (λ (c : ℕ × Cell). 64 * c.0) (part c.args.shared.now c.args.rank).cells
    cells = ap (map (λ c. 64 * c)) c.cells.ensures ∙ map_map_same (λ c. 64 * c) number_of (λ (c : ℕ × Cell). 64 * c.0) (part c.args.shared.now c.args.rank).cells (all_from (λ (c : ℕ × Cell). 64 * number_of c ≡ 64 * c.0) (λ c. refl) (part c.args.shared.now c.args.rank).cells)
