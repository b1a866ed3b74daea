use Rattle.std.proofs.Common.{◌≡◌, ℕ, ◌<◌, List, map, length, take, drop, ap, sym, ◌∙◌, subst, refl, arith}
use Rattle.std.specs.List.{AllByRecursion}
use Rattle.std.proofs.lemmas.List.{length-map}
use Rattle.mesh_defs.specs.Points.{Sight}
use Rattle.rank_cones.specs.held_points.Order.{AreMoves}
use Rattle.rank_cones.specs.held_points.Held.{AreByKey, given, given_point, face_on, edge_on}
use Rattle.rank_cones.specs.held_points.Stored.{face_of, edge_of}
use Rattle.rank_cones.proofs.held_points.Orders.{order-low, order-long}
use Rattle.rank_cones.proofs.held_points.ByKeys.{by-key, face-key}
use Rattle.rank_cones.proofs.held_points.held.held_points.Goals as goal

pub faces_in-requires-clause-order : goal.faces_in-requires-clause-order
faces_in-requires-clause-order c = subst (AllByRecursion (λ k. k < length c.split_at.result.0.now)) (sym c.deref.ensures.value) (order-low c.split_at.result.0.now c.in_ok-face_order.face_order.items c.in_ok-face_order.ensures)

pub edges_in-requires-clause-order : goal.edges_in-requires-clause-order
edges_in-requires-clause-order c = subst (AllByRecursion (λ k. k < length c.split_at.result.1.now)) (sym c.deref-2.ensures.value) (order-low c.split_at.result.1.now c.in_ok-edge_order.edge_order.items c.in_ok-edge_order.ensures)

pub invariant_of-result : goal.invariant_of-result
invariant_of-result c =
    let faces = c.in_ok-faces_in.ensures in
    let edges = c.in_ok-edges_in.ensures in (
      omega (
        arith,
        ap length faces,
        length-map c.in_ok-faces_in.field-0.items face_of,
        length-map c.deref.result.now (given_point face_on c.split_at.result.0.now c.split_at-2.result.0.now),
        ap length c.deref.ensures.value,
        order-long c.split_at.result.0.now c.in_ok-face_order.face_order.items c.in_ok-face_order.ensures,
        c.split_at.ensures.front_len,
        c.faces-faces.ensures.few,
      ),
      omega (
        arith,
        ap length edges,
        length-map c.in_ok-edges_in.field-0.items edge_of,
        length-map c.deref-2.result.now (given_point edge_on c.split_at.result.1.now c.split_at-2.result.1.now),
        ap length c.deref-2.ensures.value,
        order-long c.split_at.result.1.now c.in_ok-edge_order.edge_order.items c.in_ok-edge_order.ensures,
        c.split_at.ensures.back_len,
        c.requires.keys,
        c.faces-faces.ensures.count,
        c.edges.ensures.few,
        c.edges.ensures.count,
      ),
    )

pub returns-clause-faces : goal.returns-clause-faces
returns-clause-faces c =
    let keys : List ℕ = c.split_at.result.0.now in
    let lists : List (List ℕ) = c.split_at-2.result.0.now in
    let order : List ℕ = c.in_ok-face_order.face_order.items in
    let moves : List ℕ = c.in_ok-moves_of.field-0.items in
    let went : AreMoves order moves = subst (λ o. AreMoves o moves) c.deref-3.ensures.value c.in_ok-moves_of.ensures in
    let points : map face_of c.in_ok-faces_in.field-0.items ≡ map (given_point face_on keys lists) order = c.in_ok-faces_in.ensures ∙ ap (map (given_point face_on keys lists)) c.deref.ensures.value in
    let by = by-key face_on face-key keys lists order moves c.in_ok-face_order.ensures went in
    let keys_are : keys ≡ take (length c.args.local.now.faces) c.args.keys.now = c.split_at.ensures.front ∙ ap (λ n. take n c.args.keys.now) c.faces-faces.ensures.count in
    let lists_are : lists ≡ take (length c.args.local.now.faces) c.args.arrangements.now = c.split_at-2.ensures.front ∙ ap (λ n. take n c.args.arrangements.now) c.faces-faces.ensures.count in
    subst (λ (own : List Sight). AreByKey own (map face_of c.in_ok-faces_in.field-0.items) moves) (λ i. given face_on (keys_are i) (lists_are i))
    (subst (λ (ps : List Sight). AreByKey (given face_on keys lists) ps moves) (sym points) by)

pub returns-clause-edges : goal.returns-clause-edges
returns-clause-edges c =
    let keys : List ℕ = c.split_at.result.1.now in
    let lists : List (List ℕ) = c.split_at-2.result.1.now in
    let order : List ℕ = c.in_ok-edge_order.edge_order.items in
    let moves : List ℕ = c.in_ok-moves_of-2.field-0.items in
    let went : AreMoves order moves = subst (λ o. AreMoves o moves) c.deref-4.ensures.value c.in_ok-moves_of-2.ensures in
    let points : map edge_of c.in_ok-edges_in.field-0.items ≡ map (given_point edge_on keys lists) order = c.in_ok-edges_in.ensures ∙ ap (map (given_point edge_on keys lists)) c.deref-2.ensures.value in
    let by = by-key edge_on (λ key four. refl) keys lists order moves c.in_ok-edge_order.ensures went in
    let keys_are : keys ≡ drop (length c.args.local.now.faces) c.args.keys.now = c.split_at.ensures.back ∙ ap (λ n. drop n c.args.keys.now) c.faces-faces.ensures.count in
    let lists_are : lists ≡ drop (length c.args.local.now.faces) c.args.arrangements.now = c.split_at-2.ensures.back ∙ ap (λ n. drop n c.args.arrangements.now) c.faces-faces.ensures.count in
    subst (λ (own : List Sight). AreByKey own (map edge_of c.in_ok-edges_in.field-0.items) moves) (λ i. given edge_on (keys_are i) (lists_are i))
    (subst (λ (ps : List Sight). AreByKey (given edge_on keys lists) ps moves) (sym points) by)
