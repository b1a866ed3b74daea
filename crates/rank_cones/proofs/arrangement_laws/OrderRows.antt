-- Orders of vertices that were worked out by hand.
use Rattle.std.proofs.Common.{◌≡◌, [], ◌∷◌, refl}
use Rattle.rank_chart_laws.specs.meeting_laws.Sets.{filled}
use Rattle.rank_cones.specs.arrangement_laws.Orders.{order_number, in_order}

-- a triangle on 2, 5 and 7 that its cell sees as 7, 2, 5: places 2, 0, 1 and 3
triangle : order_number (filled (2 ∷ 5 ∷ 7 ∷ [])) (filled (7 ∷ 2 ∷ 5 ∷ [])) ≡ 135
unfolding order_number
triangle = refl

triangle-back : in_order (filled (2 ∷ 5 ∷ 7 ∷ [])) 135 ≡ filled (7 ∷ 2 ∷ 5 ∷ [])
triangle-back = refl

-- an edge that is turned over: places 1, 0, 2 and 2
edge : order_number (filled (3 ∷ 8 ∷ [])) (filled (8 ∷ 3 ∷ [])) ≡ 74
unfolding order_number
edge = refl

edge-back : in_order (filled (3 ∷ 8 ∷ [])) 74 ≡ filled (8 ∷ 3 ∷ [])
edge-back = refl

-- a square that is seen as it rises: places 0, 1, 2 and 3
square : order_number (filled (0 ∷ 1 ∷ 4 ∷ 6 ∷ [])) (filled (0 ∷ 1 ∷ 4 ∷ 6 ∷ [])) ≡ 27
unfolding order_number
square = refl
