-- How ranks tell each other the order of vertices, step by step, over what they have.
use Rattle.std.specs.Prelude.{◌≡◌, ℕ, ◌+◌, ◌-◌, ◌==◌, if◌then◌else◌, nat_lt, List, [], ◌++◌, length, map, get_or}
use Rattle.plain_lists.specs.Lists.{below}
use Rattle.mesh_defs.specs.Points.{Sight}
use Rattle.sf_defs.specs.declared.Op.TheVariants.{Max}
use Rattle.sf_defs.specs.Forest.{Forest}
use Rattle.sf_ops.specs.Asked.{asks_of, words_of, AreRootValues}
use Rattle.sf_ops.specs.Copies.{AreCopies}
use Rattle.sf_ops.specs.Folds.{AreFolds}
use Rattle.rank_defs.specs.Spread.{SharedPart, PlainShared}
use Rattle.local_points.specs.Cells.{sight_at}
use Rattle.local_points.specs.Points.{faces_among, edges_among}
use Rattle.rank_chart_laws.specs.meeting_laws.Sets.{filled}
use Rattle.rank_chart_laws.specs.key_laws.Places.{first_face, face_count, edge_count}
use Rattle.rank_chart_laws.specs.key_laws.Words.{part}
use Rattle.rank_cones.specs.arrangement_laws.Orders.{order_number, in_order}

-- ---- what ranks offer

-- the face or the edge at a place of a rank, as the rank's own cells see it first
abbrev pub middle_at : SharedPart → ℕ → Sight
middle_at p i = sight_at (faces_among p.cells ++ edges_among p.cells) (i - first_face p)

-- What a rank offers for the point at a place: for a face or an edge whose key is the rank's own key of it, the order of its
-- vertices among the rising ones; else nothing, which is 0.
unfoldable pub offer : SharedPart → ℕ → ℕ → ℕ
offer p key i =
    if nat_lt i (first_face p) then 0
    else if (middle_at p i).key == key then order_number (filled (get_or p.sets i [])) (filled (middle_at p i).arrangement)
    else 0

-- for all its points, where these are the keys
abbrev pub rank_offers : SharedPart → List ℕ → List ℕ
rank_offers p keys = map (λ i. offer p (get_or keys i 0) i) (below (length p.sets))

-- the same of all ranks
unfoldable pub offers : PlainShared → List (List ℕ) → List (List ℕ)
offers s keys = map (λ r. rank_offers (part s r) (get_or keys r [])) (below (length s.parts))

-- ---- what they hear

-- what a reduction by Max to the roots of a forest and a broadcast to the leaves make of words: at each copy of a point the
-- greatest word of all copies
pub record AreGreatest (f : Forest) (words greatest : List (List ℕ)) : Type 0 where
  pub roots : List (List ℕ)
  pub shape : AreRootValues f roots
  pub folds : AreFolds (asks_of f Max words) (words_of words) (words_of roots)
  pub copies : AreCopies f roots roots greatest
  pub same : map length greatest ≡ map length roots

-- of a rank's faces and then of its edges the vertices in these orders
abbrev pub ordered_by : SharedPart → List ℕ → List (List ℕ)
ordered_by p orders = map (λ k. in_order (filled (get_or p.sets (first_face p + k) [])) (get_or orders (first_face p + k) 0)) (below (face_count p + edge_count p))

-- the same of all ranks
unfoldable pub all_ordered : PlainShared → List (List ℕ) → List (List (List ℕ))
all_ordered s orders = map (λ r. ordered_by (part s r) (get_or orders r [])) (below (length s.parts))
