-- Worked rows: three triangles over three ranks, of which the last one has no cell: what each is given, and the round in which the
-- vertices find their owners.
use Rattle.std.proofs.Common.{◌≡◌, ℕ, List, [], ◌∷◌, map, ℤ, pos, negsuc, Some, None, refl, arith}
use Rattle.mesh_defs.specs.declared.Place.TheVariants.{Node, Element}
use Rattle.mesh_defs.specs.declared.Poly.TheVariants.{Triangle}
use Rattle.plain_lists.specs.Lists.{below, sorted}
use Rattle.mesh_defs.specs.Mesh.{Mesh, Cell, Mark, Row}
use Rattle.mesh_defs.specs.Points.{sights_of, contains}
use Rattle.mesh_defs.specs.Diagram.{stratum, strata, chart}
use Rattle.mesh_defs.specs.RightMesh.{IsRightMesh, AreCells}
use Rattle.mesh_defs.proofs.RightMeshes.{right-mesh}
use Rattle.plex_defs.specs.Fields.{row_values}
use Rattle.plex_defs.proofs.Meshes.{three_triangles}
use Rattle.sf_defs.specs.declared.Op.TheVariants.{Min}
use Rattle.sf_defs.specs.declared.Tag.TheVariants.{Free}
use Rattle.sf_defs.specs.declared.Ask.{Ask}
use Rattle.sf_defs.specs.declared.Turn.{Turn}
use Rattle.sf_defs.specs.Asks.{step}
use Rattle.sf_defs.specs.PrintedOrder.{fetched_before, stands_before, printed_order}
use Rattle.sf_defs.specs.Rounds.{Round, MeetsConditions, IsLegal, is_legal}
use Rattle.sf_defs.specs.Script.{scripted}
use Rattle.round_laws.proofs.Tests.{decides-conditions, decides-legal}
use Rattle.rank_defs.specs.Ranks.{IsRightAssignment, assigned, ranks_at, owner}
use Rattle.rank_defs.specs.Spread.{ScatterPart, scatter_part, plain_scatter}
use Rattle.rank_defs.proofs.RightRows.{right-assignment}
use Rattle.headline_laws.specs.seed_laws.Given.{vertices_of, owners_of, vertex_point, marks_on_cells, given}
use Rattle.headline_laws.specs.seed_laws.Asked.{before_owners, rank_vertices, holder_asks}

-- ---- the mesh and its ranks

abbrev triangle : ℕ → ℕ → ℕ → Cell
triangle a b c = record { poly = Triangle; vertices = a ∷ b ∷ c ∷ [] }

abbrev mark : ℕ → List ℕ → ℤ → Mark
mark dim vertices value = record { dim = dim; vertices = vertices; value = value }

abbrev row : ℕ → List ℤ → Row
row number values = record { number = number; values = values }

-- vertex v lies v units along a line
abbrev on_line : ℕ → List ℤ
on_line v = pos v ∷ pos 0 ∷ pos 0 ∷ []

-- Marks on an edge of the second triangle, on an edge of the first and the third, and on a vertex of all three; two rows at one
-- vertex, of which the later one holds, and one on a cell.
abbrev fan : Mesh
fan = record three_triangles {
  at = map on_line (below 5);
  marks = mark 1 (3 ∷ 0 ∷ []) (pos 4) ∷ mark 1 (1 ∷ 2 ∷ []) (pos 7) ∷ mark 0 (2 ∷ []) (negsuc 0) ∷ [];
  fields = record { on = Node; name = []; comps = 1; rows = row 3 (pos 5 ∷ []) ∷ row 3 (pos 6 ∷ []) ∷ [] } ∷ record { on = Element; name = []; comps = 1; rows = row 1 (pos 9 ∷ []) ∷ [] } ∷ [];
}

-- rank 0 has the first triangle, rank 1 the others, rank 2 none
abbrev fan_ranks : List ℕ
fan_ranks = 0 ∷ 1 ∷ 1 ∷ []

fan_is_right : IsRightMesh fan
unfolding sorted sights_of contains
fan_is_right = right-mesh fan refl

fan_ranks_are_right : IsRightAssignment fan 3 fan_ranks
fan_ranks_are_right = right-assignment fan 3 fan_ranks refl

-- the cells of rank 1 are cells of the mesh
cells_of_one : AreCells fan (assigned fan fan_ranks 1)
unfolding assigned
cells_of_one = ((1, omega arith, refl), ((2, omega arith, refl), tt))

-- ---- what each rank is given

abbrev parts_of_fan : List ScatterPart
parts_of_fan =
    record {
      cells = (0, triangle 0 1 2) ∷ [];
      vertices = 0 ∷ 1 ∷ 2 ∷ [];
      owners = 0 ∷ 0 ∷ 0 ∷ [];
      at = map on_line (0 ∷ 1 ∷ 2 ∷ []);
      marks = mark 1 (1 ∷ 2 ∷ []) (pos 7) ∷ mark 0 (2 ∷ []) (negsuc 0) ∷ [];
      rows = (None ∷ None ∷ None ∷ []) ∷ (None ∷ []) ∷ [];
    }
    ∷ record {
      cells = (1, triangle 0 2 3) ∷ (2, triangle 2 1 4) ∷ [];
      vertices = 0 ∷ 1 ∷ 2 ∷ 3 ∷ 4 ∷ [];
      owners = 0 ∷ 0 ∷ 0 ∷ 1 ∷ 1 ∷ [];
      at = map on_line (0 ∷ 1 ∷ 2 ∷ 3 ∷ 4 ∷ []);
      marks = mark 1 (3 ∷ 0 ∷ []) (pos 4) ∷ mark 1 (1 ∷ 2 ∷ []) (pos 7) ∷ mark 0 (2 ∷ []) (negsuc 0) ∷ [];
      rows = (None ∷ None ∷ None ∷ Some (pos 6 ∷ []) ∷ None ∷ []) ∷ (Some (pos 9 ∷ []) ∷ None ∷ []) ∷ [];
    }
    ∷ record { cells = []; vertices = []; owners = []; at = []; marks = []; rows = [] ∷ [] ∷ [] } ∷ []

-- by tests on the cells of each rank
given_by_cells : map (λ r. given fan fan_ranks (assigned fan fan_ranks r)) (below 3) ≡ parts_of_fan
unfolding sorted sights_of contains row_values assigned ranks_at owner vertices_of owners_of marks_on_cells
given_by_cells = refl

-- by the points of the whole mesh
given_by_points : (plain_scatter fan [] fan_ranks 3).parts ≡ parts_of_fan
unfolding sorted sights_of contains stratum strata chart row_values assigned ranks_at owner scatter_part plain_scatter
given_by_points = refl

-- ---- the round of the owners

abbrev min_with : ℕ → ℕ → Ask
min_with word value = record { word = word; op = Min; value = value }

abbrev turn : ℕ → ℕ → Turn
turn rank index = record { rank = rank; index = index }

abbrev asks_of_fan : List (List Ask)
asks_of_fan = map (λ v. min_with v 0) (0 ∷ 1 ∷ 2 ∷ []) ∷ map (λ v. min_with v 1) (0 ∷ 1 ∷ 2 ∷ 3 ∷ 4 ∷ []) ∷ [] ∷ []

-- one word above all ranks for each vertex, and an ask for each vertex that a rank has
words_of_fan : before_owners fan ≡ 64 ∷ 64 ∷ 64 ∷ 64 ∷ 64 ∷ []
unfolding before_owners
words_of_fan = refl

asked_of_fan : holder_asks fan fan_ranks 3 ≡ asks_of_fan
unfolding assigned vertices_of rank_vertices holder_asks
asked_of_fan = refl

may_ask : MeetsConditions (64 ∷ 64 ∷ 64 ∷ 64 ∷ 64 ∷ []) asks_of_fan
may_ask = (decides-conditions (64 ∷ 64 ∷ 64 ∷ 64 ∷ 64 ∷ []) asks_of_fan).0 refl

-- what each rank fetched, and the order at each vertex
abbrev round_of_fan : List (List ℕ) → List (List Turn) → Round
round_of_fan got order = record { tag = Free; before = 64 ∷ 64 ∷ 64 ∷ 64 ∷ 64 ∷ []; asks = asks_of_fan; got = got; after = 0 ∷ 0 ∷ 0 ∷ 1 ∷ 1 ∷ []; order = order }

-- rank 0 first, and rank 1 first
abbrev zero_first : Round
zero_first = round_of_fan ((64 ∷ 64 ∷ 64 ∷ []) ∷ (0 ∷ 0 ∷ 0 ∷ 64 ∷ 64 ∷ []) ∷ [] ∷ []) ((turn 0 0 ∷ turn 1 0 ∷ []) ∷ (turn 0 1 ∷ turn 1 1 ∷ []) ∷ (turn 0 2 ∷ turn 1 2 ∷ []) ∷ (turn 1 3 ∷ []) ∷ (turn 1 4 ∷ []) ∷ [])

abbrev one_first : Round
one_first = round_of_fan ((1 ∷ 1 ∷ 1 ∷ []) ∷ (64 ∷ 64 ∷ 64 ∷ 64 ∷ 64 ∷ []) ∷ [] ∷ []) ((turn 1 0 ∷ turn 0 0 ∷ []) ∷ (turn 1 1 ∷ turn 0 1 ∷ []) ∷ (turn 1 2 ∷ turn 0 2 ∷ []) ∷ (turn 1 3 ∷ []) ∷ (turn 1 4 ∷ []) ∷ [])

rounds_of_fan : map (scripted Free (64 ∷ 64 ∷ 64 ∷ 64 ∷ 64 ∷ []) asks_of_fan) ([] ∷ (1 ∷ 1 ∷ 1 ∷ []) ∷ []) ≡ zero_first ∷ one_first ∷ []
unfolding scripted printed_order stands_before fetched_before step
rounds_of_fan = refl

-- both are legal
zero_first_is_legal : IsLegal zero_first
unfolding is_legal printed_order stands_before fetched_before step
zero_first_is_legal = (decides-legal zero_first).0 refl

one_first_is_legal : IsLegal one_first
unfolding is_legal printed_order stands_before fetched_before step
one_first_is_legal = (decides-legal one_first).0 refl

-- so each vertex has its owner
owners_of_fan : map (λ v. owner fan fan_ranks (vertex_point v)) (below 5) ≡ 0 ∷ 0 ∷ 0 ∷ 1 ∷ 1 ∷ []
unfolding sorted sights_of contains ranks_at owner
owners_of_fan = refl
