-- Worked rows: two and three triangles over ranks.
use Rattle.std.proofs.Common.{◌≡◌, ◌==◌, ℕ, List, [], ◌∷◌, map, flat_map, replicate, count_by, ℤ, pos, negsuc, refl}
use Rattle.mesh_defs.specs.Mesh.{Mesh, Cell}
use Rattle.mesh_defs.specs.declared.Poly.TheVariants.{Vertex, Segment, Triangle}
use Rattle.mesh_defs.specs.declared.ConeEntry.{ConeEntry}
use Rattle.plain_lists.specs.Lists.{sorted, below}
use Rattle.mesh_defs.specs.Orientation.{rotations, reflections, orientations, corners_under, act, relative}
use Rattle.mesh_defs.specs.Points.{Sight, point_of, sights_of, first_sight, key, arrangement, contains}
use Rattle.mesh_defs.specs.Diagram.{Covering, Diagram, stratum, strata, chart, seen_under, entry, cone, diagram}
use Rattle.sf_defs.specs.declared.Op.TheVariants.{Sum, Min}
use Rattle.sf_defs.specs.declared.Tag.TheVariants.{Home, Number}
use Rattle.sf_defs.specs.declared.Ask.{Ask}
use Rattle.sf_defs.specs.declared.Turn.{Turn}
use Rattle.sf_defs.specs.Asks.{step}
use Rattle.sf_defs.specs.PrintedOrder.{fetched_before, stands_before, printed_order}
use Rattle.sf_defs.specs.Rounds.{Round}
use Rattle.sf_defs.specs.Script.{scripted}
use Rattle.sf_defs.specs.Forest.{leaf}
use Rattle.plex_defs.specs.Labels.{mesh_label}
use Rattle.plex_defs.specs.Fields.{fields}
use Rattle.rank_defs.specs.Ranks.{assigned, layer, held_cells, held, ranks_at, owner, is_shared, owned, own_key}
use Rattle.rank_defs.specs.Spread.{charts, point_forest, migration_forest, trace, LocalMesh, local_mesh, plain_dist, scatter_part, plain_scatter, own_chart, shared_part, plain_shared}
use Rattle.rank_defs.specs.Home.{by_vertices, shared_points, home_points, home_words, home_asks, number_asks, bases_of, point_number}
use Rattle.plex_defs.proofs.Meshes.{two_triangles, two_triangles_at, twisted_hexahedra, three_triangles}

abbrev at : ℕ → ℤ → ConeEntry
at p o = record { point = p; o = o }

abbrev vertex : Covering
vertex = record { poly = Vertex; covers = [] }

abbrev edge : ℕ → ℕ → Covering
edge a b = record { poly = Segment; covers = at a (pos 0) ∷ at b (pos 0) ∷ [] }

abbrev triangle : List ConeEntry → Covering
triangle covers = record { poly = Triangle; covers = covers }

abbrev cell : List ℕ → Cell
cell vertices = record { poly = Triangle; vertices = vertices }

-- a diagram of one triangle
abbrev of_one : List Covering → Diagram
of_one points = record { dim = 2; cells = 1; vertices = 3; faces = 0; edges = 3; points = points }

-- without labels and fields
abbrev plain : Diagram → List ℕ → List ℕ → List (List ℤ) → LocalMesh
plain diagram keys owners at = record { diagram = diagram; keys = keys; owners = owners; labels = [] ∷ [] ∷ [] ∷ [] ∷ []; fields = []; at = at }

-- Two triangles over two ranks. Rank 1 has copies of the vertices 1 and 2 and of the edge between them, which it sees reversed.
two_triangles_two_ranks : plain_dist two_triangles [] (0 ∷ 1 ∷ []) 2 0
    ≡ record {
      cells = 2;
      overlap = 0;
      sections = 0;
      points = record { roots = 7 ∷ 7 ∷ []; leaves = [] ∷ (leaf 1 (0, 2) ∷ leaf 2 (0, 3) ∷ leaf 4 (0, 5) ∷ []) ∷ [] };
      locals =
          plain (of_one (triangle (at 4 (pos 0) ∷ at 5 (pos 0) ∷ at 6 (pos 0) ∷ []) ∷ vertex ∷ vertex ∷ vertex ∷ edge 1 2 ∷ edge 2 3 ∷ edge 3 1 ∷ []))
          (0 ∷ 0 ∷ 1 ∷ 2 ∷ 8 ∷ 9 ∷ 10 ∷ []) (0 ∷ 0 ∷ 0 ∷ 0 ∷ 0 ∷ 0 ∷ 0 ∷ []) (map two_triangles_at (0 ∷ 1 ∷ 2 ∷ []))
          ∷ plain (of_one (triangle (at 5 (pos 0) ∷ at 6 (pos 0) ∷ at 4 (negsuc 0) ∷ []) ∷ vertex ∷ vertex ∷ vertex ∷ edge 1 2 ∷ edge 1 3 ∷ edge 3 2 ∷ []))
          (64 ∷ 1 ∷ 2 ∷ 3 ∷ 9 ∷ 72 ∷ 73 ∷ []) (1 ∷ 0 ∷ 0 ∷ 1 ∷ 0 ∷ 1 ∷ 1 ∷ []) (map two_triangles_at (1 ∷ 2 ∷ 3 ∷ []))
          ∷ [];
    }
unfolding sorted rotations reflections orientations corners_under act relative sights_of first_sight key arrangement contains stratum strata chart seen_under entry cone diagram mesh_label fields assigned held_cells held ranks_at owner charts point_forest local_mesh plain_dist
two_triangles_two_ranks = refl

-- the home round of an assignment to n ranks, where one rank asks after the other
abbrev home : Mesh → List ℕ → ℕ → Round
home m a n = let points = home_points m a n in scripted Home (home_words m a points) (map (home_asks m a points) (below n)) []

-- the number round of an assignment to n ranks, where one rank asks after the other
abbrev numbers : Mesh → List ℕ → ℕ → Round
numbers m a n = scripted Number (0 ∷ []) (number_asks m a n) []

abbrev min_with : ℕ → ℕ → Ask
min_with word value = record { word = word; op = Min; value = value }

abbrev add : ℕ → List Ask
add value = record { word = 0; op = Sum; value = value } ∷ []

abbrev turn : ℕ → ℕ → Turn
turn rank index = record { rank = rank; index = index }

-- rank 1 asks with 74 for the shared edge, which has the key 9 from its owner
home_of_two_ranks : home two_triangles (0 ∷ 1 ∷ []) 2 ≡ record { tag = Home; before = 9 ∷ []; asks = [] ∷ (min_with 0 74 ∷ []) ∷ []; got = [] ∷ (9 ∷ []) ∷ []; after = 9 ∷ []; order = (turn 1 0 ∷ []) ∷ [] }
unfolding sorted sights_of contains stratum strata assigned ranks_at owner is_shared own_key by_vertices shared_points home_points home_words home_asks scripted printed_order stands_before fetched_before step
home_of_two_ranks = refl

-- rank 0 owns 7 points and rank 1 four, so that their bases are 0 and 7
numbers_of_two_ranks : numbers two_triangles (0 ∷ 1 ∷ []) 2 ≡ record { tag = Number; before = 0 ∷ []; asks = add 7 ∷ add 4 ∷ []; got = (0 ∷ []) ∷ (7 ∷ []) ∷ []; after = 11 ∷ []; order = (turn 0 0 ∷ turn 1 0 ∷ []) ∷ [] }
unfolding sorted sights_of contains stratum strata chart assigned held_cells held ranks_at owner owned number_asks scripted printed_order stands_before fetched_before step
numbers_of_two_ranks = refl

-- ---- the same over three ranks, of which rank 1 has no cell

-- keys of the held points, and their owners
abbrev key_and_owner : Mesh → List ℕ → List Sight → List (ℕ × ℕ)
key_and_owner m a points = map (λ s. (s.key, owner m a (point_of s))) points

idle_rank : map (key_and_owner two_triangles (0 ∷ 2 ∷ [])) (charts two_triangles (0 ∷ 2 ∷ []) 3 0)
    ≡ ((0, 0) ∷ (0, 0) ∷ (1, 0) ∷ (2, 0) ∷ (8, 0) ∷ (9, 0) ∷ (10, 0) ∷ [])
    ∷ []
    ∷ ((64, 2) ∷ (1, 0) ∷ (2, 0) ∷ (3, 2) ∷ (9, 0) ∷ (72, 2) ∷ (73, 2) ∷ []) ∷ []
unfolding sorted sights_of contains stratum strata chart assigned held_cells held ranks_at owner charts
idle_rank = refl

forest_with_an_idle_rank : point_forest two_triangles (0 ∷ 2 ∷ []) (charts two_triangles (0 ∷ 2 ∷ []) 3 0)
    ≡ record { roots = 7 ∷ 0 ∷ 7 ∷ []; leaves = [] ∷ [] ∷ (leaf 1 (0, 2) ∷ leaf 2 (0, 3) ∷ leaf 4 (0, 5) ∷ []) ∷ [] }
unfolding sorted sights_of contains stratum strata chart assigned held_cells held ranks_at owner charts point_forest
forest_with_an_idle_rank = refl

home_with_an_idle_rank : home two_triangles (0 ∷ 2 ∷ []) 3
    ≡ record { tag = Home; before = 9 ∷ []; asks = [] ∷ [] ∷ (min_with 0 74 ∷ []) ∷ []; got = [] ∷ [] ∷ (9 ∷ []) ∷ []; after = 9 ∷ []; order = (turn 2 0 ∷ []) ∷ [] }
unfolding sorted sights_of contains stratum strata assigned ranks_at owner is_shared own_key by_vertices shared_points home_points home_words home_asks scripted printed_order stands_before fetched_before step
home_with_an_idle_rank = refl

-- the idle rank draws the base 7 and adds nothing
numbers_with_an_idle_rank : numbers two_triangles (0 ∷ 2 ∷ []) 3
    ≡ record { tag = Number; before = 0 ∷ []; asks = add 7 ∷ add 0 ∷ add 4 ∷ []; got = (0 ∷ []) ∷ (7 ∷ []) ∷ (7 ∷ []) ∷ []; after = 11 ∷ []; order = (turn 0 0 ∷ turn 1 0 ∷ turn 2 0 ∷ []) ∷ [] }
unfolding sorted sights_of contains stratum strata chart assigned held_cells held ranks_at owner owned number_asks scripted printed_order stands_before fetched_before step
numbers_with_an_idle_rank = refl

-- ---- the key of the shared edge comes from the other rank

-- the owner's own least key of the edge is 74; rank 1 has it under 9, which is its key on both
key_from_the_other_rank : home two_triangles (1 ∷ 0 ∷ []) 2 ≡ record { tag = Home; before = 74 ∷ []; asks = [] ∷ (min_with 0 9 ∷ []) ∷ []; got = [] ∷ (74 ∷ []) ∷ []; after = 9 ∷ []; order = (turn 1 0 ∷ []) ∷ [] }
unfolding sorted sights_of contains stratum strata assigned ranks_at owner is_shared own_key by_vertices shared_points home_points home_words home_asks scripted printed_order stands_before fetched_before step
key_from_the_other_rank = refl

numbers_with_the_key_from_the_other_rank : numbers two_triangles (1 ∷ 0 ∷ []) 2
    ≡ record { tag = Number; before = 0 ∷ []; asks = add 7 ∷ add 4 ∷ []; got = (0 ∷ []) ∷ (7 ∷ []) ∷ []; after = 11 ∷ []; order = (turn 0 0 ∷ turn 1 0 ∷ []) ∷ [] }
unfolding sorted sights_of contains stratum strata chart assigned held_cells held ranks_at owner owned number_asks scripted printed_order stands_before fetched_before step
numbers_with_the_key_from_the_other_rank = refl

-- the owned points of the ranks one after the other, with their numbers under these bases, their keys, and their cones by number
abbrev numbered : Mesh → List ℕ → List ℕ → List ℕ → List (ℕ × (ℕ × List ConeEntry))
numbered m a ranks bases = flat_map (λ r. map (λ s. (point_number m a bases (point_of s), (s.key, cone m (point_number m a bases) s))) (owned m a r)) ranks

points_with_the_key_from_the_other_rank : numbered two_triangles (1 ∷ 0 ∷ []) (0 ∷ 1 ∷ []) (bases_of (numbers two_triangles (1 ∷ 0 ∷ []) 2))
    ≡ (0, (64, at 5 (pos 0) ∷ at 6 (pos 0) ∷ at 4 (negsuc 0) ∷ []))
    ∷ (1, (1, []))
    ∷ (2, (2, []))
    ∷ (3, (3, []))
    ∷ (4, (9, at 1 (pos 0) ∷ at 2 (pos 0) ∷ []))
    ∷ (5, (72, at 1 (pos 0) ∷ at 3 (pos 0) ∷ []))
    ∷ (6, (73, at 3 (pos 0) ∷ at 2 (pos 0) ∷ []))
    ∷ (7, (0, at 9 (pos 0) ∷ at 4 (pos 0) ∷ at 10 (pos 0) ∷ []))
    ∷ (8, (0, []))
    ∷ (9, (8, at 8 (pos 0) ∷ at 1 (pos 0) ∷ []))
    ∷ (10, (10, at 2 (pos 0) ∷ at 8 (pos 0) ∷ [])) ∷ []
unfolding sorted rotations reflections orientations corners_under act relative sights_of first_sight key arrangement contains stratum strata chart seen_under entry cone assigned held_cells held ranks_at owner owned point_number number_asks scripted printed_order stands_before fetched_before step
points_with_the_key_from_the_other_rank = refl

forest_with_the_key_from_the_other_rank : point_forest two_triangles (1 ∷ 0 ∷ []) (charts two_triangles (1 ∷ 0 ∷ []) 2 0)
    ≡ record { roots = 7 ∷ 7 ∷ []; leaves = [] ∷ (leaf 2 (0, 1) ∷ leaf 3 (0, 2) ∷ leaf 5 (0, 4) ∷ []) ∷ [] }
unfolding sorted sights_of contains stratum strata chart assigned held_cells held ranks_at owner charts point_forest
forest_with_the_key_from_the_other_rank = refl

-- ---- two hexahedra with a twisted face between them

-- they share the face and two of its edges; where one has its other two edges, the other has diagonals
twisted_home : home twisted_hexahedra (0 ∷ 1 ∷ []) 2
    ≡ record {
      tag = Home;
      before = 2 ∷ 15 ∷ 13 ∷ [];
      asks = [] ∷ (min_with 0 65 ∷ min_with 1 75 ∷ min_with 2 73 ∷ []) ∷ [];
      got = [] ∷ (2 ∷ 15 ∷ 13 ∷ []) ∷ [];
      after = 2 ∷ 15 ∷ 13 ∷ [];
      order = (turn 1 0 ∷ []) ∷ (turn 1 1 ∷ []) ∷ (turn 1 2 ∷ []) ∷ [];
    }
unfolding sorted sights_of contains stratum strata assigned ranks_at owner is_shared own_key by_vertices shared_points home_points home_words home_asks scripted printed_order stands_before fetched_before step
twisted_home = refl

-- ---- redistribution of two triangles: each goes to the other rank

abbrev before_it : List ℕ
before_it = 0 ∷ 1 ∷ []

abbrev after_it : List ℕ
after_it = 1 ∷ 0 ∷ []

two_triangles_redistributed : migration_forest two_triangles before_it after_it 2
    ≡ record {
      roots = 7 ∷ 7 ∷ [];
      leaves =
          (leaf 0 (1, 0) ∷ leaf 1 (0, 2) ∷ leaf 2 (0, 3) ∷ leaf 3 (1, 3) ∷ leaf 4 (0, 5) ∷ leaf 5 (1, 5) ∷ leaf 6 (1, 6) ∷ [])
          ∷ (leaf 0 (0, 0) ∷ leaf 1 (0, 1) ∷ leaf 4 (0, 4) ∷ leaf 6 (0, 6) ∷ []) ∷ [];
    }
unfolding sorted sights_of contains stratum strata chart assigned held_cells held ranks_at owner charts migration_forest
two_triangles_redistributed = refl

traces_of_two_triangles : flat_map (λ r. map (λ s. trace two_triangles before_it 2 (point_of s)) (owned two_triangles after_it r)) (0 ∷ 1 ∷ [])
    ≡ (1, 0) ∷ (0, 2) ∷ (0, 3) ∷ (1, 3) ∷ (0, 5) ∷ (1, 5) ∷ (1, 6) ∷ (0, 0) ∷ (0, 1) ∷ (0, 4) ∷ (0, 6) ∷ []
unfolding sorted sights_of contains stratum strata chart assigned held_cells held ranks_at owner owned charts trace
traces_of_two_triangles = refl

-- ---- a layer of overlap, and none again

-- of a rank's held points, how many each rank owns
abbrev owned_by : Mesh → List ℕ → ℕ → ℕ → List (List ℕ)
owned_by m a n k = map (λ r. map (λ o. count_by (λ s. owner m a (point_of s) == o) (held m a r k)) (below n)) (below n)

-- with one layer both ranks hold all points
two_triangles_widened : (owned_by two_triangles before_it 2 1 ≡ (7 ∷ 4 ∷ []) ∷ (7 ∷ 4 ∷ []) ∷ []) × (owned_by two_triangles before_it 2 0 ≡ (7 ∷ 0 ∷ []) ∷ (3 ∷ 4 ∷ []) ∷ [])
unfolding sorted sights_of contains stratum strata chart assigned layer held_cells held ranks_at owner
two_triangles_widened = (refl, refl)

-- ---- three triangles: shared points without keys

-- where all vertices of these meshes are
abbrev origin : List ℤ
origin = pos 0 ∷ pos 0 ∷ pos 0 ∷ []

-- Rank 1 has the cells 1 and 2. It holds both ends of the edge between the vertices 0 and 1, and not the edge.
three_triangles_scattered : plain_scatter three_triangles [] (0 ∷ 1 ∷ 1 ∷ []) 2
    ≡ record {
      whole = 3;
      sections = [];
      dofs = [];
      parts =
          record { cells = (0, cell (0 ∷ 1 ∷ 2 ∷ [])) ∷ []; vertices = 0 ∷ 1 ∷ 2 ∷ []; owners = 0 ∷ 0 ∷ 0 ∷ []; at = replicate 3 origin; marks = []; rows = [] }
          ∷ record {
            cells = (1, cell (0 ∷ 2 ∷ 3 ∷ [])) ∷ (2, cell (2 ∷ 1 ∷ 4 ∷ [])) ∷ [];
            vertices = 0 ∷ 1 ∷ 2 ∷ 3 ∷ 4 ∷ [];
            owners = 0 ∷ 0 ∷ 0 ∷ 1 ∷ 1 ∷ [];
            at = replicate 5 origin;
            marks = [];
            rows = [];
          } ∷ [];
    }
unfolding sorted sights_of contains stratum strata chart assigned ranks_at owner scatter_part plain_scatter
three_triangles_scattered = refl

three_triangles_shared : plain_shared three_triangles [] (0 ∷ 1 ∷ 1 ∷ []) 2
    ≡ record {
      whole = 3;
      sections = 0;
      forest = record { roots = 7 ∷ 13 ∷ []; leaves = [] ∷ (leaf 2 (0, 1) ∷ leaf 3 (0, 2) ∷ leaf 4 (0, 3) ∷ leaf 7 (0, 6) ∷ leaf 10 (0, 5) ∷ []) ∷ [] };
      parts =
          record {
            cells = (0, cell (0 ∷ 1 ∷ 2 ∷ [])) ∷ [];
            vertices = 0 ∷ 1 ∷ 2 ∷ [];
            at = replicate 3 origin;
            sets = (0 ∷ 1 ∷ 2 ∷ []) ∷ (0 ∷ []) ∷ (1 ∷ []) ∷ (2 ∷ []) ∷ (0 ∷ 1 ∷ []) ∷ (1 ∷ 2 ∷ []) ∷ (0 ∷ 2 ∷ []) ∷ [];
            labels = [] ∷ [] ∷ [] ∷ [] ∷ [];
            fields = [];
          }
          ∷ record {
            cells = (1, cell (0 ∷ 2 ∷ 3 ∷ [])) ∷ (2, cell (2 ∷ 1 ∷ 4 ∷ [])) ∷ [];
            vertices = 0 ∷ 1 ∷ 2 ∷ 3 ∷ 4 ∷ [];
            at = replicate 5 origin;
            sets = (0 ∷ 2 ∷ 3 ∷ []) ∷ (1 ∷ 2 ∷ 4 ∷ []) ∷ (0 ∷ []) ∷ (1 ∷ []) ∷ (2 ∷ []) ∷ (3 ∷ []) ∷ (4 ∷ [])
                ∷ (0 ∷ 2 ∷ []) ∷ (2 ∷ 3 ∷ []) ∷ (0 ∷ 3 ∷ []) ∷ (1 ∷ 2 ∷ []) ∷ (1 ∷ 4 ∷ []) ∷ (2 ∷ 4 ∷ []) ∷ [];
            labels = [] ∷ [] ∷ [] ∷ [] ∷ [];
            fields = [];
          } ∷ [];
    }
unfolding sorted sights_of contains stratum strata chart mesh_label fields assigned ranks_at owner point_forest own_chart shared_part plain_shared
three_triangles_shared = refl
