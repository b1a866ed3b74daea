-- How ranks find by meeting what they share: vertices on their owners; then faces and edges on the owner of a vertex.
use Rattle.std.specs.Prelude.{ℕ, ◌+◌, ◌*◌, ◌/◌, ◌%◌, ◌^◌, Bool, not, ◌||◌, ◌==◌, nat_lt, List, [], ◌++◌, map, length, filter, get_or}
use Rattle.std.specs.List.{list_all, position_or_len}
use Rattle.plain_lists.specs.Lists.{below}
use Rattle.sf_defs.specs.declared.Leaf.{Leaf}
use Rattle.sf_defs.specs.Forest.{Forest, leaf, degree}
use Rattle.rank_laws.specs.share_laws.Packed.{no_vertex, packed}
use Rattle.rank_chart_laws.specs.meeting_laws.Sets.{RankChart, chart_at, point_count}

-- what is chosen among the numbers below n
abbrev pub chosen : {X : Type 0} → (ℕ → Bool) → (ℕ → X) → ℕ → List X
chosen test f n = map f (filter test (below n))

-- ---- vertices

-- the place of a vertex among those of a rank
abbrev pub vertex_place : ℕ → RankChart → ℕ
vertex_place v c = position_or_len (λ w. w == v) c.vertices

abbrev pub vertex_at : RankChart → ℕ → ℕ
vertex_at c i = get_or c.vertices i no_vertex

abbrev pub owner_at : RankChart → ℕ → ℕ
owner_at c i = get_or c.owners i 0

-- the ith vertex of a rank, as its owner has it
abbrev pub vertex_home : List RankChart → RankChart → ℕ → ℕ × ℕ
vertex_home charts c i = (owner_at c i, vertex_place (vertex_at c i) (chart_at charts (owner_at c i)))

-- the vertices of a rank that others own
abbrev pub ghost_leaves : List RankChart → ℕ → List Leaf
ghost_leaves charts r = let c = chart_at charts r in chosen (λ i. not (owner_at c i == r)) (λ i. leaf i (vertex_home charts c i)) (length c.vertices)

-- the forest of the vertices alone
unfoldable pub vertex_forest : List RankChart → Forest
vertex_forest charts = record { roots = map (λ (c : RankChart). length c.vertices) charts; leaves = map (ghost_leaves charts) (below (length charts)) }

-- ---- what meets

-- another rank has the vertex too: the rank does not own it, or others have copies
unfoldable pub is_copied : List RankChart → ℕ → ℕ → Bool
is_copied charts r v = let c = chart_at charts r in let i = vertex_place v c in not (owner_at c i == r) || nat_lt 0 (degree (vertex_forest charts) r i)

-- all vertices of a set have copies
unfoldable pub may_share : List RankChart → ℕ → List ℕ → Bool
may_share charts r s = list_all (λ v. (v == no_vertex) || is_copied charts r v) s

abbrev pub set_at : RankChart → ℕ → List ℕ
set_at c k = get_or c.sets k []

-- the places of a rank's sets that meet
abbrev pub candidates : List RankChart → ℕ → List ℕ
candidates charts r = let c = chart_at charts r in filter (λ k. may_share charts r (set_at c k)) (below (length c.sets))

-- where a set meets: at the owner of its first vertex, at the place of that vertex
unfoldable pub meeting_place : List RankChart → ℕ → List ℕ → ℕ × ℕ
meeting_place charts r s = let c = chart_at charts r in vertex_home charts c (vertex_place (get_or s 0 no_vertex) c)

-- a rank and a place there in one number
abbrev pub point_id : ℕ → ℕ → ℕ
point_id rank place = rank * 2 ^ 32 + place

-- the place of a set among all points of its rank
abbrev pub behind : RankChart → ℕ → ℕ
behind c k = c.cells + length c.vertices + k

-- what a rank brings to the meeting: leaves, keys and ids
abbrev pub meeting_leaves : List RankChart → ℕ → List Leaf
meeting_leaves charts r = map (λ j. leaf j (meeting_place charts r (set_at (chart_at charts r) (get_or (candidates charts r) j 0)))) (below (length (candidates charts r)))

abbrev pub meeting_keys : List RankChart → ℕ → List (List ℕ)
meeting_keys charts r = map (λ k. packed (set_at (chart_at charts r) k)) (candidates charts r)

abbrev pub meeting_ids : List RankChart → ℕ → List ℕ
meeting_ids charts r = map (λ k. point_id r (behind (chart_at charts r) k)) (candidates charts r)

-- of all ranks
unfoldable pub meeting_forest : List RankChart → Forest
meeting_forest charts = record { roots = map (λ (c : RankChart). length c.vertices) charts; leaves = map (meeting_leaves charts) (below (length charts)) }

unfoldable pub all_keys : List RankChart → List (List (List ℕ))
all_keys charts = map (meeting_keys charts) (below (length charts))

unfoldable pub all_ids : List RankChart → List (List ℕ)
all_ids charts = map (meeting_ids charts) (below (length charts))

-- ---- after the meeting

-- the vertices of a rank that others own, by their places among all its points
abbrev pub joined_vertices : List RankChart → ℕ → List Leaf
joined_vertices charts r =
    let c = chart_at charts r in
    chosen (λ i. not (owner_at c i == r)) (λ i. leaf (c.cells + i) (owner_at c i, (chart_at charts (owner_at c i)).cells + (vertex_home charts c i).1)) (length c.vertices)

-- its sets that an earlier rank has, where `met` are the ids that its candidates met
abbrev pub joined_sets : List RankChart → ℕ → List ℕ → List Leaf
joined_sets charts r met =
    chosen (λ j. not (get_or met j 0 / 2 ^ 32 == r)) (λ j. leaf (behind (chart_at charts r) (get_or (candidates charts r) j 0)) (get_or met j 0 / 2 ^ 32, get_or met j 0 % 2 ^ 32)) (length (candidates charts r))

abbrev pub joined_leaves : List RankChart → ℕ → List ℕ → List Leaf
joined_leaves charts r met = joined_vertices charts r ++ joined_sets charts r met

unfoldable pub joined_forest : List RankChart → List (List ℕ) → Forest
joined_forest charts met = record { roots = map point_count charts; leaves = map (λ r. joined_leaves charts r (get_or met r [])) (below (length charts)) }
