-- Faces and edges as they are stored.
use Rattle.std.specs.Prelude.{◌≡◌, ℕ, false, ◌<◌, ◌≤◌, ◌==◌, List, length, map, take, slice_index, if◌then◌else◌}
use Rattle.std.specs.List.{AllByRecursion}
use Rattle.plain_lists.specs.Lists.{sorted, same_list}
use Rattle.mesh_defs.specs.declared.Poly.TheVariants.{Segment, Triangle, Quad}
use Rattle.mesh_defs.specs.Points.{Point, Sight, shows}
use Rattle.local_points.specs.Points.{Local}
use Rattle.local_points.specs.declared.seen_edges.Edge.{Edge}
use Rattle.local_points.specs.declared.seen_faces.Face.{Face}

-- an edge as a cell sees it
abbrev pub edge_sight_of : Edge → Sight
edge_sight_of e = record { key = e.key; poly = Segment; arrangement = e.ends }

-- its ends, the smaller one first
abbrev pub edge_set : Edge → List ℕ
edge_set e = sorted e.ends

-- what stands in the place of the fourth vertex of a triangle
abbrev pub no_vertex : ℕ
no_vertex = 4294967295

-- a face as a cell sees it
abbrev pub face_sight_of : Face → Sight
face_sight_of f =
    if slice_index f.corners 3 == no_vertex then record { key = f.key; poly = Triangle; arrangement = take 3 f.corners }
    else record { key = f.key; poly = Quad; arrangement = f.corners }

-- its vertices in rising order
abbrev pub face_set : Face → List ℕ
face_set f = sorted f.corners

-- the face on these vertices
abbrev pub face_point : List ℕ → Point
face_point vertices = record { dim = 2; vertices = sorted vertices }

-- three vertices, and a fourth one or what stands in its place
pub record IsFace (f : Face) : Type 0 where
  pub four : length f.corners ≡ 4
  pub vertices : AllByRecursion (λ v. v < no_vertex) (take 3 f.corners)
  pub last : slice_index f.corners 3 ≤ no_vertex

-- a set tells whether a face is on these vertices
pub record IsSetOn (t vertices : List ℕ) : Type 0 where
  pub tells : (f : Face) → IsFace f → same_list t (face_set f) ≡ shows (face_point vertices) (face_sight_of f)

-- no face is on these vertices
pub record IsOnNoFace (vertices : List ℕ) : Type 0 where
  pub none : (f : Face) → IsFace f → shows (face_point vertices) (face_sight_of f) ≡ false

-- faces, each found by its set
pub record AreFaces (sets : List (List ℕ)) (faces : List Face) : Type 0 where
  pub found : sets ≡ map face_set faces
  pub sound : AllByRecursion IsFace faces

-- sets by which faces that are seen so are found
pub record AreFaceSets (sets : List (List ℕ)) (seen : List Sight) : Type 0 where
  pub faces : List Face
  pub are : AreFaces sets faces
  pub shown : map face_sight_of faces ≡ seen

-- sets by which edges that are seen so are found
pub record AreEdgeSets (sets : List (List ℕ)) (seen : List Sight) : Type 0 where
  pub edges : List Edge
  pub are : sets ≡ map edge_set edges
  pub shown : map edge_sight_of edges ≡ seen

-- the tables by which these faces and edges are found
pub record AreFound (face_sets edge_sets : List (List ℕ)) (local : Local) : Type 0 where
  pub faces : AreFaceSets face_sets local.faces
  pub edges : AreEdgeSets edge_sets local.edges
  pub few_faces : length local.faces ≤ 1500000
  pub few_edges : length local.edges ≤ 3000000
