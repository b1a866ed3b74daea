-- The whole mesh of a content that stands for one.
use Rattle.std.proofs.Common.{◌≡◌, ℕ, ◌-◌, ◌≤◌, Bool, true, false, cond, List, [], ◌∷◌, map, length, Ok, ap₂, ◌∙◌, subst, ⊎_elim, arith}
use Rattle.std.specs.Prelude.{filter}
use Rattle.std.proofs.Math.Seq.{take-length}
use Rattle.mesh_defs.specs.Mesh.{Mesh, Name}
use Rattle.input_defs.specs.Content.{Node, Element, Content}
use Rattle.input_defs.specs.RightContent.{IsRight}
use Rattle.input_defs.specs.Meshes.{greatest_dim, vertex_nodes, kept, kept_after, cells_of, marks_of, loose_elements, section_on, mesh_of, accepted}
use Rattle.input_laws.proofs.RightAccepted.{right-accepted}
use Rattle.input_laws.proofs.place_laws.Firsts.{kept-few}
use Rattle.mesh_check.specs.Partly.{coordinates}

-- cells have dimension 2 or 3
pub high : (c : Content) → IsRight c → accepted c ≡ Ok (mesh_of c) → 2 ≤ greatest_dim c
unfolding mesh_of
high c right ok = ⊎_elim (λ (e : greatest_dim c ≡ 2). omega (arith, e)) (λ (e : greatest_dim c ≡ 3). omega (arith, e)) (right-accepted c (mesh_of c) right ok).sound.dim

-- no more elements are kept than there are, and no more nodes are vertices
pub kept-most : (c : Content) → length (kept c) ≤ length c.elements
unfolding kept
kept-most c = subst (λ (es : List Element). length (kept_after [] es) ≤ length c.elements) (take-length c.elements) (kept-few c.elements (length c.elements))

filter-most : (p : Node → Bool) (ns : List Node) → length (filter p ns) ≤ length ns
filter-most p [] = omega arith
filter-most p (n ∷ ns) = go (p n) (filter-most p ns)
  where
    go : (b : Bool) → length (filter p ns) ≤ length ns → length (cond b (n ∷ filter p ns) (filter p ns)) ≤ length (n ∷ ns)
    go true r = omega arith
    go false r = omega arith

pub vertices-most : (c : Content) → length (vertex_nodes c) ≤ length c.nodes
unfolding vertex_nodes
vertices-most c = filter-most _ c.nodes

-- all parts and counts
pub whole : (c : Content) (names : List Name) (u l m : ℕ) → names ≡ c.names → u ≡ length c.nodes - length (vertex_nodes c) → l ≡ length (loose_elements c) → m ≡ length c.elements - length (kept c)
    → record { dim = greatest_dim c; at = coordinates c; cells = cells_of c; marks = marks_of c; names = names; fields = map (section_on c) c.fields; unused = u; loose = l; merged = m } ≡ mesh_of c
unfolding mesh_of
whole c names u l m is_names is_u is_l is_m =
    ap₂ (λ (ns : List Name) (x : ℕ). mesh ns x l m) is_names is_u ∙ ap₂ (λ (x y : ℕ). mesh c.names (length c.nodes - length (vertex_nodes c)) x y) is_l is_m
  where
    mesh : List Name → ℕ → ℕ → ℕ → Mesh
    mesh ns x y z = record { dim = greatest_dim c; at = coordinates c; cells = cells_of c; marks = marks_of c; names = ns; fields = map (section_on c) c.fields; unused = x; loose = y; merged = z }
