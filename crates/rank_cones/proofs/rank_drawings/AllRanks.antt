-- The ranks of a mesh: what they have, that one of them has a cell, and what all of them draw.
use Rattle.std.proofs.Common.{◌≡◌, ℕ, ◌<◌, ◌≤◌, ◌==◌, List, [], ◌∷◌, map, length, get_or, Option, Some, None, refl, sym, ap, ◌∙◌, subst, arith}
use Rattle.std.specs.Prelude.{IfSome, filter, slice_index}
use Rattle.std.specs.List.{AllByRecursion, enumerate_from}
use Rattle.std.proofs.lemmas.Bool.{cond-true, eq-eqb}
use Rattle.std.proofs.lemmas.List.{length-map, get_or-map}
use Rattle.plain_lists.specs.Lists.{below}
use Rattle.plain_lists.proofs.Below.{length-below, get_or-map-below}
use Rattle.plain_lists.proofs.Each.{all_at}
use Rattle.mesh_defs.specs.Tables.{dim_of}
use Rattle.mesh_defs.specs.Mesh.{Mesh, Cell}
use Rattle.mesh_defs.specs.RightMesh.{IsSoundCell}
use Rattle.dist_state.specs.scatter_state.Parts.{cell_at}
use Rattle.rank_defs.specs.Ranks.{IsAssignment, assigned, rank_of}
use Rattle.rank_defs.specs.Spread.{PlainShared, SharedPart, IsShared, shared_part}
use Rattle.dist_state.specs.shared_state.Points.{shared_at}
use Rattle.rank_chart_laws.specs.OwnRanks.{own_vertices}
use Rattle.rank_chart_laws.proofs.Given.{shared-vertices}
use Rattle.rank_chart_laws.specs.key_laws.Keys.{keys_on, own_point_keys}
use Rattle.rank_chart_laws.proofs.key_laws.Stands as stands
use Rattle.rank_cones.specs.arrangement_laws.Arrangements.{arrangements_on, own_arrangements}
use Rattle.plex_base.specs.declared.dim.Dim.{Dim}
use Rattle.plex_base.specs.Dim.{dim_number}
use Rattle.rank_cones.specs.rank_drawings.Told.{PlainDrawing, IsDimOf, AreTold, IsTold, IsDrawing, AreDrawings}
use Rattle.rank_cones.specs.declared.rank_drawings.desks.Desk.{Desk}
use Rattle.rank_cones.proofs.rank_drawings.Known.{sounds}

-- some rank has a cell of a mesh that has one
some-assigned : (m : Mesh) (a : List ℕ) (n : ℕ) → IsAssignment m n a → 1 ≤ length m.cells → ((q : ℕ) → q < n → assigned m a q ≡ []) → ⊥
unfolding assigned
some-assigned m a n parts some none = go m.cells refl
  where
    go : (cs : List Cell) → m.cells ≡ cs → ⊥
    go [] e = absurd (omega (arith, some, ap length e))
    go (c ∷ cs) e =
        let q = slice_index a 0 in
        let low : q < n = all_at (λ r. r < n) a 0 0 parts.in_range (omega (arith, parts.count, ap length e)) in
        let rest : List (ℕ × Cell) = filter (λ (d : ℕ × Cell). rank_of a d == q) (enumerate_from 1 cs) in
        absurd (cc (sym (cond-true (q == q) ((0, c) ∷ rest) rest (eq-eqb q q refl)) ∙ sym (ap (λ l. filter (λ (d : ℕ × Cell). rank_of a d == q) (enumerate_from 0 l)) e) ∙ none q low))

module _ (s : PlainShared) (m : Mesh) (dofs : List (List ℕ)) (a : List ℕ) (n : ℕ) (is : IsShared s m dofs a n) where
  pub ranks-are : length s.parts ≡ n
  ranks-are = stands.ranks-are s m dofs a n is

  pub cells-are : (r : ℕ) → r < n → (shared_at s.parts r).cells ≡ assigned m a r
  unfolding shared_part
  cells-are r low = ap (λ (p : SharedPart). p.cells) (stands.part-is s m dofs a n is r low)

  pub vertices-are : (r : ℕ) → r < n → (shared_at s.parts r).vertices ≡ own_vertices m (assigned m a r)
  unfolding shared_part
  vertices-are r low = ap (λ (p : SharedPart). p.vertices) (stands.part-is s m dofs a n is r low) ∙ shared-vertices m is.mesh.sound.dim (assigned m a r)

  -- the dimension of any cell is that of the mesh
  pub dim-of_cell : (r : ℕ) → r < n → 0 < length (shared_at s.parts r).cells → dim_of (cell_at (shared_at s.parts r).cells 0).1.poly ≡ m.dim
  dim-of_cell r low some = (all_at (λ (c : ℕ × Cell). IsSoundCell m c.1) (shared_at s.parts r).cells 0 (cell_at [] 0) (subst (AllByRecursion (λ (c : ℕ × Cell). IsSoundCell m c.1)) (sym (cells-are r low)) (sounds m is.mesh a r)) some).dim

  -- and there is one
  pub has-cell : ((r : ℕ) → r < length s.parts → (shared_at s.parts r).cells ≡ []) → ⊥
  has-cell none = some-assigned m a n is.assignment.each is.mesh.some_cell (λ q low. sym (cells-are q low) ∙ none q (omega (arith, low, ranks-are)))

  -- a rank's dimension is that of the mesh
  pub dim-found : (r : ℕ) (dim : Dim) → r < length s.parts → IsDimOf (shared_at s.parts r).cells (Some dim) → dim_number dim ≡ m.dim
  dim-found r dim low found = found.1 ∙ dim-of_cell r (omega (arith, low, ranks-are)) found.0

-- the keys of a rank
module _ (keys : List (List ℕ)) (m : Mesh) (a : List ℕ) (n : ℕ) (are : keys ≡ own_point_keys m a n) where
  pub keys-many : length keys ≡ n
  unfolding own_point_keys
  keys-many = ap length are ∙ length-map (below n) (keys_on m a) ∙ length-below n

  pub keys-at : (r : ℕ) → r < n → get_or keys r [] ≡ keys_on m a r
  unfolding own_point_keys
  keys-at r low = ap (λ ks. get_or ks r []) are ∙ get_or-map-below (keys_on m a) n r [] low

-- the desks on which the arrangements of the ranks lie
module _ (s : PlainShared) (keys : List (List ℕ)) (desks : List Desk) (arrangements : List (List (List ℕ))) (lie : map (λ (d : Desk). d.arrangements.items) desks ≡ arrangements) (m : Mesh) (dofs : List (List ℕ)) (a : List ℕ) (n : ℕ) (are : AreTold s keys arrangements m dofs a n) where
  pub desks-many : length desks ≡ n
  unfolding own_arrangements
  desks-many = sym (length-map desks (λ (d : Desk). d.arrangements.items)) ∙ ap length (lie ∙ are.arrangements_are) ∙ length-map (below n) (arrangements_on m a) ∙ length-below n

  -- each rank knows its own
  pub told-at : (r : ℕ) (d : Desk) → r < n → IsTold s keys (get_or desks r d).arrangements.items m dofs a n r
  unfolding own_arrangements
  told-at r d low = record {
    shared = are.shared;
    keys_are = are.keys_are;
    inside = low;
    own_are = sym (get_or-map (λ (d : Desk). d.arrangements.items) desks r d [] (omega (arith, low, desks-many))) ∙ ap (λ ls. get_or ls r []) (lie ∙ are.arrangements_are) ∙ get_or-map-below (arrangements_on m a) n r [] low;
  }

-- some element of a list that has one
some-of : {X : Type 0} (xs : List X) (k : ℕ) → k < length xs → X
some-of [] k low = absurd (omega (arith, low))
some-of (x ∷ xs) k low = x

-- where the rank's drawing is on each desk, these are the drawings
pub all-drawn : (m : Mesh) (a : List ℕ) (n : ℕ) (desks : List Desk) (drawings : List PlainDrawing) → length desks ≡ n → ((r : ℕ) (d : Desk) → r < length desks → IfSome (get_or desks r d).drawing (IsDrawing m a r)) → map (λ (d : Desk). d.drawing) desks ≡ map Some drawings → AreDrawings m a n drawings
all-drawn m a n desks drawings count each filled =
    let many : length desks ≡ length drawings = sym (length-map desks (λ (d : Desk). d.drawing)) ∙ ap length filled ∙ length-map drawings Some in
    record {
      count = sym many ∙ count;
      each = λ r e low.
          let inside : r < length desks = omega (arith, low, count) in
          let d : Desk = some-of desks r inside in
          let there : (get_or desks r d).drawing ≡ Some (get_or drawings r e) = sym (get_or-map (λ (d : Desk). d.drawing) desks r d (Some e) inside) ∙ ap (λ l. get_or l r (Some e)) filled ∙ get_or-map Some drawings r e (Some e) (omega (arith, inside, many)) in
          subst (λ o. IfSome o (IsDrawing m a r)) there (each r d inside);
    }

-- what follows for what may be there
pub some-weaker : {X : Type 0} (P Q : X → Type 0) (o : Option X) → ((x : X) → P x → Q x) → IfSome o P → IfSome o Q
some-weaker P Q None f h = h
some-weaker P Q (Some x) f h = f x h
