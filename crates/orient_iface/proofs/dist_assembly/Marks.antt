-- Labels and fields of points: each pair is at one of the points, and each field has all of them.
use Rattle.std.proofs.lemmas.List.Sums.{length-filter}
use Rattle.std.proofs.Common.{◌≡◌, ℕ, ◌<◌, Bool, true, false, not, ◌==◌, List, [], ◌∷◌, map, length, get_or, refl, sym, ap, ◌∙◌, subst, arith}
use Rattle.std.specs.Prelude.{nat_lt, filter, flat_map, ℤ}
use Rattle.std.specs.List.{AllByRecursion, enumerate_from}
use Rattle.std.proofs.lemmas.Bool.{ltb-true, lt-ltb}
use Rattle.std.proofs.lemmas.List.{length-map}
use Rattle.plain_lists.specs.Lists.{below}
use Rattle.plain_lists.proofs.Each.{all_append, all_filter, all_flat_map, all_from, all_map, all_weaker}
use Rattle.plain_lists.proofs.Finding.{none_passes, each_fails}
use Rattle.mesh_defs.specs.Mesh.{Cell, Mesh}
use Rattle.mesh_defs.specs.Diagram.{chart, diagram, cone, place_in}
use Rattle.mesh_defs.specs.Tables.{dim_of}
use Rattle.mesh_defs.specs.Points.{Sight, point_of}
use Rattle.plex_defs.specs.Labels.{marks_on, mesh_label, label_of}
use Rattle.plex_defs.specs.Fields.{data_words, dof_words, fields}
use Rattle.rank_defs.specs.Ranks.{owner}
use Rattle.rank_defs.specs.Spread.{local_mesh, vertices_among, labels}
use Rattle.dist_state.specs.Local.{IsLocalMesh}
use Rattle.rank_chart_laws.proofs.moved_laws.Labels.{any-label}
use Rattle.rank_chart_laws.proofs.moved_laws.Places.{no_sight, all_numbered}

-- a list of four
pub four-are : {X : Type 0} (xs : List X) (d : X) → length xs ≡ 4 → xs ≡ get_or xs 0 d ∷ get_or xs 1 d ∷ get_or xs 2 d ∷ get_or xs 3 d ∷ []
four-are [] d e = absurd (omega (arith, e))
four-are (x ∷ []) d e = absurd (omega (arith, e))
four-are (x ∷ y ∷ []) d e = absurd (omega (arith, e))
four-are (x ∷ y ∷ z ∷ []) d e = absurd (omega (arith, e))
four-are (x ∷ y ∷ z ∷ w ∷ []) d e = refl
four-are (x ∷ y ∷ z ∷ w ∷ v ∷ xs) d e = absurd (omega (arith, e))

-- what is below n in pairs is below n in their label
low-label : (n : ℕ) (pairs : List (ℕ × ℤ)) → AllByRecursion (λ (pair : ℕ × ℤ). pair.0 < n) pairs → AllByRecursion (λ (pair : ℕ × ℤ). pair.0 < n) (label_of pairs)
low-label n pairs low =
    all_weaker (λ pair. high pair ≡ false) (λ (pair : ℕ × ℤ). pair.0 < n) below-n (label_of pairs)
    (each_fails high (label_of pairs) (any-label high pairs ∙ none_passes high pairs (all_weaker (λ (pair : ℕ × ℤ). pair.0 < n) (λ pair. high pair ≡ false) (λ pair h. ap not (lt-ltb pair.0 n h)) pairs low)))
  where
    high : ℕ × ℤ → Bool
    high pair = not (nat_lt pair.0 n)

    below-n : (pair : ℕ × ℤ) → high pair ≡ false → pair.0 < n
    below-n pair e = go (nat_lt pair.0 n) refl e
      where
        go : (b : Bool) → nat_lt pair.0 n ≡ b → not b ≡ false → pair.0 < n
        go true is f = ltb-true pair.0 n is
        go false is f = absurd (cc f)

-- a label has pairs at its points
pub marks-low : (m : Mesh) (dim : ℕ) (points : List Sight) → AllByRecursion (λ (pair : ℕ × ℤ). pair.0 < length points) (mesh_label m dim points)
unfolding mesh_label
marks-low m dim points = low-label (length points) (flat_map (λ (s : ℕ × Sight). map (λ value. (s.0, value)) (marks_on m (point_of s.1))) (filter (λ (s : ℕ × Sight). dim_of s.1.poly == dim) (enumerate_from 0 points)))
    (all_flat_map (λ (pair : ℕ × ℤ). pair.0 < length points) (λ (s : ℕ × Sight). map (λ value. (s.0, value)) (marks_on m (point_of s.1))) (filter (λ (s : ℕ × Sight). dim_of s.1.poly == dim) (enumerate_from 0 points))
    (all_weaker (λ (s : ℕ × Sight). s.0 < length points) (λ (s : ℕ × Sight). AllByRecursion (λ (pair : ℕ × ℤ). pair.0 < length points) (map (λ value. (s.0, value)) (marks_on m (point_of s.1))))
    (λ s h. all_map (λ (pair : ℕ × ℤ). pair.0 < length points) (λ value. (s.0, value)) (marks_on m (point_of s.1)) (all_from (λ value. s.0 < length points) (λ value. h) (marks_on m (point_of s.1))))
    (filter (λ (s : ℕ × Sight). dim_of s.1.poly == dim) (enumerate_from 0 points))
    (all_filter (λ (s : ℕ × Sight). s.0 < length points) (λ (s : ℕ × Sight). dim_of s.1.poly == dim) (enumerate_from 0 points) (all_numbered (λ k s. k < length points) 0 points no_sight (λ i low. omega (arith, low))))))

-- so have all labels
pub labels-low : (m : Mesh) (points : List Sight) → AllByRecursion (AllByRecursion (λ (pair : ℕ × ℤ). pair.0 < length points)) (labels m points)
labels-low m points = all_map (AllByRecursion (λ (pair : ℕ × ℤ). pair.0 < length points)) (λ dim. mesh_label m dim points) (below 4) (all_from (λ dim. AllByRecursion (λ (pair : ℕ × ℤ). pair.0 < length points) (mesh_label m dim points)) (λ dim. marks-low m dim points) (below 4))

-- a field has words of each point
pub fields-long : (m : Mesh) (dofs : List (List ℕ)) (points : List Sight) → AllByRecursion (λ (f : List (List ℕ)). length f ≡ length points) (fields m dofs points)
unfolding fields
fields-long m dofs points = all_append (λ (f : List (List ℕ)). length f ≡ length points) (map (λ f. map (data_words m f) points) m.fields) (map (λ counts. map (dof_words m counts) points) dofs)
    (all_map (λ (f : List (List ℕ)). length f ≡ length points) (λ f. map (data_words m f) points) m.fields (all_from (λ f. length (map (data_words m f) points) ≡ length points) (λ f. length-map points (data_words m f)) m.fields))
    (all_map (λ (f : List (List ℕ)). length f ≡ length points) (λ counts. map (dof_words m counts) points) dofs (all_from (λ counts. length (map (dof_words m counts) points) ≡ length points) (λ counts. length-map points (dof_words m counts)) dofs))

-- a rank's mesh has as many of each as it must
pub local-whole : (m : Mesh) (dofs : List (List ℕ)) (a : List ℕ) (cells : List (ℕ × Cell)) → IsLocalMesh (local_mesh m dofs a cells)
unfolding local_mesh diagram
local-whole m dofs a cells =
    let points = chart m cells in
    let many = length-map points (λ (s : Sight). record { poly = s.poly; covers = cone m (place_in points) s }) in
    record {
      keys = length-map points (λ (s : Sight). s.key) ∙ sym many;
      owners = length-map points (λ (s : Sight). owner m a (point_of s)) ∙ sym many;
      labels = refl;
      fields = subst (λ n. AllByRecursion (λ (f : List (List ℕ)). length f ≡ n) (fields m dofs points)) (sym many) (fields-long m dofs points);
      at = length-map (vertices_among points) (λ v. get_or m.at v []) ∙ length-map (filter (λ s. dim_of s.poly == 0) points) (λ (s : Sight). s.key) ∙ length-filter (λ s. dim_of s.poly == 0) points;
    }
