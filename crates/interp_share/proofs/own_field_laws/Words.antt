-- The words of a rank's own points in each field, by the rows that the rank is given and by the weights of the points.
use Rattle.std.proofs.Common.{◌≡◌, ◌≢◌, ℕ, ◌+◌, ◌*◌, ◌/◌, ◌-◌, ◌<◌, ◌≤◌, Bool, true, false, cond, ◌==◌, List, [], ◌∷◌, ◌++◌, map, length, get_or, take, refl, sym, ap, ap₂, subst, ◌∙◌, inl, inr, append_assoc, append-nil, length-append, arith}
use Rattle.std.specs.Prelude.{slice_range, None, Some, option_and_then, unwrap_or}
use Rattle.std.specs.List.{AllByRecursion}
use Rattle.std.proofs.lemmas.Bool.{cond-true, cond-false, eq-eqb, eqb-true, ne_eqb}
use Rattle.std.proofs.lemmas.List.{length-map, get_or-map, map-append, replicate-append-replicate, take_at, drop_at}
use Rattle.plain_lists.specs.Lists.{below}
use Rattle.plain_lists.proofs.Below.{map-below-length}
use Rattle.plain_lists.proofs.Each.{all_weaker, all_from, all_map}
use Rattle.plain_lists.proofs.Filters.{map_same, map_map_same}
use Rattle.mesh_defs.specs.declared.Place.{Place}
use Rattle.mesh_defs.specs.declared.Place.TheVariants.{Node, Element}
use Rattle.mesh_defs.specs.Tables.{dim_of}
use Rattle.mesh_defs.specs.Mesh.{Mesh, Cell, Section}
use Rattle.mesh_defs.specs.Points.{Sight, point_of, vertex_sight, cell_sight}
use Rattle.mesh_defs.specs.RightMesh.{IsFlatOrSolid, IsRightMesh}
use Rattle.plex_defs.specs.Fields.{word_of, row_values, number_on, data_words, weight, dof_words, fields}
use Rattle.rank_defs.specs.Ranks.{assigned}
use Rattle.rank_defs.specs.Spread.{ScatterPart, scatter_part, section_numbers, own_stratum, own_chart}
use Rattle.rank_laws.specs.diagram_laws.Strata.{whole_sights}
use Rattle.rank_laws.proofs.share_laws.Own.{own-of_dim}
use Rattle.local_points.specs.Points.{faces_among, edges_among}
use Rattle.dist_state.specs.scatter_state.Parts.{cell_at, rows_at}
use Rattle.interp_share.specs.rank_fields.Words.{no_words, row_words, multiples, section_words, weighted_words}
use Rattle.interp_share.specs.own_field_laws.Own.{part_points, part_sizes, part_dim, place_at, part_data, part_dofs, whole_weights}
use Rattle.interp_share.proofs.own_field_laws.Points.{own-dims, faces-listed, edges-listed, own-points}

-- a part in the middle of a list
mid-range : (xs ys zs : List ℕ) (i j : ℕ) → length xs ≡ i → length ys ≡ j - i → slice_range (xs ++ (ys ++ zs)) i j ≡ ys
mid-range xs ys zs i j from long = ap (take (j - i)) (drop_at xs (ys ++ zs) i from) ∙ take_at ys zs (j - i) long

-- images of four lists
map-parts : {X Y : Type 0} (f : X → Y) (ws vs fs es : List X) → map f (ws ++ vs ++ fs ++ es) ≡ map f ws ++ map f vs ++ map f fs ++ map f es
map-parts f ws vs fs es = map-append f (ws ++ vs ++ fs) es ∙ ap (λ l. l ++ map f es) (map-append f (ws ++ vs) fs ∙ ap (λ l. l ++ map f fs) (map-append f ws vs))

module _ (m : Mesh) (right : IsRightMesh m) (a : List ℕ) (r : ℕ) where
  abbrev own : List (ℕ × Cell)
  own = assigned m a r

  abbrev part : ScatterPart
  part = scatter_part m a (assigned m a r)

  two-or-more : 2 ≤ m.dim
  two-or-more = go right.sound.dim
    where
      go : IsFlatOrSolid m → 2 ≤ m.dim
      go (inl flat) = omega arith
      go (inr solid) = omega arith

  -- ---- dimensions

  wholes-dim : AllByRecursion (λ (s : Sight). dim_of s.poly ≡ m.dim) (whole_sights (assigned m a r))
  wholes-dim = all_map (λ (s : Sight). dim_of s.poly ≡ m.dim) (λ (c : ℕ × Cell). cell_sight c.0 c.1) own (own-dims m right a r)

  vertices-dim : (vs : List ℕ) → AllByRecursion (λ (s : Sight). dim_of s.poly ≡ 0) (map vertex_sight vs)
  vertices-dim vs = all_map (λ (s : Sight). dim_of s.poly ≡ 0) vertex_sight vs (all_from (λ v. dim_of (vertex_sight v).poly ≡ 0) (λ v. refl) vs)

  -- faces are those of a solid mesh
  abbrev IsFaceHere : Sight → Type 0
  IsFaceHere s = (dim_of s.poly ≡ 2) × (m.dim ≡ 3)

  faces-dim : AllByRecursion (λ (s : Sight). (dim_of s.poly ≡ 2) × (m.dim ≡ 3)) (faces_among (assigned m a r))
  faces-dim = subst (AllByRecursion IsFaceHere) (faces-listed m right a r) (go (m.dim == 3) refl)
    where
      go : (b : Bool) → (m.dim == 3) ≡ b → AllByRecursion IsFaceHere (cond b (own_stratum own 2) [])
      go true e = all_weaker (λ (s : Sight). dim_of s.poly ≡ 2) IsFaceHere (λ s two. (two, eqb-true m.dim 3 e)) (own_stratum own 2) (own-of_dim m own 2)
      go false e = tt

  edges-dim : AllByRecursion (λ (s : Sight). dim_of s.poly ≡ 1) (edges_among (assigned m a r))
  edges-dim = subst (AllByRecursion (λ (s : Sight). dim_of s.poly ≡ 1)) (edges-listed m right a r) (own-of_dim m own 1)

  -- ---- data sections

  module _ (f : Section) where
    abbrev words : List Sight → List (List ℕ)
    words ss = map (data_words m f) ss

    -- points that the section does not name have no words
    nothing : (on : Place) → f.on ≡ on → (ss : List Sight) → AllByRecursion (λ s. number_on m on s ≡ None) ss → map (data_words m f) ss ≡ no_words (length ss)
    unfolding data_words
    nothing on e [] h = refl
    nothing on e (s ∷ ss) h = ap₂ (λ w ws. w ∷ ws) (ap (λ o. map word_of (unwrap_or (option_and_then (row_values f) o) [])) (ap (λ p. number_on m p s) e ∙ h.0)) (nothing on e ss h.1)

    off-node : (s : Sight) → dim_of s.poly ≢ 0 → number_on m Node s ≡ None
    off-node s ne = cond-false (dim_of s.poly == 0) (Some s.key) None (ne_eqb (dim_of s.poly) 0 ne)

    off-element : (s : Sight) → dim_of s.poly ≢ m.dim → number_on m Element s ≡ None
    off-element s ne = cond-false (dim_of s.poly == m.dim) (Some (s.key / 64)) None (ne_eqb (dim_of s.poly) m.dim ne)

    -- those that it names have the words of their rows
    on-node : f.on ≡ Node → (vs : List ℕ) → map (data_words m f) (map vertex_sight vs) ≡ map row_words (map (row_values f) vs)
    unfolding data_words
    on-node e vs =
        map_map_same (data_words m f) vertex_sight (λ v. row_words (row_values f v)) vs (all_from (λ v. data_words m f (vertex_sight v) ≡ row_words (row_values f v)) (λ v. ap (λ p. map word_of (unwrap_or (option_and_then (row_values f) (number_on m p (vertex_sight v))) [])) e) vs)
        ∙ sym (map_map_same row_words (row_values f) (λ v. row_words (row_values f v)) vs (all_from (λ v. row_words (row_values f v) ≡ row_words (row_values f v)) (λ v. refl) vs))

    on-element : f.on ≡ Element → (cells : List (ℕ × Cell)) → AllByRecursion (λ (c : ℕ × Cell). dim_of c.1.poly ≡ m.dim) cells → map (data_words m f) (whole_sights cells) ≡ map row_words (map (row_values f) (map (λ (c : ℕ × Cell). c.0) cells))
    unfolding data_words
    on-element e [] h = refl
    on-element e (c ∷ cells) h = ap₂ (λ w ws. w ∷ ws)
        (ap (λ p. map word_of (unwrap_or (option_and_then (row_values f) (number_on m p (cell_sight c.0 c.1))) [])) e
        ∙ ap (λ o. map word_of (unwrap_or (option_and_then (row_values f) o) [])) (cond-true (dim_of c.1.poly == m.dim) (Some (64 * c.0 / 64)) None (eq-eqb (dim_of c.1.poly) m.dim h.0))
        ∙ ap (λ k. row_words (row_values f k)) (let back : 64 * c.0 / 64 ≡ c.0 = omega arith in back))
        (on-element e cells h.1)

    joined : (i j : ℕ) (l : List (List ℕ)) → l ++ no_words i ++ no_words j ≡ l ++ no_words (i + j)
    joined i j l = append_assoc l (no_words i) (no_words j) ∙ ap (λ k. l ++ k) (replicate-append-replicate i j [])

    -- the words of all points
    data-by_rows : (vs : List ℕ) → map (data_words m f) (whole_sights (assigned m a r) ++ map vertex_sight vs ++ faces_among (assigned m a r) ++ edges_among (assigned m a r))
        ≡ section_words (record { cells = length (assigned m a r); vertices = length vs; faces = length (faces_among (assigned m a r)); edges = length (edges_among (assigned m a r)) }) f.on (map (row_values f) (section_numbers f.on (assigned m a r) vs))
    data-by_rows vs = map-parts (data_words m f) (whole_sights own) (map vertex_sight vs) (faces_among own) (edges_among own) ∙ go f.on refl
      where
        faces : List Sight
        faces = faces_among own

        edges : List Sight
        edges = edges_among own

        go : (on : Place) → f.on ≡ on → map (data_words m f) (whole_sights own) ++ map (data_words m f) (map vertex_sight vs) ++ map (data_words m f) (faces_among own) ++ map (data_words m f) (edges_among own)
            ≡ section_words (record { cells = length own; vertices = length vs; faces = length (faces_among own); edges = length (edges_among own) }) on (map (row_values f) (section_numbers on own vs))
        go Node e =
            (λ i. (nothing Node e (whole_sights own) (all_weaker (λ (s : Sight). dim_of s.poly ≡ m.dim) (λ s. number_on m Node s ≡ None) (λ s d. off-node s (λ z. absurd (omega (arith, two-or-more, d, z)))) (whole_sights own) wholes-dim)
            ∙ ap no_words (length-map own (λ (c : ℕ × Cell). cell_sight c.0 c.1))) i
            ++ on-node e vs i
            ++ nothing Node e (faces_among own) (all_weaker IsFaceHere (λ s. number_on m Node s ≡ None) (λ s d. off-node s (λ z. absurd (omega (arith, d.0, z)))) (faces_among own) faces-dim) i
            ++ nothing Node e (edges_among own) (all_weaker (λ (s : Sight). dim_of s.poly ≡ 1) (λ s. number_on m Node s ≡ None) (λ s d. off-node s (λ z. absurd (omega (arith, d, z)))) (edges_among own) edges-dim) i)
            ∙ joined (length (faces_among own)) (length (edges_among own)) (no_words (length own) ++ map row_words (map (row_values f) vs))
        go Element e =
            (λ i. on-element e own (own-dims m right a r) i
            ++ (nothing Element e (map vertex_sight vs) (all_weaker (λ (s : Sight). dim_of s.poly ≡ 0) (λ s. number_on m Element s ≡ None) (λ s d. off-element s (λ z. absurd (omega (arith, two-or-more, d, z)))) (map vertex_sight vs) (vertices-dim vs))
            ∙ ap no_words (length-map vs vertex_sight)) i
            ++ nothing Element e (faces_among own) (all_weaker IsFaceHere (λ s. number_on m Element s ≡ None) (λ s d. off-element s (λ z. absurd (omega (arith, d.0, d.1, z)))) (faces_among own) faces-dim) i
            ++ nothing Element e (edges_among own) (all_weaker (λ (s : Sight). dim_of s.poly ≡ 1) (λ s. number_on m Element s ≡ None) (λ s d. off-element s (λ z. absurd (omega (arith, two-or-more, d, z)))) (edges_among own) edges-dim) i)
            ∙ ap (λ l. l ++ no_words (length (edges_among own))) (joined (length vs) (length (faces_among own)) (map row_words (map (row_values f) (map (λ (c : ℕ × Cell). c.0) own))))
            ∙ joined (length vs + length (faces_among own)) (length (edges_among own)) (map row_words (map (row_values f) (map (λ (c : ℕ × Cell). c.0) own)))

  -- in the words of the part
  data-by_part : (f : Section) → map (data_words m f) (part_points (scatter_part m a (assigned m a r)))
      ≡ section_words (part_sizes (scatter_part m a (assigned m a r))) f.on (map (row_values f) (section_numbers f.on (assigned m a r) (scatter_part m a (assigned m a r)).vertices))
  unfolding scatter_part
  data-by_part f = data-by_rows f part.vertices

  -- the rows of a part by the sections of the mesh
  section-here : (k : ℕ) (none : Section) → k < length m.fields
      → section_words (part_sizes (scatter_part m a (assigned m a r))) (place_at (map (λ (f : Section). (f.on, f.comps)) m.fields) k) (rows_at (scatter_part m a (assigned m a r)).rows k)
      ≡ map (data_words m (get_or m.fields k none)) (part_points (scatter_part m a (assigned m a r)))
  unfolding scatter_part
  section-here k none low =
      let here = get_or-map {Y = Place × ℕ} (λ (f : Section). (f.on, f.comps)) m.fields k none (Node, 0) low in
      (λ i. section_words (part_sizes part) ((here i).0)
      (get_or-map (λ (f : Section). map (row_values f) (section_numbers f.on own part.vertices)) m.fields k none [] low i))
      ∙ sym (data-by_part (get_or m.fields k none))

  data-fields : (none : Section) → map (λ f. map (data_words m f) (own_chart m (assigned m a r))) m.fields ≡ part_data (map (λ (f : Section). (f.on, f.comps)) m.fields) (scatter_part m a (assigned m a r))
  data-fields none =
      ap (λ ss. map (λ f. map (data_words m f) ss) m.fields) (own-points m right a r)
      ∙ sym (ap (λ n. map by_part (below n)) (length-map m.fields (λ (f : Section). (f.on, f.comps)))
      ∙ map-below-length by_part (λ f. map (data_words m f) (part_points part)) m.fields none (λ k low. section-here k none low))
    where
      by_part : ℕ → List (List ℕ)
      by_part k = section_words (part_sizes part) (place_at (map (λ (f : Section). (f.on, f.comps)) m.fields) k) (rows_at part.rows k)

  -- ---- dofs

  module _ (counts : List ℕ) where
    abbrev weights : List Sight → List ℕ
    weights ss = map (λ (s : Sight). weight m (point_of s)) ss

    -- points of one dimension
    of-dim : (d : ℕ) (ss : List Sight) → AllByRecursion (λ (s : Sight). dim_of s.poly ≡ d) ss → map (dof_words m counts) ss ≡ map (multiples (get_or counts d 0)) (weights ss)
    unfolding dof_words
    of-dim d [] h = refl
    of-dim d (s ∷ ss) h = ap₂ (λ w ws. w ∷ ws) (ap (λ e. multiples (get_or counts e 0) (weight m (point_of s))) h.0) (of-dim d ss h.1)

    -- the first cell has the mesh's dimension
    first-dim : (cells : List (ℕ × Cell)) → AllByRecursion (λ (c : ℕ × Cell). dim_of c.1.poly ≡ m.dim) cells → map (multiples (get_or counts m.dim 0)) (weights (whole_sights cells)) ≡ map (multiples (get_or counts (dim_of (cell_at cells 0).1.poly) 0)) (weights (whole_sights cells))
    first-dim [] h = refl
    first-dim (c ∷ cells) h = ap (λ d. map (multiples (get_or counts d 0)) (weights (whole_sights (c ∷ cells)))) (sym h.0)

    dofs-by_weights : (vs : List ℕ) → map (dof_words m counts) (whole_sights (assigned m a r) ++ map vertex_sight vs ++ faces_among (assigned m a r) ++ edges_among (assigned m a r))
        ≡ weighted_words (record { cells = length (assigned m a r); vertices = length vs; faces = length (faces_among (assigned m a r)); edges = length (edges_among (assigned m a r)) }) (dim_of (cell_at (assigned m a r) 0).1.poly) counts
        (map (λ (s : Sight). weight m (point_of s)) (whole_sights (assigned m a r) ++ map vertex_sight vs ++ faces_among (assigned m a r) ++ edges_among (assigned m a r)))
    dofs-by_weights vs =
        map-parts (dof_words m counts) cells vertices faces edges
        ∙ (λ i. (of-dim m.dim cells wholes-dim ∙ first-dim own (own-dims m right a r) ∙ ap (map (multiples (get_or counts (dim_of (cell_at own 0).1.poly) 0))) (sym first)) i
        ++ (of-dim 0 vertices (vertices-dim vs) ∙ ap (map (multiples (get_or counts 0 0))) (sym second)) i
        ++ (of-dim 2 faces (all_weaker IsFaceHere (λ (s : Sight). dim_of s.poly ≡ 2) (λ s d. d.0) faces faces-dim) ∙ ap (map (multiples (get_or counts 2 0))) (sym third)) i
        ++ (of-dim 1 edges edges-dim ∙ ap (map (multiples (get_or counts 1 0))) (sym fourth)) i)
      where
        cells : List Sight
        cells = whole_sights own

        vertices : List Sight
        vertices = map vertex_sight vs

        faces : List Sight
        faces = faces_among own

        edges : List Sight
        edges = edges_among own

        all : List ℕ
        all = map (λ (s : Sight). weight m (point_of s)) (cells ++ vertices ++ faces ++ edges)

        split : all ≡ weights cells ++ weights vertices ++ weights faces ++ weights edges
        split = map-parts (λ (s : Sight). weight m (point_of s)) cells vertices faces edges

        long : (ss : List Sight) → length (weights ss) ≡ length ss
        long ss = length-map ss (λ (s : Sight). weight m (point_of s))

        cells-long : length (weights cells) ≡ length own
        cells-long = long cells ∙ length-map own (λ (c : ℕ × Cell). cell_sight c.0 c.1)

        vertices-long : length (weights vertices) ≡ length vs
        vertices-long = long vertices ∙ length-map vs vertex_sight

        two-long : length (weights cells ++ weights vertices) ≡ length own + length vs
        two-long = length-append (weights cells) (weights vertices) ∙ (λ i. cells-long i + vertices-long i)

        three-long : length (weights cells ++ weights vertices ++ weights faces) ≡ length own + length vs + length faces
        three-long = length-append (weights cells ++ weights vertices) (weights faces) ∙ (λ i. two-long i + long faces i)

        first : slice_range all 0 (length own) ≡ weights cells
        first = ap (λ l. slice_range l 0 (length own)) (split ∙ append_assoc (weights cells ++ weights vertices) (weights faces) (weights edges) ∙ append_assoc (weights cells) (weights vertices) (weights faces ++ weights edges))
            ∙ mid-range [] (weights cells) (weights vertices ++ (weights faces ++ weights edges)) 0 (length own) refl (cells-long ∙ (let whole : length own ≡ length own - 0 = omega arith in whole))

        second : slice_range all (length own) (length own + length vs) ≡ weights vertices
        second = ap (λ l. slice_range l (length own) (length own + length vs)) (split ∙ append_assoc (weights cells ++ weights vertices) (weights faces) (weights edges) ∙ append_assoc (weights cells) (weights vertices) (weights faces ++ weights edges))
            ∙ mid-range (weights cells) (weights vertices) (weights faces ++ weights edges) (length own) (length own + length vs) cells-long (vertices-long ∙ (let rest : length vs ≡ length own + length vs - length own = omega arith in rest))

        third : slice_range all (length own + length vs) (length own + length vs + length faces) ≡ weights faces
        third = ap (λ l. slice_range l (length own + length vs) (length own + length vs + length faces)) (split ∙ append_assoc (weights cells ++ weights vertices) (weights faces) (weights edges))
            ∙ mid-range (weights cells ++ weights vertices) (weights faces) (weights edges) (length own + length vs) (length own + length vs + length faces) two-long (long faces ∙ (let rest : length faces ≡ length own + length vs + length faces - (length own + length vs) = omega arith in rest))

        fourth : slice_range all (length own + length vs + length faces) (length own + length vs + length faces + length edges) ≡ weights edges
        fourth = ap (λ l. slice_range l (length own + length vs + length faces) (length own + length vs + length faces + length edges)) (split ∙ sym (ap (λ l. weights cells ++ weights vertices ++ weights faces ++ l) (append-nil (weights edges))))
            ∙ mid-range (weights cells ++ weights vertices ++ weights faces) (weights edges) [] (length own + length vs + length faces) (length own + length vs + length faces + length edges) three-long (long edges ∙ (let rest : length edges ≡ length own + length vs + length faces + length edges - (length own + length vs + length faces) = omega arith in rest))

  dofs-by_part : (counts : List ℕ) → map (dof_words m counts) (part_points (scatter_part m a (assigned m a r))) ≡ weighted_words (part_sizes (scatter_part m a (assigned m a r))) (part_dim (scatter_part m a (assigned m a r))) counts (whole_weights m (part_points (scatter_part m a (assigned m a r))))
  unfolding scatter_part
  dofs-by_part counts = dofs-by_weights counts part.vertices

  dof-fields : (dofs : List (List ℕ)) → map (λ counts. map (dof_words m counts) (own_chart m (assigned m a r))) dofs ≡ part_dofs dofs (scatter_part m a (assigned m a r)) (whole_weights m (own_chart m (assigned m a r)))
  dof-fields dofs =
      ap (λ ss. map (λ counts. map (dof_words m counts) ss) dofs) (own-points m right a r)
      ∙ map_same (λ counts. map (dof_words m counts) (part_points part)) (λ counts. weighted_words (part_sizes part) (part_dim part) counts (whole_weights m (part_points part))) dofs (all_from _ dofs-by_part dofs)
      ∙ sym (ap (λ ss. part_dofs dofs part (whole_weights m ss)) (own-points m right a r))

  -- ---- all fields

  pub fields-by_part : (dofs : List (List ℕ)) → fields m dofs (own_chart m (assigned m a r)) ≡ part_data (map (λ (f : Section). (f.on, f.comps)) m.fields) (scatter_part m a (assigned m a r)) ++ part_dofs dofs (scatter_part m a (assigned m a r)) (whole_weights m (own_chart m (assigned m a r)))
  unfolding fields
  fields-by_part dofs = λ i. data-fields (record { name = []; on = Node; comps = 0; rows = [] }) i ++ dof-fields dofs i
