-- What a rank holds at one of its points, by the point's place in the chart.
use Rattle.std.proofs.Common.{◌≡◌, ◌≢◌, ℕ, zero, suc, ◌+◌, ◌-◌, ◌<◌, ◌≤◌, false, cond, ◌==◌, List, [], ◌∷◌, ◌++◌, map, length, get_or, slice_index, reverse, Option, Some, None, ℤ, refl, sym, ap, ◌∙◌, arith, zero-add}
use Rattle.std.specs.Prelude.{filter, flat_map, find, decimal, option_map, option_and_then, unwrap_or}
use Rattle.std.specs.List.{AllByRecursion, enumerate_from}
use Rattle.std.proofs.lemmas.Bool.{eq-eqb, ne_eqb, lt-ltb, le-ltb, cond-true, cond-false}
use Rattle.std.proofs.lemmas.List.{get_or-map, length-map, reverse-append, map-id}
use Rattle.std.proofs.lemmas.List.Folds.{flat_map-map}
use Rattle.std.proofs.lemmas.Grind.{flat_map-append}
use Rattle.std.proofs.lemmas.List.Sums.{sum_by-cons}
use Rattle.std.specs.Fmt.{signed_decimal}
use Rattle.input_defs.specs.line_defs.Numbers.{fixed_text}
use Rattle.plain_lists.proofs.Each.{all_from, all_at, all_weaker, all_both, all_append, all_enumerated}
use Rattle.plain_lists.proofs.Filters.{flat_map_same, map_map_same, count_nothing}
use Rattle.plain_lists.proofs.Finding.{find-has}
use Rattle.plain_lists.proofs.Below.{get_or-map-below}
use Rattle.mesh_defs.specs.declared.Poly.{Poly}
use Rattle.mesh_defs.specs.declared.Poly.TheVariants.{Vertex, Segment, Triangle, Quad, Tet, Hex}
use Rattle.mesh_defs.specs.Tables.{dim_of}
use Rattle.mesh_defs.specs.Mesh.{Mesh, Cell, Row, Section}
use Rattle.mesh_defs.specs.Points.{Sight, vertex_sight, point_of}
use Rattle.mesh_defs.specs.Diagram.{Covering, chart, cone, place_in, diagram, count_in}
use Rattle.input_defs.specs.text_defs.Text.{tag}
use Rattle.plex_defs.specs.Closure.{point_in}
use Rattle.plex_defs.specs.Labels.{mesh_label, values_at}
use Rattle.plex_defs.specs.Fields.{word_of, row_values, number_on, data_words, dof_words, fields}
use Rattle.rank_defs.specs.Ranks.{owner}
use Rattle.rank_defs.specs.Spread.{LocalMesh, vertices_among, local_mesh}
use Rattle.input_defs.specs.Plans.{DofsLine}
use Rattle.input_defs.specs.Further.{label_text, labels_text, field_text, values_text, data_at, data_text}
use Rattle.walk_defs.specs.step_defs.Words.{signed_of, FitsWord, FitsWords}
use Rattle.walk_defs.specs.step_defs.Points.{poly_of, covers_of, owner_of, name_of, labels_of, words_text, fields_of}
use Rattle.headline_laws.proofs.step_laws.Chosen.{enumerated-append, enumerated-map, enumerated-numbers}
use Rattle.headline_laws.proofs.step_laws.Labels.{label-marks}

abbrev pub no_sight : Sight
no_sight = vertex_sight 0

-- the counts of `dofs` lines
abbrev pub counts_of : List DofsLine → List (List ℕ)
counts_of dofs = map (λ (d : DofsLine). d.dofs) dofs

dim-low : (p : Poly) → dim_of p < 4
dim-low Vertex = omega arith
dim-low Segment = omega arith
dim-low Triangle = omega arith
dim-low Quad = omega arith
dim-low Tet = omega arith
dim-low Hex = omega arith

-- ---- data

all-reversed : {X : Type 0} (P : X → Type 0) (xs : List X) → AllByRecursion P xs → AllByRecursion P (reverse xs)
all-reversed P [] h = tt
all-reversed P (x ∷ xs) h = coe 1 0 (i. AllByRecursion P (reverse-append (x ∷ []) xs i)) (all_append P (reverse xs) (x ∷ []) (all-reversed P xs h.1) (h.0, tt))

-- values that fit words come back from them
words-back : (values : List ℤ) → AllByRecursion FitsWord values → map signed_of (map word_of values) ≡ values
words-back values h = map_map_same signed_of word_of (λ v. v) values h ∙ map-id values

-- the values of a section's row, where there is one
row-fits : (f : Section) → AllByRecursion (λ (r : Row). AllByRecursion FitsWord r.values) f.rows → (number : ℕ) → AllByRecursion FitsWord (unwrap_or (row_values f number) [])
unfolding row_values
row-fits f h number = go (find (λ (r : Row). r.number == number) (reverse f.rows)) refl
  where
    go : (o : Option Row) → find (λ (r : Row). r.number == number) (reverse f.rows) ≡ o → AllByRecursion FitsWord (unwrap_or (option_map (λ (r : Row). r.values) o) [])
    go None e = tt
    go (Some r) e = find-has (λ (r : Row). AllByRecursion FitsWord r.values) (λ (r : Row). r.number == number) (reverse f.rows) r (all-reversed (λ (r : Row). AllByRecursion FitsWord r.values) f.rows h) e

-- the values that a point has in a section
pub data-fits : (m : Mesh) (s : Sight) (f : Section) → AllByRecursion (λ (r : Row). AllByRecursion FitsWord r.values) f.rows → AllByRecursion FitsWord (unwrap_or (data_at m s f) [])
data-fits m s f h = go (number_on m f.on s)
  where
    go : (o : Option ℕ) → AllByRecursion FitsWord (unwrap_or (option_and_then (row_values f) o) [])
    go None = tt
    go (Some number) = row-fits f h number

-- the words of a section as values
pub values-back : (m : Mesh) (s : Sight) (f : Section) → AllByRecursion (λ (r : Row). AllByRecursion FitsWord r.values) f.rows → map signed_of (data_words m f s) ≡ unwrap_or (data_at m s f) []
unfolding data_words
values-back m s f h = words-back (unwrap_or (data_at m s f) []) (data-fits m s f h)

-- ---- vertices stand after cells

module _ (m : Mesh) where
  abbrev IsVertex : Sight → Type 0
  IsVertex s = dim_of s.poly ≡ 0

  abbrev IsOther : Sight → Type 0
  IsOther s = dim_of s.poly ≢ 0

  no-vertices : (xs : List Sight) → AllByRecursion IsOther xs → vertices_among xs ≡ []
  no-vertices [] h = refl
  no-vertices (x ∷ xs) h = ap (map (λ (s : Sight). s.key)) (cond-false (dim_of x.poly == 0) (x ∷ filter (λ s. dim_of s.poly == 0) xs) (filter (λ s. dim_of s.poly == 0) xs) (ne_eqb (dim_of x.poly) 0 h.0)) ∙ no-vertices xs h.1

  -- the first of some vertices and others
  first-vertex : (v : Sight) (xs : List Sight) → dim_of v.poly ≡ 0 → vertices_among (v ∷ xs) ≡ v.key ∷ vertices_among xs
  first-vertex v xs is = ap (map (λ (s : Sight). s.key)) (cond-true (dim_of v.poly == 0) (v ∷ filter (λ s. dim_of s.poly == 0) xs) (filter (λ s. dim_of s.poly == 0) xs) (eq-eqb (dim_of v.poly) 0 is))

  -- among vertices and then others, vertex k is the one at place k
  vertex-among : (vs xs : List Sight) → AllByRecursion IsVertex vs → AllByRecursion IsOther xs → (k : ℕ) → k < length (vs ++ xs) → dim_of (get_or (vs ++ xs) k no_sight).poly ≡ 0
      → (get_or (vertices_among (vs ++ xs)) k 0 ≡ (get_or (vs ++ xs) k no_sight).key) × (k < length (vertices_among (vs ++ xs)))
  vertex-among [] xs p q k lt is = absurd (all_at IsOther xs k no_sight q lt is)
  vertex-among (v ∷ vs) xs p q zero lt is = coe 1 0 (i. (get_or (first-vertex v (vs ++ xs) p.0 i) 0 0 ≡ v.key) × (0 < length (first-vertex v (vs ++ xs) p.0 i))) (refl, omega arith)
  vertex-among (v ∷ vs) xs p q (suc k) lt is =
      let rest = vertex-among vs xs p.1 q k (omega (arith, lt)) is in
      coe 1 0 (i. (get_or (first-vertex v (vs ++ xs) p.0 i) (suc k) 0 ≡ (get_or (vs ++ xs) k no_sight).key) × (suc k < length (first-vertex v (vs ++ xs) p.0 i))) (rest.0, omega (arith, rest.1))

  -- points of a dimension above 0, then vertices, then others
  pub vertex-after : (d : ℕ) (cs vs xs : List Sight) → d ≢ 0 → AllByRecursion (λ (s : Sight). dim_of s.poly ≡ d) cs → AllByRecursion IsVertex vs → AllByRecursion (λ (s : Sight). (dim_of s.poly ≢ 0) × (dim_of s.poly ≢ d)) xs
      → (p : ℕ) → p < length (cs ++ (vs ++ xs)) → dim_of (get_or (cs ++ (vs ++ xs)) p no_sight).poly ≡ 0
      → (get_or (vertices_among (cs ++ (vs ++ xs))) (p - count_in d (cs ++ (vs ++ xs))) 0 ≡ (get_or (cs ++ (vs ++ xs)) p no_sight).key) × (p - count_in d (cs ++ (vs ++ xs)) < length (vertices_among (cs ++ (vs ++ xs))))
  vertex-after d [] vs xs ne hc hv hx p lt is =
      let others : AllByRecursion IsOther xs = all_weaker (λ (s : Sight). (dim_of s.poly ≢ 0) × (dim_of s.poly ≢ d)) IsOther (λ s h. h.0) xs hx in
      let none : count_in d (vs ++ xs) ≡ 0 = count_nothing (λ s. dim_of s.poly == d) (vs ++ xs)
      (all_append (λ (s : Sight). (dim_of s.poly == d) ≡ false) vs xs
      (all_weaker IsVertex (λ s. (dim_of s.poly == d) ≡ false) (λ s h. ne_eqb (dim_of s.poly) d (λ e. ne (sym e ∙ h))) vs hv)
      (all_weaker (λ (s : Sight). (dim_of s.poly ≢ 0) × (dim_of s.poly ≢ d)) (λ s. (dim_of s.poly == d) ≡ false) (λ s h. ne_eqb (dim_of s.poly) d h.1) xs hx)) in
      let place : p - count_in d (vs ++ xs) ≡ p = omega (arith, none) in
      coe 1 0 (i. (get_or (vertices_among (vs ++ xs)) (place i) 0 ≡ (get_or (vs ++ xs) p no_sight).key) × (place i < length (vertices_among (vs ++ xs)))) (vertex-among vs xs hv others p lt is)
  vertex-after d (c ∷ cs) vs xs ne hc hv hx zero lt is = absurd (ne (sym hc.0 ∙ is))
  vertex-after d (c ∷ cs) vs xs ne hc hv hx (suc p) lt is =
      let rest = vertex-after d cs vs xs ne hc.1 hv hx p (omega (arith, lt)) is in
      let without : vertices_among (c ∷ (cs ++ (vs ++ xs))) ≡ vertices_among (cs ++ (vs ++ xs)) = ap (map (λ (s : Sight). s.key)) (cond-false (dim_of c.poly == 0) (c ∷ filter (λ s. dim_of s.poly == 0) (cs ++ (vs ++ xs))) (filter (λ s. dim_of s.poly == 0) (cs ++ (vs ++ xs))) (ne_eqb (dim_of c.poly) 0 (λ e. ne (sym hc.0 ∙ e)))) in
      let count : count_in d (c ∷ (cs ++ (vs ++ xs))) ≡ 1 + count_in d (cs ++ (vs ++ xs)) = sum_by-cons (λ s. cond (dim_of s.poly == d) 1 0) c (cs ++ (vs ++ xs)) ∙ ap (λ b. cond b 1 0 + count_in d (cs ++ (vs ++ xs))) (eq-eqb (dim_of c.poly) d hc.0) in
      let place : suc p - count_in d (c ∷ (cs ++ (vs ++ xs))) ≡ p - count_in d (cs ++ (vs ++ xs)) = omega (arith, count) in
      coe 1 0 (i. (get_or (without i) (place i) 0 ≡ (get_or (cs ++ (vs ++ xs)) p no_sight).key) × (place i < length (without i))) rest

-- ---- what a rank has at a place of its chart

module _ (m : Mesh) (dofs : List DofsLine) (a : List ℕ) (cells : List (ℕ × Cell)) where
  -- what the rank has
  abbrev mine : LocalMesh
  mine = local_mesh m (counts_of dofs) a cells

  -- the point at a place
  abbrev at : ℕ → Sight
  at p = get_or (chart m cells) p no_sight

  pub dim-is : mine.diagram.dim ≡ m.dim
  unfolding local_mesh diagram
  dim-is = refl

  pub points-many : length mine.diagram.points ≡ length (chart m cells)
  unfolding local_mesh diagram
  points-many = length-map (chart m cells) (λ s. record { poly = s.poly; covers = cone m (place_in (chart m cells)) s })

  pub point-is : (p : ℕ) → p < length (chart m cells) → point_in mine.diagram p ≡ record { poly = (at p).poly; covers = cone m (place_in (chart m cells)) (at p) }
  unfolding local_mesh diagram
  point-is p lt = get_or-map (λ s. record { poly = s.poly; covers = cone m (place_in (chart m cells)) s }) (chart m cells) p no_sight (record { poly = Vertex; covers = [] }) lt

  pub poly-is : (p : ℕ) → p < length (chart m cells) → poly_of mine p ≡ (at p).poly
  poly-is p lt = ap (λ (c : Covering). c.poly) (point-is p lt)

  pub covers-is : (p : ℕ) → p < length (chart m cells) → covers_of mine p ≡ cone m (place_in (chart m cells)) (at p)
  covers-is p lt = ap (λ (c : Covering). c.covers) (point-is p lt)

  pub key-is : (p : ℕ) → p < length (chart m cells) → slice_index mine.keys p ≡ (at p).key
  unfolding local_mesh
  key-is p lt = get_or-map (λ (s : Sight). s.key) (chart m cells) p no_sight 0 lt

  pub owner-is : (p : ℕ) → p < length (chart m cells) → owner_of mine p ≡ owner m a (point_of (at p))
  unfolding local_mesh
  owner-is p lt = get_or-map (λ s. owner m a (point_of s)) (chart m cells) p no_sight 0 lt

  pub name-is : (p : ℕ) → p < length (chart m cells) → name_of mine p ≡ tag m.dim (at p).poly (at p).key
  name-is p lt = (λ i. tag (dim-is i) (poly-is p lt i) (key-is p lt i))

  -- the label values
  label-is : (dim : ℕ) → dim < 4 → get_or mine.labels dim [] ≡ mesh_label m dim (chart m cells)
  unfolding local_mesh
  label-is dim low = get_or-map-below (λ e. mesh_label m e (chart m cells)) 4 dim [] low

  pub labels-are : (p : ℕ) → p < length (chart m cells) → labels_of mine p ≡ labels_text m (point_of (at p))
  unfolding labels_of labels_text
  labels-are p lt =
      let dim = dim_of (at p).poly in
      (λ i. flat_map (λ v. label_text (dim-is i) (dim_of (poly-is p lt i)) ++ signed_decimal v) (values_at (get_or mine.labels (dim_of (poly-is p lt i)) []) p))
      ∙ ap (flat_map (λ v. label_text m.dim dim ++ signed_decimal v)) (ap (λ l. values_at l p) (label-is dim (dim-low (at p).poly)) ∙ label-marks m (chart m cells) p no_sight lt)

  -- ---- words

  -- the text of the words of a data section
  data-line : FitsWords m → (p : ℕ) → p < length (chart m cells) → (i : ℕ) (f : Section) → AllByRecursion (λ (r : Row). AllByRecursion FitsWord r.values) f.rows → i < length m.fields
      → words_text (length m.fields) i (get_or (map (data_words m f) (chart m cells)) p []) ≡ values_text i (data_at m (at p) f)
  unfolding words_text
  data-line fits p lt i f rows low =
      (λ j. field_text i (cond (lt-ltb i (length m.fields) low j) (map (λ w. fixed_text (signed_of w)) (words j)) (map decimal (words j))))
      ∙ ap (field_text i) (sym (map_map_same fixed_text signed_of (λ w. fixed_text (signed_of w)) (data_words m f (at p)) (all_from _ (λ w. refl) (data_words m f (at p)))) ∙ ap (map fixed_text) (values-back m (at p) f rows))
      ∙ by (data_at m (at p) f)
    where
      words : get_or (map (data_words m f) (chart m cells)) p [] ≡ data_words m f (at p)
      words = get_or-map (data_words m f) (chart m cells) p no_sight [] lt

      by : (o : Option (List ℤ)) → field_text i (map fixed_text (unwrap_or o [])) ≡ values_text i o
      by None = refl
      by (Some values) = refl

  -- and of a `dofs` line
  dofs-line : (p : ℕ) → p < length (chart m cells) → (i : ℕ) (d : DofsLine) → length m.fields ≤ i
      → words_text (length m.fields) i (get_or (map (dof_words m d.dofs) (chart m cells)) p []) ≡ field_text i (map decimal (dof_words m d.dofs (at p)))
  unfolding words_text
  dofs-line p lt i d high =
      (λ j. field_text i (cond (le-ltb i (length m.fields) high j) (map (λ w. fixed_text (signed_of w)) (words j)) (map decimal (words j))))
    where
      words : get_or (map (dof_words m d.dofs) (chart m cells)) p [] ≡ dof_words m d.dofs (at p)
      words = get_or-map (dof_words m d.dofs) (chart m cells) p no_sight [] lt

  abbrev pub data_fields : List (List (List ℕ))
  data_fields = map (λ f. map (data_words m f) (chart m cells)) m.fields

  abbrev pub dofs_fields : List (List (List ℕ))
  dofs_fields = map (λ counts. map (dof_words m counts) (chart m cells)) (counts_of dofs)

  pub fields-are : mine.fields ≡ data_fields ++ dofs_fields
  unfolding local_mesh fields
  fields-are = refl

  pub words-are : FitsWords m → (p : ℕ) → p < length (chart m cells) → fields_of (length m.fields) mine p ≡ data_text m dofs (at p)
  unfolding fields_of data_text
  words-are fits p lt =
      ap (λ l. flat_map text (enumerate_from 0 l)) fields-are
      ∙ ap (flat_map text) (enumerated-append 0 data_fields dofs_fields)
      ∙ flat_map-append text (enumerate_from 0 data_fields) (enumerate_from (0 + length data_fields) dofs_fields)
      ∙ (λ i. rows i ++ more i)
    where
      text : ℕ × List (List ℕ) → List ℕ
      text f = words_text (length m.fields) f.0 (get_or f.1 p [])

      rows : flat_map text (enumerate_from 0 data_fields) ≡ flat_map (λ (f : ℕ × Section). values_text f.0 (data_at m (at p) f.1)) (enumerate_from 0 m.fields)
      rows =
          ap (flat_map text) (enumerated-map (λ f. map (data_words m f) (chart m cells)) 0 m.fields)
          ∙ flat_map-map text (λ (f : ℕ × Section). (f.0, map (data_words m f.1) (chart m cells))) (enumerate_from 0 m.fields)
          ∙ flat_map_same _ (λ (f : ℕ × Section). values_text f.0 (data_at m (at p) f.1)) (enumerate_from 0 m.fields)
          (all_both (λ (f : ℕ × Section). (0 ≤ f.0) × (f.0 < 0 + length m.fields)) (λ (f : ℕ × Section). AllByRecursion (λ (r : Row). AllByRecursion FitsWord r.values) f.1.rows) _
          (λ f low rows. data-line fits p lt f.0 f.1 rows (omega (arith, low.1))) (enumerate_from 0 m.fields) (enumerated-numbers 0 m.fields)
          (all_enumerated (λ (f : Section). AllByRecursion (λ (r : Row). AllByRecursion FitsWord r.values) f.rows) 0 m.fields fits))

      start : 0 + length data_fields ≡ length m.fields
      start = zero-add (length data_fields) ∙ length-map m.fields (λ f. map (data_words m f) (chart m cells))

      more : flat_map text (enumerate_from (0 + length data_fields) dofs_fields) ≡ flat_map (λ (d : ℕ × DofsLine). field_text d.0 (map decimal (dof_words m d.1.dofs (at p)))) (enumerate_from (length m.fields) dofs)
      more =
          ap (λ n. flat_map text (enumerate_from n dofs_fields)) start
          ∙ ap (flat_map text) (enumerated-map (λ counts. map (dof_words m counts) (chart m cells)) (length m.fields) (counts_of dofs) ∙ ap (map (λ (x : ℕ × List ℕ). (x.0, map (dof_words m x.1) (chart m cells)))) (enumerated-map (λ (d : DofsLine). d.dofs) (length m.fields) dofs))
          ∙ flat_map-map text (λ (x : ℕ × List ℕ). (x.0, map (dof_words m x.1) (chart m cells))) (map (λ (d : ℕ × DofsLine). (d.0, d.1.dofs)) (enumerate_from (length m.fields) dofs))
          ∙ flat_map-map (λ (x : ℕ × List ℕ). text (x.0, map (dof_words m x.1) (chart m cells))) (λ (d : ℕ × DofsLine). (d.0, d.1.dofs)) (enumerate_from (length m.fields) dofs)
          ∙ flat_map_same _ (λ (d : ℕ × DofsLine). field_text d.0 (map decimal (dof_words m d.1.dofs (at p)))) (enumerate_from (length m.fields) dofs)
          (all_weaker (λ (d : ℕ × DofsLine). (length m.fields ≤ d.0) × (d.0 < length m.fields + length dofs)) _ (λ d h. dofs-line p lt d.0 d.1 h.0) (enumerate_from (length m.fields) dofs) (enumerated-numbers (length m.fields) dofs))
