-- A file without the elements on no point has the same mesh, but for two counts.
use Rattle.std.proofs.Common.{◌≡◌, ◌-◌, Bool, true, false, cond, not, ◌&&◌, ◌==◌, nat_lt, List, [], ◌∷◌, ◌++◌, map, length, Option, Some, None, Ok, Err, refl, sym, ap, ap₂, ◌∙◌}
use Rattle.std.specs.Prelude.{filter, filter_map, find, position, option_map, option_and_then, unwrap_or, is_none}
use Rattle.std.specs.List.{AllByRecursion, list_any, cons_option}
use Rattle.std.proofs.lemmas.Bool.{and_parts, and_from, or_left, or_right, eqb-true, eq-eqb}
use Rattle.std.proofs.lemmas.List.Folds.{list_any-append}
use Rattle.std.specs.Cmp.Lexicographic.{same_text}
use Rattle.plain_lists.specs.Lists.{sorted, same_list}
use Rattle.plain_lists.proofs.Each.{all_weaker, all_from}
use Rattle.plain_lists.proofs.Filters.{filter_agree, filter_none, filter_passing, map_same}
use Rattle.plain_lists.proofs.Finding.{any_same, any_weaker, find_agree, find-passes, find-has, stands}
use Rattle.plain_lists.proofs.Sorted.{same_list-self}
use Rattle.mesh_defs.specs.declared.Place.{Place}
use Rattle.mesh_defs.specs.declared.Place.TheVariants as place
use Rattle.mesh_defs.specs.Mesh.{Mesh, Row, Section}
use Rattle.mesh_defs.specs.Orientation.{relative}
use Rattle.input_defs.specs.Content.{Node, Element, Content}
use Rattle.input_defs.specs.Sections.{has_number}
use Rattle.input_defs.specs.RightContent.{IsRight}
use Rattle.input_defs.specs.declared.MeshFault.{MeshFault}
use Rattle.input_defs.specs.declared.MeshFault.TheVariants.{NoCells, TooManyCells, CellTwist}
use Rattle.input_defs.specs.Causes.{unless}
use Rattle.input_defs.specs.Meshes.{poly, dim, same_nodes, same_place, kept_after, kept, greatest_dim, is_top, vertex_nodes, cell_elements, cell_of, cells_of, point_of_element, is_point_of, is_labelled, mark_of, marks_of, loose_elements, row_of, section_on, mesh_of, first_at, is_twisted, twist, accepted}
use Rattle.input_laws.proofs.Kept.{accepted-mesh}
use Rattle.input_laws.proofs.Sets.{all-kept}
use Rattle.mesh_check.specs.element_points.Parts.{Part, part, vertex_parts, face_parts, edge_parts, parts_of, is_on}
use Rattle.mesh_check.proofs.element_points.OnPoints.{on-points}
use Rattle.mesh_check.specs.accepted_laws.Loose.{is_on_point, without_loose, NamesOnPoints}
use Rattle.mesh_check.proofs.accepted_laws.Filtered.{any-within, filter-within, find-within, greatest-within, kept-there, kept-filter}

module _ (c : Content) (right : IsRight c) where
  abbrev q : Element → Bool
  q = is_on_point c

  abbrev d : Content
  d = without_loose c

  -- elements at one place are on a point or not together
  whole : (e f : Element) → same_place e f ≡ true → q e ≡ q f
  whole e f h =
      let both = and_parts (dim e == dim f) (same_nodes e f) h in
      on-points c right e
      ∙ ap₂ (λ n s. list_any (λ (own : Element). list_any (λ (p : Part). (n == p.dim) && same_list s (sorted p.nodes)) (parts_of (poly own) own.nodes)) (cell_elements c)) (eqb-true (dim e) (dim f) both.0) (same_text (sorted e.nodes) (sorted f.nodes) (sym both.1))
      ∙ sym (on-points c right f)

  -- a cell has itself as a part
  own-part : (e own : Element) → same_place e own ≡ true → list_any (is_on (dim e) e.nodes) (parts_of (poly own) own.nodes) ≡ true
  unfolding parts_of
  own-part e own h =
      let rest = face_parts (poly own) own.nodes ++ edge_parts (poly own) own.nodes in
      list_any-append (is_on (dim e) e.nodes) (vertex_parts own.nodes) (part (dim own) own.nodes ∷ rest)
      ∙ or_right (list_any (is_on (dim e) e.nodes) (vertex_parts own.nodes)) (list_any (is_on (dim e) e.nodes) (part (dim own) own.nodes ∷ rest)) (or_left (is_on (dim e) e.nodes (part (dim own) own.nodes)) (list_any (is_on (dim e) e.nodes) rest) h)

  -- elements of the mesh's dimension are on points
  tops : AllByRecursion (λ e. is_top c e ≡ true → q e ≡ true) c.elements
  unfolding cell_elements kept
  tops = all_weaker (λ (e : Element). (p : Element → Bool) → p e ≡ true → list_any p c.elements ≡ true) (λ e. is_top c e ≡ true → q e ≡ true) top c.elements (stands c.elements)
    where
      top : (e : Element) → ((p : Element → Bool) → p e ≡ true → list_any p c.elements ≡ true) → is_top c e ≡ true → q e ≡ true
      top e among h =
          let itself : same_place e e ≡ true = and_from (dim e == dim e) (same_nodes e e) (eq-eqb (dim e) (dim e) refl) (same_list-self (sorted e.nodes)) in
          let there = kept-there e c.elements (among (same_place e) itself) in
          let cells : list_any (same_place e) (filter (is_top c) (kept_after [] c.elements)) ≡ true =
          any-within (same_place e) (is_top c) (kept_after [] c.elements) (all_from (λ x. same_place e x ≡ true → is_top c x ≡ true) (λ x k. ap (λ n. n == greatest_dim c) (sym (eqb-true (dim e) (dim x) (and_parts (dim e == dim x) (same_nodes e x) k).0)) ∙ h) (kept_after [] c.elements)) ∙ there in
          on-points c right e ∙ any_weaker (same_place e) (λ (own : Element). list_any (is_on (dim e) e.nodes) (parts_of (poly own) own.nodes)) (own-part e) (filter (is_top c) (kept_after [] c.elements)) cells

  dims : greatest_dim d ≡ greatest_dim c
  unfolding greatest_dim
  dims = greatest-within dim q c.elements tops

  top-same : (e : Element) → is_top d e ≡ is_top c e
  top-same e = ap (λ n. dim e == n) dims

  vertices : vertex_nodes d ≡ vertex_nodes c
  unfolding vertex_nodes
  vertices = filter_agree (λ (node : Node). list_any (λ e. is_top d e && has_number e.nodes node.number) (filter q c.elements)) (λ (node : Node). list_any (λ e. is_top c e && has_number e.nodes node.number) c.elements) c.nodes
      (all_from (λ (node : Node). list_any (λ e. is_top d e && has_number e.nodes node.number) (filter q c.elements) ≡ list_any (λ e. is_top c e && has_number e.nodes node.number) c.elements)
      (λ (node : Node). any_same (λ e. is_top d e && has_number e.nodes node.number) (λ e. is_top c e && has_number e.nodes node.number) (λ (e : Element). ap (λ t. t && has_number e.nodes node.number) (top-same e)) (filter q c.elements)
      ∙ any-within (λ e. is_top c e && has_number e.nodes node.number) q c.elements (all_weaker (λ e. is_top c e ≡ true → q e ≡ true) (λ e. (is_top c e && has_number e.nodes node.number) ≡ true → q e ≡ true) (λ e f h. f (and_parts (is_top c e) (has_number e.nodes node.number) h).0) c.elements tops)) c.nodes)

  kept-same : kept d ≡ filter q (kept c)
  unfolding kept
  kept-same = kept-filter q whole [] c.elements

  cells-same : cell_elements d ≡ cell_elements c
  unfolding cell_elements kept
  cells-same = ap (filter (is_top d)) (kept-filter q whole [] c.elements)
      ∙ filter_agree (is_top d) (is_top c) (filter q (kept_after [] c.elements)) (all_from (λ e. is_top d e ≡ is_top c e) top-same (filter q (kept_after [] c.elements)))
      ∙ filter-within (is_top c) q (kept_after [] c.elements) (all-kept (λ e. is_top c e ≡ true → q e ≡ true) [] c.elements tops)

  cells : cells_of d ≡ cells_of c
  unfolding cells_of
  cells = ap₂ (λ v es. map (cell_of v) es) vertices cells-same

  on-same : (e : Element) → is_on_point d e ≡ q e
  on-same e = ap₂ (λ cs v. is_point_of cs (point_of_element v e)) cells vertices

  marks : marks_of d ≡ marks_of c
  unfolding marks_of
  marks = ap₂ (λ v es. map (mark_of v) es) vertices
      (filter_agree (λ e. is_labelled e && is_on_point d e) (λ e. is_labelled e && q e) (filter q c.elements) (all_from (λ e. (is_labelled e && is_on_point d e) ≡ (is_labelled e && q e)) (λ e. ap (λ t. is_labelled e && t) (on-same e)) (filter q c.elements))
      ∙ filter-within (λ e. is_labelled e && q e) q c.elements (all_from (λ e. (is_labelled e && q e) ≡ true → q e ≡ true) (λ e h. (and_parts (is_labelled e) (q e) h).1) c.elements))

  none-loose : length (loose_elements d) ≡ 0
  unfolding loose_elements
  none-loose = ap length (ap (filter (λ e. not (is_on_point d e))) kept-same
      ∙ filter_agree (λ e. not (is_on_point d e)) (λ e. not (q e)) (filter q (kept c)) (all_from (λ e. not (is_on_point d e) ≡ not (q e)) (λ e. ap not (on-same e)) (filter q (kept c)))
      ∙ filter_none (λ e. not (q e)) (filter q (kept c)) (all_weaker (λ e. q e ≡ true) (λ e. not (q e) ≡ false) (λ e h. ap not h) (filter q (kept c)) (filter_passing q (kept c))))

  -- ---- data

  named : (on : Place) (rows : List Row) → NamesOnPoints c on rows → AllByRecursion (λ (row : Row). row_of d on row ≡ row_of c on row) rows
  named place.Node rows h = all_from (λ (row : Row). row_of d place.Node row ≡ row_of c place.Node row) (λ (row : Row). ap (λ v. option_map (λ at. record row { number = at }) (position (λ (node : Node). node.number == row.number) v)) vertices) rows
  named place.Element rows h = all_weaker (λ (row : Row). AllByRecursion (λ (e : Element). (e.number == row.number) ≡ true → q e ≡ true) c.elements) (λ (row : Row). row_of d place.Element row ≡ row_of c place.Element row)
      (λ (row : Row) on. ap₂ (λ cs o. option_map (λ at. record row { number = at }) (option_and_then (λ e. position (same_nodes e) cs) o)) cells-same (find-within (λ (e : Element). e.number == row.number) q c.elements on)) rows h

  rows-same : (f g : Row → Option Row) (rows : List Row) → AllByRecursion (λ row. f row ≡ g row) rows → filter_map f rows ≡ filter_map g rows
  rows-same f g [] h = refl
  rows-same f g (row ∷ rows) h = ap₂ cons_option h.0 (rows-same f g rows h.1)

  section : (s : Section) → NamesOnPoints c s.on s.rows → section_on d s ≡ section_on c s
  unfolding section_on
  section s h = ap (λ rows. record s { rows = rows }) (rows-same (row_of d s.on) (row_of c s.on) s.rows (named s.on s.rows h))

  -- ---- twists

  first-same : (e : Element) → q e ≡ true → first_at d e ≡ first_at c e
  first-same e on = ap (λ o. unwrap_or o e) (find-within (same_place e) q c.elements (all_from (λ x. same_place e x ≡ true → q x ≡ true) (λ x h. sym (whole e x h) ∙ on) c.elements))

  twisted-same : (e : Element) → q e ≡ true → is_twisted d e ≡ is_twisted c e
  twisted-same e on = ap₂ (λ t (f : Element). t && is_none (relative (poly e) f.nodes e.nodes)) (top-same e) (first-same e on)

  twists : twist d ≡ twist c
  unfolding twist
  twists = ap (option_map (λ (e : Element). CellTwist e.number (first_at d e).number))
      (find_agree (is_twisted d) (is_twisted c) (filter q c.elements) (all_weaker (λ e. q e ≡ true) (λ e. is_twisted d e ≡ is_twisted c e) twisted-same (filter q c.elements) (filter_passing q c.elements))
      ∙ find-within (is_twisted c) q c.elements (all_weaker (λ e. is_top c e ≡ true → q e ≡ true) (λ e. is_twisted c e ≡ true → q e ≡ true) (λ e f h. f (top-of e h)) c.elements tops))
      ∙ go (find (is_twisted c) c.elements) refl
    where
      top-of : (e : Element) → is_twisted c e ≡ true → is_top c e ≡ true
      top-of e h = (and_parts (is_top c e) (is_none (relative (poly e) (first_at c e).nodes e.nodes)) h).0

      go : (o : Option Element) → find (is_twisted c) c.elements ≡ o → option_map (λ (e : Element). CellTwist e.number (first_at d e).number) o ≡ option_map (λ (e : Element). CellTwist e.number (first_at c e).number) o
      go None is = refl
      go (Some e) is = ap (λ (f : Element). Some (CellTwist e.number f.number)) (first-same e (find-has (λ x. is_top c x ≡ true → q x ≡ true) (is_twisted c) c.elements e tops is (top-of e (find-passes (is_twisted c) c.elements e is))))

  -- ---- the mesh

  mesh : AllByRecursion (λ (s : Section). NamesOnPoints c s.on s.rows) c.fields → mesh_of d ≡ record (mesh_of c) { loose = 0; merged = length d.elements - length (kept d) }
  unfolding mesh_of
  mesh h = λ i. record {
    dim = dims i;
    at = map (λ (node : Node). node.at) (vertices i);
    cells = cells i;
    marks = marks i;
    names = c.names;
    fields = map_same (section_on d) (section_on c) c.fields (all_weaker (λ (s : Section). NamesOnPoints c s.on s.rows) (λ (s : Section). section_on d s ≡ section_on c s) section c.fields h) i;
    unused = length c.nodes - length (vertices i);
    loose = none-loose i;
    merged = length d.elements - length (kept d);
  }

  pub same-mesh : (m : Mesh) → AllByRecursion (λ (s : Section). NamesOnPoints c s.on s.rows) c.fields → accepted c ≡ Ok m → accepted d ≡ Ok (record m { loose = 0; merged = length d.elements - length (kept d) })
  unfolding accepted
  same-mesh m named_on h =
      (λ i. cond (nat_lt (dims i) 2) (Err (NoCells (dims i))) (cond (nat_lt 250000 (length (cells-same i))) (Err TooManyCells) (unless (twists i) (mesh_of d))))
      ∙ go (nat_lt (greatest_dim c) 2) (nat_lt 250000 (length (cell_elements c))) (twist c) h
      ∙ ap Ok (mesh named_on ∙ ap (λ (x : Mesh). record x { loose = 0; merged = length d.elements - length (kept d) }) (accepted-mesh c m h))
    where
      go : (a b : Bool) (t : Option MeshFault) → cond a (Err (NoCells (greatest_dim c))) (cond b (Err TooManyCells) (unless t (mesh_of c))) ≡ Ok m → cond a (Err (NoCells (greatest_dim c))) (cond b (Err TooManyCells) (unless t (mesh_of d))) ≡ Ok (mesh_of d)
      go true b t e = absurd (cc e)
      go false true t e = absurd (cc e)
      go false false (Some f) e = absurd (cc e)
      go false false None e = refl
