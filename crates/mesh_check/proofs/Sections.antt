-- Data sections on the mesh of a content.
use Rattle.std.proofs.Common.{◌≡◌, ℕ, zero, suc, ◌<◌, Bool, true, List, [], ◌∷◌, length, Some, Ok, refl, sym, ap, ◌∙◌, subst}
use Rattle.std.specs.List.{AllByRecursion, list_any, slice_get}
use Rattle.std.proofs.lemmas.Bool.{or_left, or_right}
use Rattle.plain_lists.proofs.Each.{all_mapped, all_weaker}
use Rattle.mesh_defs.specs.declared.Place.{Place}
use Rattle.mesh_defs.specs.declared.Place.TheVariants as place
use Rattle.mesh_defs.specs.Mesh.{Mesh, Row, Section}
use Rattle.mesh_defs.specs.RightMesh.{count_on, IsRightRow, IsRightSection}
use Rattle.plex_base.specs.DataFields.{FieldRows, section_on}
use Rattle.plex_mesh.specs.Right.{IsComponents, AreKnownRows}
use Rattle.input_defs.specs.Content.{Content}
use Rattle.input_defs.specs.RightContent.{IsRight, IsRightField, element_numbers}
use Rattle.input_defs.specs.Meshes.{cells_of, mesh_of, accepted, section_on as section_on_mesh}
use Rattle.input_laws.proofs.RightAccepted.{right-accepted}
use Rattle.mesh_check.specs.data_rows.Naming.{KnowsElements, is_on_elements, has_element_data}
use Rattle.mesh_check.specs.Partly.{coordinates}

-- what passes in a list
any-get : {X : Type 0} (p : X → Bool) (xs : List X) (i : ℕ) (x : X) → slice_get xs i ≡ Some x → p x ≡ true → list_any p xs ≡ true
any-get p [] i x h k = absurd (cc h)
any-get p (y ∷ ys) zero x h k = let same : y ≡ x = cc h in or_left (p y) (list_any p ys) (ap p same ∙ k)
any-get p (y ∷ ys) (suc i) x h k = or_right (p y) (list_any p ys) (any-get p ys i x h k)

-- what holds of all holds of one
all-get : {X : Type 0} (P : X → Type 0) (xs : List X) (i : ℕ) (x : X) → AllByRecursion P xs → slice_get xs i ≡ Some x → P x
all-get P [] i x all h = absurd (cc h)
all-get P (y ∷ ys) zero x all h = let same : y ≡ x = cc h in subst P same all.0
all-get P (y ∷ ys) (suc i) x all h = all-get P ys i x all.1 h

-- where a section is on elements their numbers are known
pub knows : (c t : Content) (on : Place) (f : FieldRows) (i : ℕ) (numbers : List ℕ) → t ≡ c → slice_get t.fields i ≡ Some (section_on on f) → (has_element_data t.fields ≡ true → numbers ≡ element_numbers t) → KnowsElements on numbers c
knows c t place.Node f i numbers same at known = tt
knows c t place.Element f i numbers same at known = known (any-get (λ (s : Section). is_on_elements s.on) t.fields i (section_on place.Element f) at refl) ∙ ap element_numbers same

-- its components are 1, 3 or 9
pub next-components : (c : Content) (on : Place) (f g : FieldRows) (i : ℕ) → IsRight c → slice_get c.fields i ≡ Some (section_on on f) → section_on on g ≡ section_on_mesh c (section_on on f) → IsComponents g.comps
unfolding section_on_mesh
next-components c on f g i right at is = subst IsComponents (sym (ap (λ (s : Section). s.comps) is)) (all-get (IsRightField c) c.fields i (section_on on f) right.fields at).comps

counts-same : (c : Content) (m : Mesh) (on : Place) → m.at ≡ coordinates c → m.cells ≡ cells_of c → count_on (mesh_of c) on ≡ count_on m on
unfolding mesh_of
counts-same c m place.Node at cells = ap (λ xs. length xs) (sym at)
counts-same c m place.Element at cells = ap (λ xs. length xs) (sym cells)

sections-right : (c : Content) → IsRight c → accepted c ≡ Ok (mesh_of c) → AllByRecursion (λ s. IsRightSection (mesh_of c) (section_on_mesh c s)) c.fields
unfolding mesh_of
sections-right c right ok = all_mapped (IsRightSection (mesh_of c)) (section_on_mesh c) c.fields (right-accepted c (mesh_of c) right ok).fields

-- its rows are for vertices and cells that are there
pub next-rows : (c : Content) (on : Place) (f g : FieldRows) (i : ℕ) (m : Mesh) → IsRight c → accepted c ≡ Ok (mesh_of c) → slice_get c.fields i ≡ Some (section_on on f) → section_on on g ≡ section_on_mesh c (section_on on f)
    → m.at ≡ coordinates c → m.cells ≡ cells_of c → AreKnownRows m on g.rows
unfolding section_on_mesh
next-rows c on f g i m right ok at is is_at is_cells =
    let rows = (all-get (λ s. IsRightSection (mesh_of c) (section_on_mesh c s)) c.fields i (section_on on f) (sections-right c right ok) at).rows in
    all_weaker (IsRightRow (mesh_of c) (section_on on g)) (λ (row : Row). row.number < count_on m on) (λ row r. subst (λ n. row.number < n) (counts-same c m on is_at is_cells) r.number) g.rows
    (subst (λ (s : Section). AllByRecursion (IsRightRow (mesh_of c) s) s.rows) (sym is) rows)
