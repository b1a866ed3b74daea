-- What is answered of the elements, one after the other.
use Rattle.std.proofs.Common.{◌≡◌, ℕ, zero, suc, ◌+◌, ◌<◌, Bool, false, not, ◌&&◌, List, [], ◌∷◌, map, length, get_or, take, refl, ap, ap₂, ◌∙◌, arith}
use Rattle.std.specs.Prelude.{nat_eq, filter, if◌then◌else◌}
use Rattle.std.specs.List.{position_or_len}
use Rattle.std.proofs.lemmas.List.{get_or-map}
use Rattle.input_defs.specs.Content.{Element, Content}
use Rattle.input_defs.specs.RightContent.{IsRight}
use Rattle.input_defs.specs.Meshes.{same_place, vertex_nodes, cell_elements, cells_of, point_of_element, is_point_of, kept_after}
use Rattle.input_laws.specs.place_laws.Places.{firsts_of, element_at}
use Rattle.mesh_check.specs.element_points.Parts.{some_leads_to}
use Rattle.mesh_check.proofs.element_points.Reading.{any-here}
use Rattle.mesh_check.proofs.element_points.Cells.{first-at, kept-passing}
use Rattle.mesh_check.proofs.element_points.OnPoints.{Stands, first-within, on-points-by_firsts}

-- an element that is read with any default
pub get_or-any : {X : Type 0} (xs : List X) (i : ℕ) (d e : X) → i < length xs → get_or xs i d ≡ get_or xs i e
get_or-any [] i d e low = absurd (omega arith)
get_or-any (x ∷ xs) zero d e low = refl
get_or-any (x ∷ xs) (suc i) d e low = get_or-any xs i d e (omega arith)

-- the test that is answered
abbrev pub is_on_point : Content → Element → Bool
is_on_point c e = is_point_of (cells_of c) (point_of_element (vertex_nodes c) e)

-- the flag of the first element at its place
pub on-flag : (c : Content) → IsRight c → (found : List Bool) → ((k : ℕ) → k < length c.elements → get_or found k false ≡ some_leads_to c.elements (cell_elements c) k)
    → (i first : ℕ) → i < length c.elements → first ≡ get_or (firsts_of c.elements) i 0 → get_or found first false ≡ is_on_point c (element_at c.elements i)
on-flag c right found all i first low is =
    let e = element_at c.elements i in
    let stands : Stands c.elements e = λ p h. any-here p c.elements i _ low h in
    let at : first ≡ position_or_len (same_place e) c.elements = is ∙ first-at c.elements i low in
    ap (λ k. get_or found k false) at ∙ all (position_or_len (same_place e) c.elements) (first-within c.elements e stands) ∙ on-points-by_firsts c right e stands

-- one more element, loose or not
pub loose-next : (c : Content) (on : List Bool) (b : Bool) (i : ℕ) → i < length c.elements → on ≡ map (is_on_point c) c.elements → b ≡ (not (get_or on i false) && nat_eq (get_or (firsts_of c.elements) i 0) i)
    → length (filter (λ e. not (is_on_point c e)) (kept_after [] (take (i + 1) c.elements))) ≡ length (filter (λ e. not (is_on_point c e)) (kept_after [] (take i c.elements))) + (if b then 1 else 0)
loose-next c on b i low are is = kept-passing (λ e. not (is_on_point c e)) c.elements i b low
    (is ∙ ap₂ (λ t k. not t && nat_eq k i) (ap (λ flags. get_or flags i false) are ∙ get_or-map (is_on_point c) c.elements i _ false low) (first-at c.elements i low))
