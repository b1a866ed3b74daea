-- Flags of elements.
use Rattle.std.specs.Prelude.{◌≡◌, ℕ, ◌<◌, Bool, false, ◌||◌, ◌==◌, List, length, get_or}
use Rattle.std.specs.List.{list_any}
use Rattle.input_defs.specs.Content.{Element}
use Rattle.input_defs.specs.Meshes.{dim}
use Rattle.mesh_check.specs.element_points.Parts.{Part, leads_to}

-- beside the old flags those of the elements are set that some of these parts lead to
abbrev pub AreSet : List Element → List Part → List Bool → List Bool → Type 0
AreSet elements parts old new = (k : ℕ) → k < length elements → get_or new k false ≡ (get_or old k false || list_any (leads_to elements k) parts)

-- an element has this dimension
abbrev pub has_dim : List Element → ℕ → Bool
has_dim elements d = list_any (λ e. dim e == d) elements

-- which dimensions below 3 elements have
pub record AreDims (elements : List Element) (points lines faces : Bool) : Type 0 where
  pub points_are : points ≡ has_dim elements 0
  pub lines_are : lines ≡ has_dim elements 1
  pub faces_are : faces ≡ has_dim elements 2
