-- What has to be known to find what a row names.
use Rattle.std.specs.Prelude.{◌≡◌, ℕ, List, Bool, true, false}
use Rattle.std.specs.List.{list_any}
use Rattle.mesh_defs.specs.declared.Place.{Place}
use Rattle.mesh_defs.specs.declared.Place.TheVariants as place
use Rattle.mesh_defs.specs.Mesh.{Section}
use Rattle.input_defs.specs.Content.{Content}
use Rattle.input_defs.specs.RightContent.{element_numbers}

-- the numbers of the elements, where rows name elements
abbrev pub KnowsElements : Place → List ℕ → Content → Type 0
KnowsElements place.Node numbers content = Unit {0}
KnowsElements place.Element numbers content = numbers ≡ element_numbers content

-- a data section is on elements
abbrev pub is_on_elements : Place → Bool
is_on_elements place.Node = false
is_on_elements place.Element = true

abbrev pub has_element_data : List Section → Bool
has_element_data sections = list_any (λ (s : Section). is_on_elements s.on) sections
