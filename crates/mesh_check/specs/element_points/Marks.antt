-- Nodes of elements below the mesh's dimension.
use Rattle.std.specs.Prelude.{◌≡◌, ℕ, Bool, true, false, not, ◌&&◌, List, get_or}
use Rattle.std.specs.List.{list_any}
use Rattle.input_defs.specs.Content.{Element, Content}
use Rattle.input_defs.specs.Sections.{has_number}
use Rattle.input_defs.specs.Meshes.{is_top}

-- one of these elements is below the mesh's dimension and has this node
abbrev pub lower_has : Content → List Element → ℕ → Bool
lower_has content elements n = list_any (λ (e : Element). not (is_top content e) && has_number e.nodes n) elements

-- where the flag of a node is down, no element below the mesh's dimension has it
pub record AreMarks (content : Content) (flags : List Bool) : Type 0 where
  pub down : (n : ℕ) → get_or flags n true ≡ false → lower_has content content.elements n ≡ false
