-- Worked rows: a right content, and contents that each break one of its conditions.
use Rattle.std.proofs.Common.{nat_abs, ◌<◌, ◌≤◌, ◌*◌, ◌^◌, ◌+◌, ℕ, ℤ, List, [], ◌∷◌, refl, arith, pos, negsuc, inl, ⊎_elim}
use Rattle.std.specs.List.{IsDistinct}
use Rattle.std.proofs.lemmas.Int.{ints}
use Rattle.mesh_defs.specs.declared.Place.TheVariants as place
use Rattle.mesh_defs.specs.Mesh.{Section}
use Rattle.input_defs.specs.Content.{Node, Element, Content}
use Rattle.input_defs.specs.RightContent.{IsRightNode, IsRight}

-- a node at (x, 0, -7); an element; values of this element
abbrev node : ℕ → ℤ → Node
node n x = record { number = n; at = x ∷ pos 0 ∷ negsuc 6 ∷ [] }

abbrev element : ℕ → ℤ → List ℕ → Element
element kind physical nodes = record { number = 4; kind = kind; physical = physical; nodes = nodes }

abbrev field : ℕ → ℕ → List ℤ → Section
field comps n values = record { on = place.Element; name = []; comps = comps; rows = record { number = n; values = values } ∷ [] }

-- three nodes at least, one element and one data section
abbrev content_with : List Node → Element → Section → Content
content_with nodes e f = record { nodes = node 7 (pos 5) ∷ node 2 (pos 5) ∷ node 5 (pos (9 * 10 ^ 18)) ∷ nodes; elements = e ∷ []; names = record { dim = 9; number = negsuc 6; text = 97 ∷ [] } ∷ []; fields = f ∷ [] }

abbrev triangle : Element
triangle = element 2 (negsuc 0) (5 ∷ 7 ∷ 2 ∷ [])

abbrev value : Section
value = field 1 4 (pos 5 ∷ [])

right_node : (n : ℕ) (x : ℤ) → 1 ≤ n → n < 2 ^ 32 → nat_abs x ≤ 9 * 10 ^ 18 → IsRightNode (node n x)
right_node n x some low near = record { some_number = some; number = low; three = refl; in_range = (near, (omega arith, (omega arith, tt))) }

right_content : IsRight (content_with [] triangle value)
unfolding IsDistinct
right_content = record {
  nodes = (right_node 7 (pos 5) (omega arith) (omega arith) (omega arith), (right_node 2 (pos 5) (omega arith) (omega arith) (omega arith), (right_node 5 (pos (9 * 10 ^ 18)) (omega arith) (omega arith) (omega arith), tt)));
  numbers_differ = ((refl, (refl, tt)), ((refl, tt), (tt, tt)));
  elements = (record { number = omega arith; kind = refl; physical = (omega (arith, ints), omega (arith, ints)); corners = refl; nodes_known = (refl, (refl, (refl, tt))); nodes_differ = ((refl, (refl, tt)), ((refl, tt), (tt, tt))) }, tt);
  names = (record { dim = omega arith; number = (omega (arith, ints), omega (arith, ints)) }, tt);
  fields = (record { comps = inl refl; rows = (record { number = refl; values = refl; in_range = (omega arith, tt) }, tt) }, tt);
  limits = record { nodes = omega arith; elements = omega arith; names = omega arith; fields = omega arith };
}

-- a number that stands twice, the number 0, a coordinate out of range
two_nodes_of_a_number : IsRight (content_with (node 2 (pos 1) ∷ []) triangle value) → ⊥
unfolding IsDistinct
two_nodes_of_a_number h = cc h.numbers_differ.1.0.1.0

node_zero : IsRight (content_with (node 0 (pos 1) ∷ []) triangle value) → ⊥
node_zero h = omega (arith, h.nodes.1.1.1.0.some_number)

far_node : IsRight (content_with (node 1 (pos (9 * 10 ^ 18 + 1)) ∷ []) triangle value) → ⊥
far_node h = omega (arith, h.nodes.1.1.1.0.in_range.0)

-- a type that is not read, a node too few, one that there is not, one that stands twice, a tag of more than 32 bits
other_type : IsRight (content_with [] (element 9 (pos 0) []) value) → ⊥
other_type h = absurd (cc h.elements.0.kind)

two_corners : IsRight (content_with [] (element 2 (pos 0) (5 ∷ 7 ∷ [])) value) → ⊥
two_corners h = absurd (cc h.elements.0.corners)

unknown_corner : IsRight (content_with [] (element 2 (pos 0) (5 ∷ 7 ∷ 3 ∷ [])) value) → ⊥
unknown_corner h = absurd (cc h.elements.0.nodes_known.1.1.0)

corner_twice : IsRight (content_with [] (element 2 (pos 0) (5 ∷ 7 ∷ 5 ∷ [])) value) → ⊥
unfolding IsDistinct
corner_twice h = absurd (cc h.elements.0.nodes_differ.0.1.0)

wide_tag : IsRight (content_with [] (element 2 (pos (2 ^ 31)) (5 ∷ 7 ∷ 2 ∷ [])) value) → ⊥
wide_tag h = omega (arith, ints, h.elements.0.physical.1)

-- two components, a value too few, an element that there is not
two_components : IsRight (content_with [] triangle (field 2 4 (pos 5 ∷ pos 5 ∷ []))) → ⊥
two_components h = ⊎_elim (λ a. cc a) (λ b. ⊎_elim (λ a. cc a) (λ a. cc a) b) h.fields.0.comps

two_values : IsRight (content_with [] triangle (field 3 4 (pos 5 ∷ pos 5 ∷ []))) → ⊥
two_values h = absurd (cc h.fields.0.rows.0.values)

unknown_element : IsRight (content_with [] triangle (field 1 7 (pos 5 ∷ []))) → ⊥
unknown_element h = absurd (cc h.fields.0.rows.0.number)
