-- Which orientations there are.
use Rattle.std.proofs.Common.{◌≡◌, ℕ, List, [], ◌∷◌, Bool, Some, subst, refl, lit<, inl, inr}
use Rattle.std.specs.Prelude.{ℤ, pos, find}
use Rattle.std.specs.List.{Contains}
use Rattle.std.proofs.lemmas.Bool.{cases_Bool}
use Rattle.std.proofs.lemmas.List.Elements.{Contains-append_left, Contains-append_right, Contains-push}
use Rattle.mesh_defs.specs.declared.Poly.{Poly}
use Rattle.mesh_defs.specs.declared.Poly.TheVariants.{Vertex, Segment, Triangle, Quad, Tet, Hex}
use Rattle.mesh_defs.specs.Orientation.{orientations, rotations, reflections, relative}

-- what `find` gives is in the list
Contains-find : {X : Type 0} (test : X → Bool) (xs : List X) (x : X) → find test xs ≡ Some x → Contains xs x
Contains-find {X} test [] x found = absurd (cc)
Contains-find {X} test (y ∷ ys) x found = elim (cases_Bool (test y)) as (λ _. Contains (y ∷ ys) x) [
  | inl e ↦
      let same : y ≡ x = (let h : Some y ≡ Some x = rw e at found in cc) in
      subst (λ z. Contains (y ∷ ys) z) same (Contains-append_left (y ∷ []) ys y (Contains-push [] y))
  | inr e ↦
      let h : find test ys ≡ Some x = rw e at found in
      Contains-append_right (y ∷ []) ys x (Contains-find test ys x h)
]

-- the orientation that takes one list of vertices to another is one of the polytope
pub Contains-relative : (poly : Poly) (from to : List ℕ) (o : ℤ) → relative poly from to ≡ Some o → Contains (orientations poly) o
unfolding relative
Contains-relative poly from to o found = Contains-find _ (orientations poly) o found

-- every polytope may be listed as it is
pub Contains-same : (poly : Poly) → Contains (orientations poly) (pos 0)
unfolding orientations rotations reflections
Contains-same Vertex = (0, lit< tt, refl)
Contains-same Segment = (1, lit< tt, refl)
Contains-same Triangle = (3, lit< tt, refl)
Contains-same Quad = (4, lit< tt, refl)
Contains-same Tet = (12, lit< tt, refl)
Contains-same Hex = (24, lit< tt, refl)
