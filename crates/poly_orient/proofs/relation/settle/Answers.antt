use Rattle.std.proofs.Common.{◌≡◌, ℕ, get_or, sym, ap, ◌∙◌, subst}
use Rattle.mesh_defs.specs.declared.Poly.{Poly}
use Rattle.poly_orient.specs.declared.symmetry.Symmetry.TheVariants.{Rotation, Reflection}
use Rattle.poly_orient.specs.Symmetries.{corners_listed, IsSymmetry, place, telling_place}
use Rattle.poly_orient.proofs.Settling.{is_symmetry-place, is_symmetry-settle, settle-kept, settle-turned_over}
use Rattle.poly_orient.proofs.relation.settle.Goals as goal

pub corner-requires-clause-orientation : goal.corner-requires-clause-orientation
corner-requires-clause-orientation c =
    subst (λ n. IsSymmetry c.args.p (Rotation n)) (sym c.place-place.ensures) (is_symmetry-place c.args.p c.args.first c.args.second c.requires.first c.requires.second)

-- the corner that the rotation has at the telling place
corner_is : (p : Poly) (a b n k corner : ℕ) → n ≡ place p a b → k ≡ telling_place p → corner ≡ get_or (corners_listed p (Rotation n)) k 0 → corner ≡ get_or (corners_listed p (Rotation (place p a b))) (telling_place p) 0
corner_is p a b n k corner at telling_at is = is ∙ (λ j. get_or (corners_listed p (Rotation (at j))) (telling_at j) 0)

pub returns-then-corner-third-clause-symmetry : goal.returns-then-corner-third-clause-symmetry
returns-then-corner-third-clause-symmetry c =
    ap Rotation c.place-place.ensures ∙ sym (settle-kept c.args.p c.args.first c.args.second c.args.third (sym (corner_is _ _ _ _ _ _ c.place-place.ensures c.telling_place.ensures.place c.corner.ensures.corner) ∙ c.if-corner-third.true))

pub returns-then-corner-third-clause-has : goal.returns-then-corner-third-clause-has
returns-then-corner-third-clause-has c =
    subst (IsSymmetry c.args.p) (sym (returns-then-corner-third-clause-symmetry c)) (is_symmetry-settle c.args.p c.args.first c.args.second c.args.third c.requires.first c.requires.second c.requires.third)

pub returns-else-corner-third-clause-symmetry : goal.returns-else-corner-third-clause-symmetry
returns-else-corner-third-clause-symmetry c =
    ap Reflection c.place-place.ensures ∙ sym (settle-turned_over c.args.p c.args.first c.args.second c.args.third (λ e. c.if-corner-third.false (corner_is _ _ _ _ _ _ c.place-place.ensures c.telling_place.ensures.place c.corner.ensures.corner ∙ e)))

pub returns-else-corner-third-clause-has : goal.returns-else-corner-third-clause-has
returns-else-corner-third-clause-has c =
    subst (IsSymmetry c.args.p) (sym (returns-else-corner-third-clause-symmetry c)) (is_symmetry-settle c.args.p c.args.first c.args.second c.args.third c.requires.first c.requires.second c.requires.third)
