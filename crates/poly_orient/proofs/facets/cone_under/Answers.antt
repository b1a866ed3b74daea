use Rattle.std.proofs.Common.{◌≡◌, ◌<◌, ℕ, ℤ, w8, length, sym, ap, ◌∙◌, subst}
use Rattle.std.proofs.lemmas.Int.{to_z-of_z}
use mir.Val.{SFits, to_z, of_z}
use Rattle.mesh_defs.specs.declared.Poly.{Poly}
use Rattle.plain_lists.specs.Lists.{picked}
use Rattle.mesh_defs.specs.Tables.{facets_of, facet_at}
use Rattle.mesh_defs.specs.Orientation.{act}
use Rattle.poly_orient.specs.declared.symmetry.Symmetry.{Symmetry}
use Rattle.poly_orient.specs.Group.{IsOrientation}
use Rattle.poly_orient.specs.Symmetries.{symmetry_of, orientation_of, facet_from, facet_corner_listed, facet_second}
use Rattle.poly_orient.proofs.Symmetries.{symmetry-of_orientation}
use Rattle.poly_orient.proofs.Acting.{few_symmetries}
use Rattle.poly_orient.proofs.Facing.{facet_turned, IsFaced, is_faced, facet_under-is, facet_carried}
use Rattle.poly_orient.proofs.facets.cone_under.Goals as goal
use Rattle.poly_orient.proofs.facets.cone_under.Goals.{After-orientation_of}

pub facet_corner_listed-a-requires-clause-symmetry : goal.facet_corner_listed-a-requires-clause-symmetry
facet_corner_listed-a-requires-clause-symmetry c = c.symmetry_of-symmetry.ensures.of_each c.args.p (subst (IsOrientation c.args.p) (sym (to_z-of_z w8 c.args.o c.ranges.o)) c.requires.orientation)

pub facet_corner_listed-b-requires-clause-symmetry : goal.facet_corner_listed-b-requires-clause-symmetry
facet_corner_listed-b-requires-clause-symmetry c = c.symmetry_of-symmetry.ensures.of_each c.args.p (subst (IsOrientation c.args.p) (sym (to_z-of_z w8 c.args.o c.ranges.o)) c.requires.orientation)

-- the pair that the table gives is what stands at the facet
faced_here : (p : Poly) (o : ℤ) (k a b j : ℕ) (t : Symmetry) (f : ℕ × Symmetry) → SFits w8 o → IsOrientation p o → k < length (facets_of p) → t ≡ symmetry_of (to_z w8 (of_z w8 o)) → j ≡ facet_second p
    → a ≡ facet_corner_listed p t k 0 → b ≡ facet_corner_listed p t k j → f ≡ facet_from p t a b → IsFaced p (symmetry_of o) k f
faced_here p o k a b j t f fits has lt symmetry place first other from =
    let symmetry_is = symmetry ∙ ap symmetry_of (to_z-of_z w8 o fits) in
    let faced : f ≡ facet_turned p (symmetry_of o) k =
    from ∙ (λ i. facet_from p t (first i) (other i)) ∙ (λ i. facet_from p (symmetry_is i) (facet_corner_listed p (symmetry_is i) k 0) (facet_corner_listed p (symmetry_is i) k (place i))) in
    subst (IsFaced p (symmetry_of o) k) (sym faced) (is_faced p (symmetry_of o) k (symmetry-of_orientation p o has) lt)

pub orientation_of-requires : goal.orientation_of-requires
orientation_of-requires c =
    let faced =
    faced_here c.args.p c.args.o c.args.k _ _ _ _ c.facet_from-facet.result c.ranges.o c.requires.orientation c.requires.facet c.symmetry_of-symmetry.ensures.symmetry c.facet_second.ensures c.facet_corner_listed-a.ensures.corner c.facet_corner_listed-b.ensures.corner c.facet_from-facet.ensures in
    few_symmetries (facet_at c.args.p c.facet_from-facet.result.0).poly c.facet_from-facet.result.1 faced.symmetry

faced_in : (c : After-orientation_of) → IsFaced c.args.p (symmetry_of c.args.o) c.args.k c.facet_from-facet.result
faced_in c =
    faced_here c.args.p c.args.o c.args.k _ _ _ _ c.facet_from-facet.result c.ranges.o c.requires.orientation c.requires.facet c.symmetry_of-symmetry.ensures.symmetry c.facet_second.ensures c.facet_corner_listed-a.ensures.corner c.facet_corner_listed-b.ensures.corner c.facet_from-facet.ensures

-- the orientation that is handed out
handed : (c : After-orientation_of) → to_z w8 (of_z w8 c.orientation_of.result) ≡ orientation_of c.facet_from-facet.result.1
handed c = to_z-of_z w8 c.orientation_of.result (record { sfits = c.orientation_of.type_inv }) ∙ c.orientation_of.ensures.number

pub returns-clause-value : goal.returns-clause-value
returns-clause-value c = (λ i. (c.facet_from-facet.result.0, handed c i)) ∙ sym (facet_under-is c.args.p c.args.o c.args.k c.facet_from-facet.result (faced_in c))

pub returns-clause-facet : goal.returns-clause-facet
returns-clause-facet c = (faced_in c).facet

pub returns-clause-facet_orientation : goal.returns-clause-facet_orientation
returns-clause-facet_orientation c =
    let poly = (facet_at c.args.p c.facet_from-facet.result.0).poly in
    subst (IsOrientation poly) (sym (to_z-of_z w8 c.orientation_of.result (record { sfits = c.orientation_of.type_inv }))) (c.orientation_of.ensures.of_each poly (faced_in c).symmetry)

pub returns-clause-carries : goal.returns-clause-carries
returns-clause-carries c a =
    let f = c.facet_from-facet.result in
    facet_carried c.args.p c.args.o c.args.k f a c.requires.orientation c.requires.facet (faced_in c)
    ∙ ap (λ u. act (facet_at c.args.p f.0).poly u (picked a (facet_at c.args.p f.0).corners)) (sym (handed c))
