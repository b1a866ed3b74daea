use Rattle.std.proofs.Common.{rules, ◌≡◌, ◌<◌, length, get_or, pos, w8, List, subst, sym, ap, ◌∙◌, arith}
use Rattle.std.specs.List.{Contains}
use Rattle.std.proofs.lemmas.Int.{to_z-of_z}
use mir.Val.{SFits}
use Rattle.mesh_defs.specs.declared.ConeEntry.{ConeEntry}
use Rattle.mesh_defs.specs.Tables.{facets_of, facet_at}
use Rattle.mesh_defs.specs.Orientation.{orientations}
use Rattle.plex_chart.specs.Chart.{point_at, FitsFacet}
use Rattle.plex_chart.proofs.Facets.{FitsFacet-at}
use Rattle.plex_walk.proofs.closures.facet_by_cone.Goals as goal

-- what the tables say of an entry of a cone
covered : (c : goal.After-struct_told-3-1) → FitsFacet c.args.x.now (facet_at (point_at c.args.x.now c.args.e.point).poly c.cone_under-facet.result.0) (get_or (point_at c.args.x.now c.args.e.point).covers c.cone_under-facet.result.0 (record { point = 0; o = pos 0 }))
covered c =
    let poly : length (facets_of c.poly_of.result) ≡ length (facets_of (point_at c.args.x.now c.args.e.point).poly) = ap (λ p. length (facets_of p)) c.poly_of.ensures.value in
    let size : length c.cone.result.now ≡ length (point_at c.args.x.now c.args.e.point).covers = ap (λ (es : List ConeEntry). length es) c.cone.ensures.value in
    let within : c.cone_under-facet.result.0 < length (point_at c.args.x.now c.args.e.point).covers = omega (arith, c.cone_under-facet.ensures.facet, poly, c.cone.ensures.arity, size) in
    FitsFacet-at c.args.x.now c.args.e.point c.cone_under-facet.result.0 (record { point = 0; o = pos 0 }) c.requires.plex.whole c.requires.entry.point within

-- the polytope of what is covered is that of the facet
facet_poly : (c : goal.After-struct_told-3-1) → (facet_at c.poly_of.result c.cone_under-facet.result.0).poly ≡ c.poly_of-2.result
facet_poly c =
    ap (λ p. (facet_at p c.cone_under-facet.result.0).poly) c.poly_of.ensures.value
    ∙ sym (covered c).poly
    ∙ ap (λ (es : List ConeEntry). (point_at c.args.x.now (get_or es c.cone_under-facet.result.0 (record { point = 0; o = pos 0 })).point).poly) (sym c.cone.ensures.value)
    ∙ sym c.poly_of-2.ensures.value

pub compose-o-requires-clause-after : goal.compose-o-requires-clause-after
compose-o-requires-clause-after c =
    let fits : SFits w8 c.cone_under-facet.result.1 = search rules in
    rw (to_z-of_z w8 c.cone_under-facet.result.1 fits) (subst (λ p. Contains (orientations p) c.cone_under-facet.result.1) (facet_poly c) c.cone_under-facet.ensures.facet_orientation)

pub compose-o-requires-clause-before : goal.compose-o-requires-clause-before
compose-o-requires-clause-before c =
    let e : ConeEntry = get_or c.cone.result.now c.cone_under-facet.result.0 (record { point = 0; o = pos 0 }) in
    let fits : SFits w8 e.o = search rules in
    let o : (get_or (point_at c.args.x.now c.args.e.point).covers c.cone_under-facet.result.0 (record { point = 0; o = pos 0 })).o ≡ e.o = ap (λ (es : List ConeEntry). (get_or es c.cone_under-facet.result.0 (record { point = 0; o = pos 0 })).o) (sym c.cone.ensures.value) in
    let poly : (facet_at (point_at c.args.x.now c.args.e.point).poly c.cone_under-facet.result.0).poly ≡ c.poly_of-2.result = ap (λ p. (facet_at p c.cone_under-facet.result.0).poly) (sym c.poly_of.ensures.value) ∙ facet_poly c in
    rw (to_z-of_z w8 e.o fits) (subst (λ p. Contains (orientations p) e.o) poly (subst (λ z. Contains (orientations (facet_at (point_at c.args.x.now c.args.e.point).poly c.cone_under-facet.result.0).poly) z) o (covered c).o))
