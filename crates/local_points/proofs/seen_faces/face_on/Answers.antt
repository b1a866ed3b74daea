use Rattle.std.proofs.Common.{◌≡◌, ℕ, ◌<◌, [], ◌∷◌, get_or, length, refl, sym, ◌∙◌, subst, arith}
use Rattle.std.specs.Prelude.{◌+◌, ◌^◌}
use Rattle.std.specs.List.{AllByRecursion}
use Rattle.plain_lists.specs.Lists.{picked}
use Rattle.plain_lists.proofs.Each.{all_at}
use Rattle.mesh_defs.specs.Tables.{corner_count, facet_at}
use Rattle.local_points.specs.Stored.{no_vertex}
use Rattle.local_points.proofs.Arrays.{three-of}
use Rattle.local_points.proofs.Solids.{triangle-face}
use Rattle.local_points.proofs.seen_faces.face_on.Goals as goal

pub returns-in_default : goal.returns-in_default
returns-in_default c =
    let vs = c.args.corners.now in
    let cs = (facet_at c.args.poly c.args.f).corners in
    let t = triangle-face c.args.poly c.args.f c.requires.solid c.requires.facet (λ q. c.in_default.not-Quad (c.facet_poly.ensures ∙ q)) in
    let at : cs ≡ c.facet_corner.result ∷ c.facet_corner-2.result ∷ c.facet_corner-3.result ∷ [] =
    three-of cs t.1.0 ∙ (λ i. sym c.facet_corner.ensures i ∷ sym c.facet_corner-2.ensures i ∷ sym c.facet_corner-3.ensures i ∷ []) in
    let low = subst (λ l. AllByRecursion (λ k. k < corner_count c.args.poly) l) at t.1.1 in
    let vertex : (k : ℕ) → k < corner_count c.args.poly → get_or vs k 0 < no_vertex =
    λ k h. let within : k < length vs = omega (arith, c.requires.corners) in let fits : get_or vs k 0 + 1 < 4294967296 = all_at (λ v. v + 1 < 2 ^ 32) vs k 0 c.requires.vertices within in omega arith in
    record {
      sound = record { four = refl; vertices = (vertex _ low.0, (vertex _ low.1.0, (vertex _ low.1.1.0, tt))); last = omega arith };
      sight = λ i. record { key = c.args.key; poly = sym t.0 i; arrangement = picked vs (sym at i) };
    }
