-- Cones that lie flat: one more, and each of them.
use Rattle.std.proofs.Common.{◌≡◌, ℕ, zero, suc, ◌+◌, ◌-◌, ◌<◌, ◌≤◌, List, [], ◌∷◌, ◌++◌, length, get_or, take, drop, sym, refl, ap, ap₂, ◌∙◌, arith, length-append, length-drop}
use Rattle.std.specs.Prelude.{slice_range}
use Rattle.std.proofs.lemmas.List.{take-append-le, drop-append-le, drop_at, take_all}
use Rattle.mesh_defs.specs.declared.Poly.{Poly}
use Rattle.mesh_defs.specs.declared.ConeEntry.{ConeEntry}
use Rattle.mesh_defs.specs.Diagram.{Covering}
use Rattle.plex_chart.specs.Chart.{no_point}
use Rattle.plex_chart.specs.Cones.{coverings, RiseTo, AreFlat, LiesAt}

-- ---- ends

-- one end more
RiseTo-push : (n more start : ℕ) (ends : List ℕ) → RiseTo n start ends → RiseTo (n + more) start (ends ++ (n + more) ∷ [])
RiseTo-push n more start [] rise = (omega arith, refl)
RiseTo-push n more start (end ∷ ends) rise = (rise.0, RiseTo-push n more end ends rise.1)

-- one point more
pub AreFlat-push : (polys : List Poly) (entries cone : List ConeEntry) (ends : List ℕ) (poly : Poly) → AreFlat polys entries ends → AreFlat (polys ++ poly ∷ []) (entries ++ cone) (ends ++ (length entries + length cone) ∷ [])
AreFlat-push polys entries cone ends poly flat = record {
  each = omega (arith, length-append ends ((length entries + length cone) ∷ []), length-append polys (poly ∷ []), flat.each);
  rise = rw length-append (RiseTo-push (length entries) (length cone) 0 ends flat.rise);
}

-- where the first one begins
start-le : (n start : ℕ) (ends : List ℕ) → RiseTo n start ends → start ≤ n
start-le n start [] rise = omega arith
start-le n start (end ∷ ends) rise = let after : end ≤ n = start-le n end ends rise.1 in omega (arith, rise.0)

-- each lies between where it begins and the last
RiseTo-at : (n start : ℕ) (ends : List ℕ) (p : ℕ) → RiseTo n start ends → p < length ends → (get_or (start ∷ ends) p 0 ≤ get_or ends p 0) × (get_or ends p 0 ≤ n)
RiseTo-at n start [] p rise within = absurd (omega arith)
RiseTo-at n start (end ∷ ends) zero rise within = (rise.0, start-le n end ends rise.1)
RiseTo-at n start (end ∷ ends) (suc p) rise within = RiseTo-at n end ends p rise.1 (omega arith)

-- ---- ranges of entries

-- what stands after the entries does not change them
range-before : {X : Type 0} (xs more : List X) (a b : ℕ) → a ≤ b → b ≤ length xs → slice_range (xs ++ more) a b ≡ slice_range xs a b
range-before xs more a b rise within =
    let from : a ≤ length xs = omega arith in
    let left : b - a ≤ length (drop a xs) = rw length-drop (omega arith) in
    ap (take (b - a)) (drop-append-le a xs more from) ∙ take-append-le (b - a) (drop a xs) more left

-- the entries that were put at the end
range-after : {X : Type 0} (xs more : List X) (a : ℕ) → a ≡ length xs → slice_range (xs ++ more) a (length xs + length more) ≡ more
range-after xs more a at =
    let whole : length more ≤ length xs + length more - a = omega arith in
    ap (take (length xs + length more - a)) (drop_at xs more a (omega arith)) ∙ take_all (length xs + length more - a) more whole

-- ---- points

-- one point more, from any place on
coverings_from-push : (entries cone : List ConeEntry) (start : ℕ) (polys : List Poly) (ends : List ℕ) (poly : Poly) → length ends ≡ length polys → RiseTo (length entries) start ends
    → coverings (entries ++ cone) start (polys ++ poly ∷ []) (ends ++ (length entries + length cone) ∷ []) ≡ coverings entries start polys ends ++ record { poly = poly; covers = cone } ∷ []
coverings_from-push entries cone start [] [] poly each rise = ap (λ covers. record { poly = poly; covers = covers } ∷ []) (range-after entries cone start rise)
coverings_from-push entries cone start [] (end ∷ ends) poly each rise = absurd (omega arith)
coverings_from-push entries cone start (first ∷ polys) [] poly each rise = absurd (omega arith)
coverings_from-push entries cone start (first ∷ polys) (end ∷ ends) poly each rise =
    ap₂ (λ covers points. record { poly = first; covers = covers } ∷ points)
    (range-before entries cone start end rise.0 (start-le (length entries) end ends rise.1))
    (coverings_from-push entries cone end polys ends poly (omega arith) rise.1)

-- one point more
pub coverings-push : (polys : List Poly) (entries cone : List ConeEntry) (ends : List ℕ) (poly : Poly) → AreFlat polys entries ends
    → coverings (entries ++ cone) 0 (polys ++ poly ∷ []) (ends ++ (length entries + length cone) ∷ []) ≡ coverings entries 0 polys ends ++ record { poly = poly; covers = cone } ∷ []
coverings-push polys entries cone ends poly flat = coverings_from-push entries cone 0 polys ends poly flat.each flat.rise

-- point p, with its cone
coverings-at : (entries : List ConeEntry) (start : ℕ) (polys : List Poly) (ends : List ℕ) (p : ℕ) (d : Poly) → length ends ≡ length polys → p < length polys
    → get_or (coverings entries start polys ends) p no_point ≡ record { poly = get_or polys p d; covers = slice_range entries (get_or (start ∷ ends) p 0) (get_or ends p 0) }
coverings-at entries start [] ends p d each within = absurd (omega arith)
coverings-at entries start (poly ∷ polys) [] p d each within = absurd (omega arith)
coverings-at entries start (poly ∷ polys) (end ∷ ends) zero d each within = refl
coverings-at entries start (poly ∷ polys) (end ∷ ends) (suc p) d each within = coverings-at entries end polys ends p d (omega arith) (omega arith)

-- each polytope is of a point
pub length-coverings : (entries : List ConeEntry) (start : ℕ) (polys : List Poly) (ends : List ℕ) → length ends ≡ length polys → length (coverings entries start polys ends) ≡ length polys
length-coverings entries start [] ends each = refl
length-coverings entries start (poly ∷ polys) [] each = absurd (omega arith)
length-coverings entries start (poly ∷ polys) (end ∷ ends) each = ap suc (length-coverings entries end polys ends (omega arith))

-- ---- reading, where the view is these points

-- point p has an end, and its cone lies among the entries
pub LiesAt-view : (polys : List Poly) (entries : List ConeEntry) (ends : List ℕ) (points : List Covering) (p : ℕ) → AreFlat polys entries ends → coverings entries 0 polys ends ≡ points → p < length points → LiesAt entries ends p
LiesAt-view polys entries ends points p flat view within =
    let size : length (coverings entries 0 polys ends) ≡ length points = ap (λ (l : List Covering). length l) view in
    let place : p < length ends = omega (arith, size, length-coverings entries 0 polys ends flat.each, flat.each) in
    let at = RiseTo-at (length entries) 0 ends p flat.rise place in
    record { place = place; rise = at.0; within = at.1 }

-- point p is of its polytope, and covers what lies there
pub point-view : (polys : List Poly) (entries : List ConeEntry) (ends : List ℕ) (points : List Covering) (p : ℕ) (d : Poly) → AreFlat polys entries ends → coverings entries 0 polys ends ≡ points → p < length points
    → record { poly = get_or polys p d; covers = slice_range entries (get_or (0 ∷ ends) p 0) (get_or ends p 0) } ≡ get_or points p no_point
point-view polys entries ends points p d flat view within =
    let place : p < length polys = omega (arith, (LiesAt-view polys entries ends points p flat view within).place, flat.each) in
    sym (coverings-at entries 0 polys ends p d flat.each place) ∙ ap (λ (l : List Covering). get_or l p no_point) view
