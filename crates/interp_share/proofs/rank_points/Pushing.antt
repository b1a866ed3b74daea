-- Images of the elements of a list that are put behind what is there.
use Rattle.std.proofs.Common.{◌≡◌, ℕ, ◌+◌, ◌<◌, ◌≤◌, List, [], ◌∷◌, ◌++◌, map, length, get_or, take, Some, sym, ap, ap₂, ◌∙◌, append_assoc}
use Rattle.std.specs.List.{slice_get}
use Rattle.std.proofs.lemmas.Option.{slice_get_within, get_or_from_slice_get}
use Rattle.std.proofs.lemmas.List.{map-append, map_more, take_all}
use Rattle.mesh_defs.specs.Mesh.{Cell}
use Rattle.mesh_defs.specs.Points.{point_of}
use Rattle.local_points.specs.Points.{faces_among, edges_among, local_points}
use Rattle.rank_defs.specs.Spread.{ScatterPart}
use Rattle.interp_share.specs.rank_points.Seen.{Seen, seen_of, cell_sights, vertices_seen, part_points, sets_on, part_sets}

-- one more
pub behind-next : {X Y : Type 0} (f : X → Y) (xs : List X) (k : ℕ) (d : X) (old made now : List Y) (y : Y) → k < length xs → made ≡ old ++ map f (take k xs) → y ≡ f (get_or xs k d) → now ≡ made ++ y ∷ [] → now ≡ old ++ map f (take (k + 1) xs)
behind-next f xs k d old made now y low before same is =
    is ∙ ap₂ (λ l z. l ++ z ∷ []) before same
    ∙ append_assoc old (map f (take k xs)) (f (get_or xs k d) ∷ [])
    ∙ ap (λ l. old ++ l) (sym (map_more f xs k d low))

-- one more that is read there
pub behind-more : {X Y : Type 0} (f : X → Y) (xs : List X) (k : ℕ) (x : X) (old made now : List Y) (y : Y) → slice_get xs k ≡ Some x → made ≡ old ++ map f (take k xs) → y ≡ f x → now ≡ made ++ y ∷ [] → now ≡ old ++ map f (take (k + 1) xs)
behind-more f xs k x old made now y e before same is = behind-next f xs k x old made now y (slice_get_within xs k x e) before (same ∙ ap f (sym (get_or_from_slice_get xs k x x e))) is

-- all of them
pub behind-all : {X Y : Type 0} (f : X → Y) (xs : List X) (k : ℕ) (old made : List Y) → made ≡ old ++ map f (take k xs) → length xs ≤ k → made ≡ old ++ map f xs
behind-all f xs k old made before all = before ∙ ap (λ l. old ++ map f l) (take_all k xs all)

-- the sets of a rank's points, one kind of points after another
pub sets-split : (part : ScatterPart) → part_sets part ≡ sets_on (cell_sights part.cells) ++ sets_on (vertices_seen part.vertices) ++ sets_on (faces_among part.cells) ++ sets_on (edges_among part.cells)
unfolding part_sets part_points
sets-split part =
    let tops = cell_sights part.cells in
    let vs = vertices_seen part.vertices in
    let fs = faces_among part.cells in
    let es = edges_among part.cells in
    map-append (λ s. (point_of s).vertices) (tops ++ vs ++ fs) es
    ∙ ap (λ l. l ++ sets_on es) (map-append (λ s. (point_of s).vertices) (tops ++ vs) fs ∙ ap (λ l. l ++ sets_on fs) (map-append (λ s. (point_of s).vertices) tops vs))

-- what a rank sees has the faces and edges of its cells
pub local-seen : (seen : Seen) (cells : List (ℕ × Cell)) → seen ≡ seen_of cells → seen.local ≡ local_points cells
unfolding seen_of
local-seen seen cells e = ap (λ (s : Seen). s.local) e
