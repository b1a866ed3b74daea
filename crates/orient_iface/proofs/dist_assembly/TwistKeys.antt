-- The own twists of ranks by what they drew.
use Rattle.std.proofs.Common.{◌≡◌, ℕ, ◌+◌, ◌*◌, ◌<◌, ◌≤◌, ◌==◌, ◌&&◌, Bool, List, [], ◌∷◌, map, get_or, Option, Some, None, refl, sym, ap, ◌∙◌, subst, arith}
use Rattle.std.specs.Prelude.{option_map, unwrap_or, find, filter, filter_map, is_none}
use Rattle.std.specs.List.{AllByRecursion}
use Rattle.plain_lists.specs.Lists.{below}
use Rattle.plain_lists.proofs.Below.{map-below-length}
use Rattle.plain_lists.proofs.Each.{all_filter, all_flat_map, all_from, all_map, all_weaker}
use Rattle.plain_lists.proofs.Finding.{find-has}
use Rattle.plain_lists.proofs.Filters.{map_map_same}
use Rattle.plex_base.specs.declared.key.PointKey.{PointKey}
use Rattle.mesh_defs.specs.Mesh.{Mesh}
use Rattle.mesh_defs.specs.Tables.{dim_of}
use Rattle.mesh_defs.specs.Points.{Sight, sights, sights_of}
use Rattle.mesh_defs.specs.Diagram.{Diagram, diagram, seen_under}
use Rattle.mesh_defs.specs.RightMesh.{IsRightMesh}
use Rattle.mesh_laws.proofs.Keys.{KeysRise, sights_of-rise}
use Rattle.rank_defs.specs.Ranks.{assigned}
use Rattle.local_points.specs.Cells.{IsFit}
use Rattle.interp_share.proofs.rank_points.Fitting.{rank-fit}
use Rattle.rank_laws.specs.orient_laws.Named.{own_twist}
use Rattle.rank_cones.specs.declared.drawn.Drawn.{Drawn}
use Rattle.rank_cones.specs.declared.drawn.Drawn.TheVariants.{Whole, Twisted}
use Rattle.rank_cones.specs.Ranks.{Draws}
use Rattle.rank_cones.specs.rank_drawings.Told.{PlainDrawing, AreDrawings}
use Rattle.orient_iface.specs.dist_assembly.Drawn.{drawn_twist, twist_in, no_held}

-- the number of a key, if there is one
abbrev told : Option PointKey → Option ℕ
told = option_map (λ (key : PointKey). key.0)

twist-told : (m : Mesh) (a : List ℕ) (r : ℕ) (drawn : Drawn) → Draws m a r drawn → told (drawn_twist drawn) ≡ own_twist m a r
twist-told m a r (Whole plex) h = sym h.1
twist-told m a r (Twisted key) h = sym h

-- a drawing without a twist has the diagram
pub whole-drawn : (m : Mesh) (a : List ℕ) (r : ℕ) (drawn : Drawn) (plex : Diagram) → drawn ≡ Whole plex → Draws m a r drawn → plex ≡ diagram m (assigned m a r)
whole-drawn m a r drawn plex e h = (subst (Draws m a r) e h).0

-- what the ranks of a mesh drew tells their own twists
pub twists-are : (m : Mesh) (a : List ℕ) (n : ℕ) (ds : List PlainDrawing) → AreDrawings m a n ds → map (option_map (λ (key : PointKey). key.0)) (map twist_in ds) ≡ map (own_twist m a) (below n)
twists-are m a n ds are =
    map_map_same told twist_in (λ d. told (twist_in d)) ds (all_from (λ d. told (twist_in d) ≡ told (twist_in d)) (λ d. refl) ds)
    ∙ sym (map-below-length (own_twist m a) (λ d. told (twist_in d)) ds nothing (λ k low. sym (twist-told m a k (get_or ds k nothing).drawn (are.each k nothing (omega (arith, low, are.count))).drawn)))
    ∙ ap (λ k. map (own_twist m a) (below k)) are.count
  where
    nothing : PlainDrawing
    nothing = record { held = no_held; drawn = Whole (diagram m []) }

-- ---- keys are low

-- keys that rise up to a number are below it
keys-high : (low high : ℕ) (ss : List Sight) → KeysRise low high ss → AllByRecursion (λ (s : Sight). s.key < high) ss × (low ≤ high)
keys-high low high [] r = (tt, r)
keys-high low high (s ∷ ss) r = let rest = keys-high (s.key + 1) high ss r.1 in ((omega (arith, rest.1), rest.0), omega (arith, r.0, rest.1))

sights-low : (m : Mesh) → IsRightMesh m → (a : List ℕ) (r : ℕ) → AllByRecursion (λ (s : Sight). s.key < 16000000) (sights (assigned m a r))
sights-low m right a r = all_flat_map (λ (s : Sight). s.key < 16000000) sights_of (assigned m a r)
    (all_weaker IsFit (λ c. AllByRecursion (λ (s : Sight). s.key < 16000000) (sights_of c))
    (λ c fit. all_weaker (λ (s : Sight). s.key < 64 * c.0 + 64) (λ (s : Sight). s.key < 16000000) (λ s low. let number = fit.number in omega (arith, low, number)) (sights_of c) (keys-high (64 * c.0) (64 * c.0 + 64) (sights_of c) (sights_of-rise c.0 c.1)).0)
    (assigned m a r) (rank-fit m right a r).each)

twist-low : (m : Mesh) → IsRightMesh m → (a : List ℕ) (r k : ℕ) → own_twist m a r ≡ Some k → k < 16000000
unfolding own_twist
twist-low m right a r k e = go (find unseen (filter is_face (sights (assigned m a r)))) refl e
  where
    unseen : Sight → Bool
    unseen s = is_none (seen_under m s.poly s.arrangement)

    is_face : Sight → Bool
    is_face s = (m.dim == 3) && (dim_of s.poly == 2)

    some-same : (i j : ℕ) → ◌≡◌ {A = Option ℕ} (Some i) (Some j) → i ≡ j
    some-same i j h = ap (λ (o : Option ℕ). unwrap_or o 0) h

    go : (o : Option Sight) → find unseen (filter is_face (sights (assigned m a r))) ≡ o → option_map (λ (s : Sight). s.key) o ≡ Some k → k < 16000000
    go None f h = absurd (cc h)
    go (Some s) f h = subst (λ j. j < 16000000) (some-same s.key k h) (find-has (λ (t : Sight). t.key < 16000000) unseen (filter is_face (sights (assigned m a r))) s (all_filter (λ (t : Sight). t.key < 16000000) is_face (sights (assigned m a r)) (sights-low m right a r)) f)

-- the ranks' own twists are far below the greatest word
pub twists-low : (m : Mesh) → IsRightMesh m → (a : List ℕ) (n : ℕ) (ds : List PlainDrawing) → AreDrawings m a n ds → AllByRecursion (λ k. k < 18446744073709551615) (filter_map (option_map (λ (key : PointKey). key.0)) (map twist_in ds))
twists-low m right a n ds are = each (map twist_in ds) (subst (AllByRecursion Low) (sym (twists-are m a n ds are)) (all_map Low (own_twist m a) (below n) (all_from (λ r. Low (own_twist m a r)) (λ r k e. omega (arith, twist-low m right a r k e)) (below n))))
  where
    Low : Option ℕ → Type 0
    Low o = (k : ℕ) → o ≡ Some k → k < 18446744073709551615

    each : (keys : List (Option PointKey)) → AllByRecursion Low (map (option_map (λ (key : PointKey). key.0)) keys) → AllByRecursion (λ k. k < 18446744073709551615) (filter_map (option_map (λ (key : PointKey). key.0)) keys)
    each [] h = tt
    each (None ∷ keys) h = each keys h.1
    each (Some key ∷ keys) h = (h.0 key.0 refl, each keys h.1)
