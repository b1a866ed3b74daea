-- Entries that are added one after another, each point once.
use Rattle.std.proofs.Common.{◌≡◌, ℕ, suc, ◌+◌, ◌<◌, Bool, true, false, List, [], ◌∷◌, ◌++◌, length, map, get_or, drop, refl, sym, ap, ◌∙◌, inl, inr, append_assoc, add-one, drop-cons}
use Rattle.std.specs.Prelude.{◌||◌, ◌==◌, flat_map}
use Rattle.std.specs.List.{All}
use Rattle.std.proofs.lemmas.Bool.{cases_Bool}
use Rattle.std.proofs.lemmas.List.{append-nil, map-append}
use Rattle.std.proofs.lemmas.List.Concat.{flat_map-cons}
use Rattle.std.proofs.Math.Seq.{drop-append_seam}
use Rattle.std.proofs.lemmas.List.Folds.{list_any-append}
use Rattle.std.proofs.lemmas.List.Elements.{All-push}
use Rattle.mesh_defs.specs.declared.ConeEntry.{ConeEntry}
use Rattle.plain_lists.specs.Lists.{below}
use Rattle.plex_defs.specs.Closure.{covers, new_points}
use Rattle.mesh_defs.specs.Diagram.{Diagram}
use Rattle.walk_defs.specs.Cones.{facets_by_cone, levels_by_cones}
use Rattle.plex_walk.specs.Entries.{added}

-- ---- one more

pub added-once : (there : List ConeEntry) (e : ConeEntry) → covers there e.point ≡ true → added there (e ∷ []) ≡ there
added-once there e h = rw h refl

pub added-new : (there : List ConeEntry) (e : ConeEntry) → covers there e.point ≡ false → added there (e ∷ []) ≡ there ++ e ∷ []
added-new there e h = rw h refl

-- what is added in two parts
pub added-append : (there es fs : List ConeEntry) → added there (es ++ fs) ≡ added (added there es) fs
added-append there [] fs = refl
added-append there (e ∷ es) fs = elim (cases_Bool (covers there e.point)) as (λ _. added there ((e ∷ es) ++ fs) ≡ added (added there (e ∷ es)) fs) [
  | inl h ↦ rw h (added-append there es fs)
  | inr h ↦ rw h (added-append (there ++ e ∷ []) es fs)
]

-- ---- what is added is what is new

-- which entries are new depends on which points are there alone
new_points-same : (a b es : List ConeEntry) → ((p : ℕ) → covers a p ≡ covers b p) → new_points a es ≡ new_points b es
new_points-same a b [] same = refl
new_points-same a b (e ∷ es) same = elim (cases_Bool (covers a e.point)) as (λ _. new_points a (e ∷ es) ≡ new_points b (e ∷ es)) [
  | inl h ↦ let other : covers b e.point ≡ true = sym (same e.point) ∙ h in rw (h, other) (new_points-same a b es same)
  | inr h ↦ let other : covers b e.point ≡ false = sym (same e.point) ∙ h in
      rw (h, other) (ap (λ l. e ∷ l) (new_points-same (e ∷ a) (e ∷ b) es (λ p. ap (λ t. (e.point == p) || t) (same p))))
]

or-turned : (a b : Bool) → (a || (b || false)) ≡ (b || a)
or-turned true true = refl
or-turned true false = refl
or-turned false true = refl
or-turned false false = refl

-- an entry at the end is there as much as one at the front
covers-push : (there : List ConeEntry) (e : ConeEntry) (p : ℕ) → covers (there ++ e ∷ []) p ≡ covers (e ∷ there) p
covers-push there e p = list_any-append (λ (c : ConeEntry). c.point == p) there (e ∷ []) ∙ or-turned (covers there p) (e.point == p)

pub added-is : (there es : List ConeEntry) → added there es ≡ there ++ new_points there es
added-is there [] = sym (append-nil there)
added-is there (e ∷ es) = elim (cases_Bool (covers there e.point)) as (λ _. added there (e ∷ es) ≡ there ++ new_points there (e ∷ es)) [
  | inl h ↦ rw h (added-is there es)
  | inr h ↦ rw h (added-is (there ++ e ∷ []) es ∙ ap (λ l. (there ++ e ∷ []) ++ l) (new_points-same (there ++ e ∷ []) (e ∷ there) es (covers-push there e)) ∙ append_assoc there (e ∷ []) (new_points (e ∷ there) es))
]

-- ---- what all entries have

pub All-added : (P : ConeEntry → Type 0) (there : List ConeEntry) (e : ConeEntry) → All P there → P e → All P (added there (e ∷ []))
All-added P there e all here = elim (cases_Bool (covers there e.point)) as (λ _. All P (added there (e ∷ []))) [
  | inl h ↦ rw h all
  | inr h ↦ rw h (All-push P there e all here)
]

-- ---- the facets of an entry, the entries of a level, the levels

pub added-more : (f : ℕ → ConeEntry) (there : List ConeEntry) (k : ℕ) → added (added there (map f (below k))) (f k ∷ []) ≡ added there (map f (below (k + 1)))
added-more f there k = rw (add-one, map-append) (sym (added-append there (map f (below k)) (f k ∷ [])))

-- the entries from place i on, of which the first one is done
pub added-level : (F : ConeEntry → List ConeEntry) (there start : List ConeEntry) (i : ℕ) (d : ConeEntry) → i < length start
    → added (added there (F (get_or start i d))) (flat_map F (drop (i + 1) start)) ≡ added there (flat_map F (drop i start))
added-level F there start i d within =
    let first : drop i start ≡ get_or start i d ∷ drop (suc i) start = drop-cons start i d within in
    rw (first, add-one, flat_map-cons) (sym (added-append there (F (get_or start i d)) (flat_map F (drop (suc i) start))))

-- what was there first stands in front
pub added-kept : (start there es : List ConeEntry) → (rest : List ConeEntry) × (there ≡ start ++ rest) → (rest : List ConeEntry) × (added there es ≡ start ++ rest)
added-kept start there es (rest, h) =
    (rest ++ new_points there es, added-is there es ∙ ap (λ l. l ++ new_points there es) h ∙ append_assoc start rest (new_points there es))

-- one level more
pub added-levels : (x : Diagram) (n m : ℕ) (there last : List ConeEntry) → n ≡ suc m
    → levels_by_cones x n there last ≡ levels_by_cones x m (added there (flat_map (facets_by_cone x) last)) (drop (length there) (added there (flat_map (facets_by_cone x) last)))
added-levels x n m there last h =
    let es : List ConeEntry = flat_map (facets_by_cone x) last in
    rw (h, added-is there es, drop-append_seam) refl
