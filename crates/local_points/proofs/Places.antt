-- Points that are numbered by first sight, and how a table finds them by their sets.
use Rattle.std.proofs.Common.{◌≡◌, ℕ, ◌+◌, Bool, true, false, cond, not, List, [], ◌∷◌, ◌++◌, map, length, Some, None, refl, sym, ap, ◌∙◌, arith}
use Rattle.std.specs.Prelude.{position, nat_lt}
use Rattle.std.specs.List.{list_any, position_or_len, AllByRecursion}
use Rattle.std.proofs.lemmas.Bool.{cond-true, cond-false, not-true, not-false}
use Rattle.std.proofs.lemmas.List.{map_push, length-map}
use Rattle.plain_lists.specs.Lists.{same_list}
use Rattle.plain_lists.proofs.Each.{all_weaker}
use Rattle.plain_lists.proofs.Filters.{map_same}
use Rattle.plain_lists.proofs.Finding.{any_agree, position_agree, any_map, position_map, position-append_found, position-append_none, position-none}
use Rattle.mesh_defs.specs.Points.{Point, Sight, point_of, shows}
use Rattle.mesh_defs.specs.Diagram.{firsts, place_in}
use Rattle.mesh_laws.proofs.Firsts.{shows-own, firsts-push, firsts-prefix, list_any-firsts, shown_itself}
use Rattle.local_points.specs.Points.{with_sight, places_in}

-- ---- one more sight

-- a point is where it is once it is there
pub place-with_sight : (points : List Sight) (s : Sight) → place_in (with_sight points s) (point_of s) ≡ place_in points (point_of s)
place-with_sight points s = go (list_any (shows (point_of s)) points) refl
  where
    own : position_or_len (shows (point_of s)) (s ∷ []) ≡ 0
    own = ap (λ t. cond (not t) (1 + 0) 0) (shows-own s)

    go : (b : Bool) → list_any (shows (point_of s)) points ≡ b → place_in (cond b points (points ++ s ∷ [])) (point_of s) ≡ place_in points (point_of s)
    go true e = refl
    go false e = omega (arith, position-append_none (shows (point_of s)) points (s ∷ []) e, position-none (shows (point_of s)) points e, own)

-- first sights, once there is one more sight
pub firsts-with_sight : (seen : List Sight) (s : Sight) → with_sight (firsts seen) s ≡ firsts (seen ++ s ∷ [])
firsts-with_sight seen s = sym (firsts-push seen s)

-- what was seen stays where it is
place-settled : (seen more : List Sight) (p : Point) → list_any (shows p) seen ≡ true → place_in (firsts (seen ++ more)) p ≡ place_in (firsts seen) p
place-settled seen more p shown =
    let prefix = firsts-prefix seen more in
    ap (λ l. place_in l p) prefix.1 ∙ position-append_found (shows p) (firsts seen) prefix.0 (list_any-firsts p seen ∙ shown)

-- the places of what was seen, once there is one more sight
pub places-push : (seen : List Sight) (s : Sight) → places_in (firsts seen) seen ++ place_in (firsts (seen ++ s ∷ [])) (point_of s) ∷ [] ≡ places_in (firsts (seen ++ s ∷ [])) (seen ++ s ∷ [])
places-push seen s =
    let same = map_same (λ t. place_in (firsts (seen ++ s ∷ [])) (point_of t)) (λ t. place_in (firsts seen) (point_of t)) seen
    (all_weaker (λ t. list_any (shows (point_of t)) seen ≡ true) (λ t. place_in (firsts (seen ++ s ∷ [])) (point_of t) ≡ place_in (firsts seen) (point_of t))
    (λ t shown. place-settled seen (s ∷ []) (point_of t) shown) seen (shown_itself seen)) in
    ap (λ l. l ++ place_in (firsts (seen ++ s ∷ [])) (point_of s) ∷ []) (sym same)
    ∙ sym (map_push (λ t. place_in (firsts (seen ++ s ∷ [])) (point_of t)) seen s)

-- ---- tables

-- items that are sights and are found by sets
module _ {X : Type 0} (sight : X → Sight) (set : X → List ℕ) where
  -- the set tells whether an item shows this point
  abbrev pub Tells : List ℕ → Point → X → Type 0
  Tells t p x = same_list t (set x) ≡ shows p (sight x)

  -- a point is shown where its set is there
  pub any-sets : (t : List ℕ) (p : Point) (items : List X) → AllByRecursion (Tells t p) items → list_any (same_list t) (map set items) ≡ list_any (shows p) (map sight items)
  any-sets t p items h =
      any_map (same_list t) set items ∙ any_agree (λ x. same_list t (set x)) (λ x. shows p (sight x)) items h
      ∙ sym (any_map (shows p) sight items)

  -- and stands where its set does
  pub position-sets : (t : List ℕ) (p : Point) (items : List X) → AllByRecursion (Tells t p) items → position_or_len (same_list t) (map set items) ≡ position_or_len (shows p) (map sight items)
  position-sets t p items h =
      position_map (same_list t) set items ∙ position_agree (λ x. same_list t (set x)) (λ x. shows p (sight x)) items h
      ∙ sym (position_map (shows p) sight items)

  -- so it is found by its set
  pub found-by_set : (t : List ℕ) (p : Point) (keys : List (List ℕ)) (items : List X) (now : List Sight)
      → keys ≡ map set items → map sight items ≡ now → AllByRecursion (Tells t p) items → position (same_list t) keys ≡ position (shows p) now
  found-by_set t p keys items now sets view h =
      let size : length keys ≡ length now = ap length sets ∙ length-map items set ∙ sym (length-map items sight) ∙ ap length view in
      let place : position_or_len (same_list t) keys ≡ position_or_len (shows p) now =
      ap (position_or_len (same_list t)) sets ∙ position-sets t p items h ∙ ap (position_or_len (shows p)) view in
      λ i. cond (nat_lt (place i) (size i)) (Some (place i)) None

  -- a table takes an item x whose set is t
  module _ (keys : List (List ℕ)) (items : List X) (now : List Sight) (x : X) (t : List ℕ)
      (sets : keys ≡ map set items) (view : map sight items ≡ now) (h : AllByRecursion (Tells t (point_of (sight x))) items) where
    shown : list_any (same_list t) keys ≡ list_any (shows (point_of (sight x))) now
    shown = ap (list_any (same_list t)) sets ∙ any-sets t (point_of (sight x)) items h ∙ ap (list_any (shows (point_of (sight x)))) view

    -- where the set is
    pub table-place : position_or_len (same_list t) keys ≡ place_in (with_sight now (sight x)) (point_of (sight x))
    table-place =
        ap (position_or_len (same_list t)) sets ∙ position-sets t (point_of (sight x)) items h ∙ ap (position_or_len (shows (point_of (sight x)))) view
        ∙ sym (place-with_sight now (sight x))

    -- an item that is new goes to the end
    pub table-new : (b : Bool) → b ≡ not (list_any (same_list t) keys) → b ≡ true → map sight (items ++ x ∷ []) ≡ with_sight now (sight x)
    table-new b added new =
        let none = sym shown ∙ not-true _ (sym added ∙ new) in
        map_push sight items x ∙ ap (λ l. l ++ sight x ∷ []) view ∙ sym (cond-false (list_any (shows (point_of (sight x))) now) now (now ++ sight x ∷ []) none)

    -- nothing changes where it is known
    pub table-known : (b : Bool) → b ≡ not (list_any (same_list t) keys) → b ≡ false → map sight items ≡ with_sight now (sight x)
    table-known b added old =
        let some = sym shown ∙ not-false _ (sym added ∙ old) in
        view ∙ sym (cond-true (list_any (shows (point_of (sight x))) now) now (now ++ sight x ∷ []) some)
