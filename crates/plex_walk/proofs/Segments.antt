-- Lists that stand one after the other.
use Rattle.std.proofs.Common.{◌≡◌, ℕ, ◌+◌, ◌-◌, ◌<◌, ◌≤◌, List, [], ◌++◌, length, map, get_or, take, drop, sym, ap, ◌∙◌, inl, inr, arith, length-take, length-drop}
use Rattle.std.proofs.lemmas.List.{length-map, same_lists, get_or-take, get_or-drop}
use Rattle.std.proofs.lemmas.Grind.{same_number_lists}
use Rattle.std.proofs.Math.Seq.{take-append_seam}
use Rattle.plain_lists.specs.Lists.{below}
use Rattle.plain_lists.proofs.Below.{length-below, get_or-map-below}
use Rattle.mesh_defs.specs.Diagram.{Diagram}
use Rattle.plex_defs.specs.Closure.{support}
use Rattle.plex_walk.specs.Supports.{supports_of, segment, segments, IsSegmented}
use Rattle.plex_walk.specs.Filling.{support_below, support_size, HasRoom, IsFilled}
use Rattle.plex_walk.proofs.Filling.{place-cases, room-end}

-- a list that is there has a start and an end
pub has_end : (starts points : List ℕ) (p : ℕ) → p < length (segments starts points) → p + 1 < length starts
has_end starts points p within = omega (arith, within, length-map (below (length starts - 1)) (segment starts points), length-below (length starts - 1))

pub segment-at : (starts points : List ℕ) (p : ℕ) → p + 1 < length starts → get_or (segments starts points) p [] ≡ segment starts points p
segment-at starts points p within = get_or-map-below (segment starts points) (length starts - 1) p [] (omega arith)

-- ---- the supports, once they are filled

-- a support begins where the one before it ends
starts_at : (x : Diagram) (starts : List ℕ) (room : ℕ) (ends points : List ℕ) (p : ℕ) → HasRoom x starts room → IsFilled x (length x.points) starts room ends points → p < length x.points
    → get_or ends p 0 ≡ get_or starts (p + 1) 0
starts_at x starts room ends points p h filled low = elim (place-cases p) as (λ _. get_or ends p 0 ≡ get_or starts (p + 1) 0) [
  | inl e ↦ let some : 0 < length x.points = omega arith in rw e (omega (arith, filled.first, h.none, h.first some))
  | inr (r, e) ↦ let before : r < length x.points = omega arith in let next : r + 1 < length x.points = omega arith in rw e (omega (arith, filled.so_far r before, h.next r next))
]

pub segments-filled : (x : Diagram) (starts : List ℕ) (room : ℕ) (ends points : List ℕ) → HasRoom x starts room → IsFilled x (length x.points) starts room ends points → segments ends points ≡ supports_of x
unfolding support supports_of
segments-filled x starts room ends points h filled =
    same_lists (segments ends points) (map (support x) (below n)) sizes
    (λ p d within. let low : p < n = omega (arith, within, size) in get_or-map-below (segment ends points) (length ends - 1) p d (omega (arith, count, low)) ∙ segment-filled p low ∙ sym (get_or-map-below (support x) n p d low))
  where
    n : ℕ
    n = length x.points

    count : length ends - 1 ≡ n
    count = omega (arith, filled.size, h.size)

    size : length (segments ends points) ≡ n
    size = length-map (below (length ends - 1)) (segment ends points) ∙ length-below (length ends - 1) ∙ count

    sizes : length (segments ends points) ≡ length (map (support x) (below n))
    sizes = size ∙ sym (length-map (below n) (support x) ∙ length-below n)

    segment-filled : (p : ℕ) → p < n → segment ends points p ≡ support_below x p n
    segment-filled p low =
        let start : get_or ends p 0 ≡ get_or starts (p + 1) 0 = starts_at x starts room ends points p h filled low in
        let long : get_or starts (p + 1) 0 + support_size x p ≤ length points = omega (arith, filled.all, room-end x starts room p h low) in
        let end : get_or ends (p + 1) 0 - get_or ends p 0 ≡ support_size x p = omega (arith, start, filled.so_far p low) in
        same_number_lists (segment ends points p) (support_below x p n)
        (length-take (get_or ends (p + 1) 0 - get_or ends p 0) (drop (get_or ends p 0) points) ∙ omega (arith, start, long, end, length-drop (get_or ends p 0) points))
        (λ j within.
        let low_j : j < get_or ends (p + 1) 0 - get_or ends p 0 = omega (arith, within, length-take (get_or ends (p + 1) 0 - get_or ends p 0) (drop (get_or ends p 0) points)) in
        let here : j < length (support_below x p n) = omega (arith, low_j, end) in
        get_or-take (get_or ends (p + 1) 0 - get_or ends p 0) (drop (get_or ends p 0) points) j 0 low_j
        ∙ get_or-drop (get_or ends p 0) points j 0
        ∙ ap (λ i. get_or points (i + j) 0) start
        ∙ filled.there p j low here)

pub segmented-filled : (x : Diagram) (starts : List ℕ) (room : ℕ) (ends points : List ℕ) → HasRoom x starts room → IsFilled x (length x.points) starts room ends points → IsSegmented ends points
segmented-filled x starts room ends points h filled = record {
  rising = λ p within. let low : p < length x.points = omega (arith, filled.size, h.size) in omega (arith, starts_at x starts room ends points p h filled low, filled.so_far p low);
  within = λ p within. elim (place-cases p) as (λ _. get_or ends p 0 ≤ length points) [
    | inl e ↦ rw (e, filled.first, h.none) (omega arith)
    | inr (r, e) ↦ let low : r < length x.points = omega (arith, filled.size, h.size) in rw e (omega (arith, filled.so_far r low, filled.all, room-end x starts room r h low))
  ];
}

-- a vector whose elements are written through a slice
pub written : (len : ℕ) (new old : List ℕ) → length new ≡ len → take len (new ++ drop (length new) old) ≡ new
written len new old size = rw (sym size) (take-append_seam new (drop (length new) old))
