-- How long supports are, and where they stand.
use Rattle.std.proofs.Common.{◌⊎◌, add-zero, ◌≡◌, ◌≢◌, ℕ, zero, suc, ◌+◌, ◌-◌, ◌<◌, ◌≤◌, true, List, [], ◌∷◌, ◌++◌, length, get_or, refl, sym, ap, ◌∙◌, inl, inr, arith, add-one, length-append}
use Rattle.std.specs.Prelude.{filter}
use Rattle.std.proofs.lemmas.Bool.{cases_Bool, cases_lt, cases_order}
use Rattle.std.proofs.lemmas.List.{get_or_append_left}
use Rattle.std.proofs.Math.Seq.{get_or-append_seam}
use Rattle.std.proofs.lemmas.List.Elements.{filter-append}
use Rattle.std.proofs.lemmas.List.Sums.{length-filter, count_by-le-length}
use Rattle.plain_lists.specs.Lists.{below}
use Rattle.plain_lists.proofs.Below.{length-below}
use Rattle.mesh_defs.specs.Diagram.{Diagram}
use Rattle.plex_defs.specs.Closure.{point_in, covers}
use Rattle.plex_walk.specs.Filling.{one_if, support_below, support_size, IsCounted, AreSizes, AreSums, IsPut, CanPut, HasRoom, IsFilled}

-- ---- one point more

abbrev at_end : Diagram → ℕ → ℕ → List ℕ
at_end x p q = filter (λ r. covers (point_in x r).covers p) (q ∷ [])

pub support_below-more : (x : Diagram) (p q : ℕ) → support_below x p (q + 1) ≡ support_below x p q ++ at_end x p q
support_below-more x p q = rw (add-one) (filter-append (λ r. covers (point_in x r).covers p) (below q) (q ∷ []))

length-at_end : (x : Diagram) (p q : ℕ) → length (at_end x p q) ≡ one_if (covers (point_in x q).covers p)
length-at_end x p q = elim (cases_Bool (covers (point_in x q).covers p)) as (λ _. length (at_end x p q) ≡ one_if (covers (point_in x q).covers p)) [
  | inl h ↦ rw h refl
  | inr h ↦ rw h refl
]

pub size-more : (x : Diagram) (p q : ℕ) → length (support_below x p (q + 1)) ≡ length (support_below x p q) + one_if (covers (point_in x q).covers p)
size-more x p q = rw (support_below-more x p q) (length-append (support_below x p q) (at_end x p q) ∙ ap (λ n. length (support_below x p q) + n) (length-at_end x p q))

pub size-below : (x : Diagram) (p q : ℕ) → length (support_below x p q) ≤ q
size-below x p q = omega (arith, length-filter (λ r. covers (point_in x r).covers p) (below q), count_by-le-length (λ r. covers (point_in x r).covers p) (below q), length-below q)

-- a support grows with the points that are looked at
pub size-grows : (x : Diagram) (p q d : ℕ) → length (support_below x p q) ≤ length (support_below x p (q + d))
size-grows x p q zero = simp add-zero (omega arith)
size-grows x p q (suc d) =
    let more : length (support_below x p (q + d + 1)) ≡ length (support_below x p (q + d)) + one_if (covers (point_in x (q + d)).covers p) = size-more x p (q + d) in
    let same : q + suc d ≡ q + d + 1 = omega arith in
    rw same (omega (arith, more, size-grows x p q d))

-- a point that has p in its cone is one more
pub size-room : (x : Diagram) (p q : ℕ) → q < length x.points → covers (point_in x q).covers p ≡ true → length (support_below x p q) < support_size x p
size-room x p q within h =
    let more : length (support_below x p (q + 1)) ≡ length (support_below x p q) + 1 = size-more x p q ∙ ap (λ b. length (support_below x p q) + one_if b) h in
    let same : q + 1 + (length x.points - (q + 1)) ≡ length x.points = omega arith in
    let grown : length (support_below x p (q + 1)) ≤ support_size x p = rw same at (size-grows x p (q + 1) (length x.points - (q + 1))) in
    omega (arith, more, grown)

pub size-within : (x : Diagram) (p q : ℕ) → q ≤ length x.points → length (support_below x p q) ≤ support_size x p
size-within x p q within = let same : q + (length x.points - q) ≡ length x.points = omega arith in rw same at (size-grows x p q (length x.points - q))

-- ---- counting

pub sizes-more : (x : Diagram) (q : ℕ) (counts new : List ℕ) → AreSizes x q counts → IsCounted (point_in x q).covers counts new → AreSizes x (q + 1) new
sizes-more x q counts new h counted = record {
  size = counted.size ∙ h.size;
  first = counted.first ∙ h.first;
  points = λ p within. let low : p + 1 < length counts = omega (arith, h.size) in omega (arith, counted.points p low, h.points p within, size-more x p q);
}

-- a number of a list is the first one, or that of a point
pub place-cases : (j : ℕ) → (j ≡ 0) ⊎ ((p : ℕ) × (j ≡ p + 1))
place-cases zero = inl refl
place-cases (suc p) = inr (p, omega arith)

pub sizes-small : (x : Diagram) (q : ℕ) (counts : List ℕ) (bound : ℕ) → AreSizes x q counts → q < bound → (j : ℕ) → j < length counts → get_or counts j 0 < bound
sizes-small x q counts bound h low j within = elim (place-cases j) as (λ _. get_or counts j 0 < bound) [
  | inl e ↦ rw (e, h.first) (omega arith)
  | inr (p, e) ↦ let point : p < length x.points = omega (arith, h.size) in rw (e, h.points p point) (omega (arith, size-below x p q))
]

-- ---- room

pub room-sums : (x : Diagram) (counts starts : List ℕ) (total : ℕ) → AreSizes x (length x.points) counts → AreSums counts starts total → HasRoom x starts total
room-sums x counts starts total h sums = record {
  size = sums.size ∙ h.size;
  none = sums.first;
  first = λ some. let low : 1 < length counts = omega (arith, h.size) in omega (arith, sums.next 0 low, sums.first, h.first);
  next = λ p within. let low : p + 1 + 1 < length counts = omega (arith, h.size) in let point : p < length x.points = omega arith in omega (arith, sums.next (p + 1) low, h.points p point);
  last = λ p e. let end : p + 1 + 1 ≡ length counts = omega (arith, h.size) in let point : p < length x.points = omega arith in omega (arith, sums.last (p + 1) end, h.points p point);
}

-- a support ends before that of a later point begins
room-apart : (x : Diagram) (starts : List ℕ) (room p d : ℕ) → HasRoom x starts room → p + 1 + d < length x.points → get_or starts (p + 1) 0 + support_size x p ≤ get_or starts (p + 1 + d + 1) 0
room-apart x starts room p zero h within =
    let low : p + 1 < length x.points = omega arith in
    let same : p + 1 + 0 + 1 ≡ p + 1 + 1 = omega arith in
    rw same (omega (arith, h.next p low))
room-apart x starts room p (suc d) h within =
    let low : p + 1 + d < length x.points = omega arith in
    let same : p + 1 + suc d + 1 ≡ p + 1 + d + 1 + 1 = omega arith in
    let next : p + 1 + d + 1 < length x.points = omega arith in
    rw same (omega (arith, h.next (p + 1 + d) next, room-apart x starts room p d h low))

pub room-before : (x : Diagram) (starts : List ℕ) (room p r : ℕ) → HasRoom x starts room → p < r → r < length x.points → get_or starts (p + 1) 0 + support_size x p ≤ get_or starts (r + 1) 0
room-before x starts room p r h lt within =
    let same : p + 1 + (r - (p + 1)) ≡ r = omega arith in
    let low : p + 1 + (r - (p + 1)) < length x.points = omega arith in
    rw same at (room-apart x starts room p (r - (p + 1)) h low)

pub room-end : (x : Diagram) (starts : List ℕ) (room p : ℕ) → HasRoom x starts room → p < length x.points → get_or starts (p + 1) 0 + support_size x p ≤ room
room-end x starts room p h within = elim (cases_lt (p + 1) (length x.points)) as (λ _. get_or starts (p + 1) 0 + support_size x p ≤ room) [
  | inl lt ↦
      let r : ℕ = length x.points - 1 in
      let before : p < r = omega arith in
      let point : r < length x.points = omega arith in
      let last : r + 1 ≡ length x.points = omega arith in
      omega (arith, room-before x starts room p r h before point, h.last r last)
  | inr ge ↦ let last : p + 1 ≡ length x.points = omega arith in omega (arith, h.last p last)
]

-- ---- filling

-- where supports end so far, they do not meet
apart-below : (x : Diagram) (q p r : ℕ) (starts : List ℕ) (room : ℕ) → HasRoom x starts room → q < length x.points → covers (point_in x q).covers p ≡ true → p < r → r < length x.points
    → get_or starts (p + 1) 0 + length (support_below x p q) < get_or starts (r + 1) 0 + length (support_below x r q)
apart-below x q p r starts room h low covered lt within = omega (arith, size-room x p q low covered, room-before x starts room p r h lt within)

pub can_put : (x : Diagram) (q : ℕ) (starts : List ℕ) (room : ℕ) (ends points : List ℕ) → HasRoom x starts room → IsFilled x q starts room ends points → q < length x.points
    → ((p : ℕ) → covers (point_in x q).covers p ≡ true → p < length x.points) → CanPut (point_in x q).covers ends (length points)
can_put x q starts room ends points h filled low named = record {
  within = λ p covered. omega (arith, filled.all, filled.so_far p (named p covered), size-room x p q low covered, room-end x starts room p h (named p covered));
  apart = apart;
}
  where
    apart : (p r : ℕ) → covers (point_in x q).covers p ≡ true → covers (point_in x q).covers r ≡ true → p ≢ r → get_or ends (p + 1) 0 ≢ get_or ends (r + 1) 0
    apart p r covers_p covers_r other same = elim (cases_order p r) as (λ _. ⊥) [
      | inl e ↦ other e
      | inr (inl lt) ↦ absurd (omega (arith, same, filled.so_far p (named p covers_p), filled.so_far r (named r covers_r), apart-below x q p r starts room h low covers_p lt (named r covers_r)))
      | inr (inr gt) ↦ absurd (omega (arith, same, filled.so_far p (named p covers_p), filled.so_far r (named r covers_r), apart-below x q r p starts room h low covers_r gt (named p covers_p)))
    ]

pub filled-more : (x : Diagram) (q : ℕ) (starts : List ℕ) (room : ℕ) (ends points new_ends new_points : List ℕ) → HasRoom x starts room → IsFilled x q starts room ends points → q < length x.points
    → ((p : ℕ) → covers (point_in x q).covers p ≡ true → p < length x.points) → IsPut q (point_in x q).covers ends points new_ends new_points → IsFilled x (q + 1) starts room new_ends new_points
filled-more x q starts room ends points new_ends new_points h filled low named put = record {
  size = put.counted.size ∙ filled.size;
  all = put.size ∙ filled.all;
  first = put.counted.first ∙ filled.first;
  so_far = λ p within. let at : p + 1 < length ends = omega (arith, filled.size, h.size) in omega (arith, put.counted.points p at, filled.so_far p within, size-more x p q);
  there = there;
}
  where
    -- no end so far stands at a place that is filled
    kept : (p j r : ℕ) → p < length x.points → j < length (support_below x p q) → covers (point_in x q).covers r ≡ true → get_or ends (r + 1) 0 ≢ get_or starts (p + 1) 0 + j
    kept p j r within filled_there covered same = elim (cases_order p r) as (λ _. ⊥) [
      | inl e ↦ let end : get_or ends (p + 1) 0 ≡ get_or starts (p + 1) 0 + j = ap (λ s. get_or ends (s + 1) 0) e ∙ same in absurd (omega (arith, end, filled.so_far p within))
      | inr (inl lt) ↦
          let fits : length (support_below x p q) ≤ support_size x p = let all : q ≤ length x.points = omega arith in size-within x p q all in
          absurd (omega (arith, same, fits, filled.so_far r (named r covered), room-before x starts room p r h lt (named r covered)))
      | inr (inr gt) ↦ absurd (omega (arith, same, filled.so_far r (named r covered), size-room x r q low covered, room-before x starts room r p h gt within))
    ]

    there : (p j : ℕ) → p < length x.points → j < length (support_below x p (q + 1)) → get_or new_points (get_or starts (p + 1) 0 + j) 0 ≡ get_or (support_below x p (q + 1)) j 0
    there p j within more = elim (cases_lt j (length (support_below x p q))) as (λ _. get_or new_points (get_or starts (p + 1) 0 + j) 0 ≡ get_or (support_below x p (q + 1)) j 0) [
      | inl old ↦
          put.kept (get_or starts (p + 1) 0 + j) (λ r covered. kept p j r within old covered)
          ∙ filled.there p j within old
          ∙ sym (ap (λ (l : List ℕ). get_or l j 0) (support_below-more x p q) ∙ get_or_append_left (support_below x p q) (at_end x p q) 0 j old)
      | inr new ↦ elim (cases_Bool (covers (point_in x q).covers p)) as (λ _. get_or new_points (get_or starts (p + 1) 0 + j) 0 ≡ get_or (support_below x p (q + 1)) j 0) [
        | inl covered ↦
            let bit : one_if (covers (point_in x q).covers p) ≡ 1 = ap one_if covered in
            let last : j ≡ length (support_below x p q) = omega (arith, size-more x p q, bit) in
            let place : get_or starts (p + 1) 0 + j ≡ get_or ends (p + 1) 0 = omega (arith, last, filled.so_far p within) in
            let end : at_end x p q ≡ q ∷ [] = rw covered refl in
            ap (λ i. get_or new_points i 0) place ∙ put.there p covered
            ∙ sym (ap (λ (l : List ℕ). get_or l j 0) (support_below-more x p q ∙ ap (λ (l : List ℕ). support_below x p q ++ l) end) ∙ ap (λ i. get_or (support_below x p q ++ q ∷ []) i 0) last ∙ get_or-append_seam (support_below x p q) q [] 0)
        | inr not_there ↦ let bit : one_if (covers (point_in x q).covers p) ≡ 0 = ap one_if not_there in absurd (omega (arith, size-more x p q, bit))
      ]
    ]
