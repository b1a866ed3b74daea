-- Faces by the sets of their vertices, where a triangle has a fourth number that is no vertex.
use Rattle.std.proofs.Common.{◌≡◌, ◌≢◌, ◌⊎◌, ℕ, suc, ⊎_elim, ◌<◌, ◌≤◌, Bool, true, false, cond, List, [], ◌∷◌, ◌++◌, map, length, get_or, take, nat_le, refl, sym, ap, ap₂, ◌∙◌, subst, inl, inr, arith}
use Rattle.std.specs.Prelude.{◌&&◌, ◌==◌, slice_index, position, nat_lt, None, Some}
use Rattle.std.specs.List.{AllByRecursion, list_any, position_or_len}
use Rattle.std.specs.Cmp.Lexicographic.{same_text}
use Rattle.std.proofs.lemmas.Bool.{cond-true, cond-false, le-leb, le-ltb, eqb-false, eq-eqb, cases_eq, ne_eqb, or_parts, both_ways}
use Rattle.plain_lists.specs.Lists.{inserted, sorted, same_list}
use Rattle.plain_lists.proofs.Finding.{any_map, none_passes, position-none}
use Rattle.plain_lists.proofs.Each.{all_weaker, all_append, all_append_second}
use Rattle.std.proofs.lemmas.List.{length-take}
use Rattle.plain_lists.proofs.Sorted.{all_sorted}
use Rattle.mesh_defs.specs.declared.Poly.TheVariants.{Triangle, Quad}
use Rattle.mesh_defs.specs.Points.{Sight, point_of, shows}
use Rattle.local_points.specs.declared.seen_faces.Face.{Face}
use Rattle.local_points.specs.Stored.{no_vertex, face_sight_of, face_set, face_point, IsFace, IsSetOn, IsOnNoFace, AreFaces}
use Rattle.local_points.proofs.Arrays.{three-and-last}
use Rattle.local_points.proofs.Places.{Tells, found-by_set}

-- ---- sorted lists

-- as many numbers as before
length-inserted : (x : ℕ) (ys : List ℕ) → length (inserted x ys) ≡ suc (length ys)
length-inserted x [] = refl
length-inserted x (y ∷ ys) = go (nat_le x y) (length-inserted x ys)
  where
    go : (b : Bool) → length (inserted x ys) ≡ suc (length ys) → length (cond b (x ∷ y ∷ ys) (y ∷ inserted x ys)) ≡ suc (suc (length ys))
    go true r = refl
    go false r = ap suc r

pub length-sorted : (xs : List ℕ) → length (sorted xs) ≡ length xs
unfolding sorted
length-sorted [] = refl
length-sorted (x ∷ xs) = length-inserted x (sorted xs) ∙ ap suc (length-sorted xs)

-- a number that is not above the last one goes before it
inserted-before : (m x : ℕ) (ys : List ℕ) → x ≤ m → inserted x (ys ++ m ∷ []) ≡ inserted x ys ++ m ∷ []
inserted-before m x [] h = cond-true (nat_le x m) (x ∷ m ∷ []) (m ∷ x ∷ []) (le-leb x m h)
inserted-before m x (y ∷ ys) h = go (nat_le x y) (inserted-before m x ys h)
  where
    go : (b : Bool) → inserted x (ys ++ m ∷ []) ≡ inserted x ys ++ m ∷ [] → cond b (x ∷ y ∷ (ys ++ m ∷ [])) (y ∷ inserted x (ys ++ m ∷ [])) ≡ cond b (x ∷ y ∷ ys) (y ∷ inserted x ys) ++ m ∷ []
    go true r = refl
    go false r = ap (λ l. y ∷ l) r

-- a number that none is above stays last
sorted-padded : (m : ℕ) (xs : List ℕ) → AllByRecursion (λ v. v < m) xs → sorted (xs ++ m ∷ []) ≡ sorted xs ++ m ∷ []
unfolding sorted
sorted-padded m [] h = refl
sorted-padded m (x ∷ xs) h = let low : x ≤ m = omega (arith, h.0) in ap (inserted x) (sorted-padded m xs h.1) ∙ inserted-before m x (sorted xs) low

-- ---- equal lists

-- lists that cannot be equal
differ : (xs ys : List ℕ) → (xs ≡ ys → ⊥) → same_list xs ys ≡ false
differ xs ys apart = go (same_list xs ys) refl
  where
    go : (b : Bool) → same_list xs ys ≡ b → b ≡ false
    go true e = absurd (apart (same_text xs ys (sym e)))
    go false e = refl

-- an equal last number changes nothing
same_list-padded : (m : ℕ) (xs ys : List ℕ) → length xs ≡ length ys → same_list (xs ++ m ∷ []) (ys ++ m ∷ []) ≡ same_list xs ys
same_list-padded m [] [] h = ap (λ b. b && true) (eq-eqb m m refl)
same_list-padded m [] (y ∷ ys) h = absurd (omega arith)
same_list-padded m (x ∷ xs) [] h = absurd (omega arith)
same_list-padded m (x ∷ xs) (y ∷ ys) h = ap (λ b. (x == y) && b) (same_list-padded m xs ys (omega arith))

-- a list with this last number is none of lower ones
padded-not : (m : ℕ) (xs ys : List ℕ) → AllByRecursion (λ v. v < m) ys → xs ++ m ∷ [] ≡ ys → ⊥
padded-not m xs ys low e = let last = all_append_second (λ v. v < m) xs (m ∷ []) (subst (AllByRecursion (λ v. v < m)) (sym e) low) in omega (arith, last.0)

-- ---- faces

-- a triangle and a fourth number that is no vertex, or four vertices
record IsTriangle (f : Face) : Type 0 where
  sight : face_sight_of f ≡ record { key = f.key; poly = Triangle; arrangement = take 3 f.corners }
  set : face_set f ≡ sorted (take 3 f.corners) ++ no_vertex ∷ []
  three : length (take 3 f.corners) ≡ 3

record IsQuad (f : Face) : Type 0 where
  sight : face_sight_of f ≡ record { key = f.key; poly = Quad; arrangement = f.corners }
  low : AllByRecursion (λ v. v < no_vertex) f.corners
  four : length f.corners ≡ 4

-- each face is one or the other
kind-of : (f : Face) → IsFace f → IsTriangle f ⊎ IsQuad f
kind-of f is = ⊎_elim triangle quad (cases_eq (slice_index f.corners 3) no_vertex)
  where
    ends : f.corners ≡ take 3 f.corners ++ slice_index f.corners 3 ∷ []
    ends = three-and-last f.corners is.four

    triangle : slice_index f.corners 3 ≡ no_vertex → IsTriangle f ⊎ IsQuad f
    triangle e = inl (record {
      sight = cond-true (slice_index f.corners 3 == no_vertex) _ _ (eq-eqb (slice_index f.corners 3) no_vertex e);
      set = ap sorted (ends ∙ ap (λ v. take 3 f.corners ++ v ∷ []) e) ∙ sorted-padded no_vertex (take 3 f.corners) is.vertices;
      three = omega (arith, is.four, length-take 3 f.corners);
    })

    quad : (slice_index f.corners 3 ≡ no_vertex → ⊥) → IsTriangle f ⊎ IsQuad f
    quad ne = inr (record {
      sight = cond-false (slice_index f.corners 3 == no_vertex) _ _ (ne_eqb (slice_index f.corners 3) no_vertex ne);
      low = subst (AllByRecursion (λ v. v < no_vertex)) (sym ends)
          (all_append (λ v. v < no_vertex) (take 3 f.corners) (slice_index f.corners 3 ∷ []) is.vertices (omega (arith, is.last, ne), tt));
      four = is.four;
    })

-- the set of three vertices
pub triangle-tells : (vertices : List ℕ) → length vertices ≡ 3 → AllByRecursion (λ v. v < no_vertex) vertices → IsSetOn (sorted (vertices ++ no_vertex ∷ [])) vertices
triangle-tells vertices three low = record { tells = λ f is. ⊎_elim (same f) (other f) (kind-of f is) }
  where
    padded : sorted (vertices ++ no_vertex ∷ []) ≡ sorted vertices ++ no_vertex ∷ []
    padded = sorted-padded no_vertex vertices low

    same : (f : Face) → IsTriangle f → same_list (sorted (vertices ++ no_vertex ∷ [])) (face_set f) ≡ shows (face_point vertices) (face_sight_of f)
    same f t =
        ap₂ same_list padded t.set
        ∙ same_list-padded no_vertex (sorted vertices) (sorted (take 3 f.corners)) (length-sorted vertices ∙ three ∙ sym (length-sorted (take 3 f.corners) ∙ t.three))
        ∙ sym (ap (shows (face_point vertices)) t.sight)

    other : (f : Face) → IsQuad f → same_list (sorted (vertices ++ no_vertex ∷ [])) (face_set f) ≡ shows (face_point vertices) (face_sight_of f)
    other f t =
        ap (λ l. same_list l (face_set f)) padded
        ∙ differ (sorted vertices ++ no_vertex ∷ []) (face_set f) (padded-not no_vertex (sorted vertices) (face_set f) (all_sorted (λ v. v < no_vertex) f.corners t.low))
        ∙ sym (ap (shows (face_point vertices)) t.sight
        ∙ differ (sorted vertices) (sorted f.corners) (λ e. let n = ap length e in absurd (omega (arith, n, length-sorted vertices, length-sorted f.corners, three, t.four))))

-- the set of four vertices
pub quad-tells : (vertices : List ℕ) → length vertices ≡ 4 → AllByRecursion (λ v. v < no_vertex) vertices → IsSetOn (sorted vertices) vertices
quad-tells vertices four low = record { tells = λ f is. ⊎_elim (other f) (same f) (kind-of f is) }
  where
    same : (f : Face) → IsQuad f → same_list (sorted vertices) (face_set f) ≡ shows (face_point vertices) (face_sight_of f)
    same f t = sym (ap (shows (face_point vertices)) t.sight)

    other : (f : Face) → IsTriangle f → same_list (sorted vertices) (face_set f) ≡ shows (face_point vertices) (face_sight_of f)
    other f t =
        ap (same_list (sorted vertices)) t.set
        ∙ differ (sorted vertices) (sorted (take 3 f.corners) ++ no_vertex ∷ [])
        (λ e. padded-not no_vertex (sorted (take 3 f.corners)) (sorted vertices) (all_sorted (λ v. v < no_vertex) vertices low) (sym e))
        ∙ sym (ap (shows (face_point vertices)) t.sight
        ∙ differ (sorted vertices) (sorted (take 3 f.corners)) (λ e. let n = ap length e in absurd (omega (arith, n, length-sorted vertices, length-sorted (take 3 f.corners), four, t.three))))

-- the set of a face tells that face
pub face-tells : (f g : Face) → IsFace f → IsFace g → same_list (face_set f) (face_set g) ≡ shows (point_of (face_sight_of f)) (face_sight_of g)
face-tells f g is is' = ⊎_elim triangle quad (kind-of f is)
  where
    triangle : IsTriangle f → same_list (face_set f) (face_set g) ≡ shows (point_of (face_sight_of f)) (face_sight_of g)
    triangle t =
        ap (λ l. same_list l (face_set g)) (t.set ∙ sym (sorted-padded no_vertex (take 3 f.corners) is.vertices))
        ∙ (triangle-tells (take 3 f.corners) t.three is.vertices).tells g is' ∙ ap (λ s. shows (point_of s) (face_sight_of g)) (sym t.sight)

    quad : IsQuad f → same_list (face_set f) (face_set g) ≡ shows (point_of (face_sight_of f)) (face_sight_of g)
    quad t = (quad-tells f.corners t.four t.low).tells g is' ∙ ap (λ s. shows (point_of s) (face_sight_of g)) (sym t.sight)

-- and so among faces
pub faces-tell : (f : Face) (t : List ℕ) → t ≡ face_set f → IsFace f → (items : List Face) → AllByRecursion IsFace items → AllByRecursion (Tells face_sight_of face_set t (point_of (face_sight_of f))) items
faces-tell f t e is items h =
    all_weaker IsFace (Tells face_sight_of face_set t (point_of (face_sight_of f))) (λ g is'. ap (λ l. same_list l (face_set g)) e ∙ face-tells f g is is') items h

-- ---- lists that no face is on

-- what sorted numbers have, the numbers have
all_inserted-back : (P : ℕ → Type 0) (x : ℕ) (ys : List ℕ) → AllByRecursion P (inserted x ys) → P x × AllByRecursion P ys
all_inserted-back P x [] h = h
all_inserted-back P x (y ∷ ys) h = go (nat_le x y) h (all_inserted-back P x ys)
  where
    go : (b : Bool) → AllByRecursion P (cond b (x ∷ y ∷ ys) (y ∷ inserted x ys)) → (AllByRecursion P (inserted x ys) → P x × AllByRecursion P ys) → P x × AllByRecursion P (y ∷ ys)
    go true q r = q
    go false q r = let rest = r q.1 in (rest.0, (q.0, rest.1))

all_sorted-back : (P : ℕ → Type 0) (xs : List ℕ) → AllByRecursion P (sorted xs) → AllByRecursion P xs
unfolding sorted
all_sorted-back P [] h = tt
all_sorted-back P (x ∷ xs) h = let both = all_inserted-back P x (sorted xs) h in (both.0, all_sorted-back P xs both.1)

-- three or four vertices
pub record IsThreeOrFour (vertices : List ℕ) : Type 0 where
  pub low : AllByRecursion (λ v. v < no_vertex) vertices
  pub least : 3 ≤ length vertices
  pub most : length vertices ≤ 4

-- what a face is on
on-face : (vertices : List ℕ) (f : Face) → IsFace f → shows (face_point vertices) (face_sight_of f) ≡ true → IsThreeOrFour vertices
on-face vertices f is h = ⊎_elim triangle quad (kind-of f is)
  where
    same : (list : List ℕ) → AllByRecursion (λ v. v < no_vertex) list → 3 ≤ length list → length list ≤ 4 → same_list (sorted vertices) (sorted list) ≡ true → IsThreeOrFour vertices
    same list low least most e =
        let equal = same_text (sorted vertices) (sorted list) (sym e) in
        let size : length vertices ≡ length list = sym (length-sorted vertices) ∙ ap length equal ∙ length-sorted list in
        record {
          low = all_sorted-back (λ v. v < no_vertex) vertices (subst (AllByRecursion (λ v. v < no_vertex)) (sym equal) (all_sorted (λ v. v < no_vertex) list low));
          least = omega arith;
          most = omega arith;
        }

    triangle : IsTriangle f → IsThreeOrFour vertices
    triangle t = same (take 3 f.corners) is.vertices (omega (arith, t.three)) (omega (arith, t.three)) (sym (ap (shows (face_point vertices)) t.sight) ∙ h)

    quad : IsQuad f → IsThreeOrFour vertices
    quad t = same f.corners t.low (omega (arith, t.four)) (omega (arith, t.four)) (sym (ap (shows (face_point vertices)) t.sight) ∙ h)

-- numbers of 32 bits none of which is the one that is no vertex
pub all-low : (vertices : List ℕ) → ((i : ℕ) → get_or vertices i 0 < 4294967296) → list_any (λ v. v == no_vertex) vertices ≡ false → AllByRecursion (λ v. v < no_vertex) vertices
all-low [] fits h = tt
all-low (v ∷ vs) fits h =
    let both = or_parts (v == no_vertex) (list_any (λ w. w == no_vertex) vs) h in
    let first : v < 4294967296 = fits 0 in
    let other : v ≢ no_vertex = eqb-false v no_vertex both.0 in
    (omega arith, all-low vs (λ i. fits (suc i)) both.1)

-- one of these is the one that is no vertex
pub not-low : (vertices : List ℕ) → list_any (λ v. v == no_vertex) vertices ≡ true → AllByRecursion (λ v. v < no_vertex) vertices → ⊥
not-low vertices some low =
    both_ways (list_any (λ v. v == no_vertex) vertices)
    (none_passes (λ v. v == no_vertex) vertices (all_weaker (λ v. v < no_vertex) (λ v. (v == no_vertex) ≡ false) (λ v h. ne_eqb v no_vertex (λ e. omega (arith, e, h))) vertices low)) some

-- so no face is on other ones
pub on-none : (vertices : List ℕ) → (IsThreeOrFour vertices → ⊥) → IsOnNoFace vertices
on-none vertices other = record { none = λ f is. go f is (shows (face_point vertices) (face_sight_of f)) refl }
  where
    go : (f : Face) → IsFace f → (b : Bool) → shows (face_point vertices) (face_sight_of f) ≡ b → b ≡ false
    go f is true e = absurd (other (on-face vertices f is e))
    go f is false e = refl

-- nothing is found by no set
pub none-found : (vertices : List ℕ) (items : List Face) (now : List Sight) → IsOnNoFace vertices → AllByRecursion IsFace items → map face_sight_of items ≡ now → position (shows (face_point vertices)) now ≡ None
none-found vertices items now on sound view =
    let fails = all_weaker IsFace (λ f. shows (face_point vertices) (face_sight_of f) ≡ false) on.none items sound in
    let none : list_any (shows (face_point vertices)) now ≡ false =
    ap (list_any (shows (face_point vertices))) (sym view) ∙ any_map (shows (face_point vertices)) face_sight_of items ∙ none_passes (λ f. shows (face_point vertices) (face_sight_of f)) items fails in
    let past : length now ≤ position_or_len (shows (face_point vertices)) now = omega (arith, position-none (shows (face_point vertices)) now none) in
    cond-false (nat_lt (position_or_len (shows (face_point vertices)) now) (length now)) (Some (position_or_len (shows (face_point vertices)) now)) None (le-ltb (position_or_len (shows (face_point vertices)) now) (length now) past)

-- it is found by its set
pub set-found : (t vertices : List ℕ) (keys : List (List ℕ)) (items : List Face) (now : List Sight) → IsSetOn t vertices → AreFaces keys items → map face_sight_of items ≡ now → position (same_list t) keys ≡ position (shows (face_point vertices)) now
set-found t vertices keys items now on are view =
    found-by_set face_sight_of face_set t (face_point vertices) keys items now are.found view (all_weaker IsFace (Tells face_sight_of face_set t (face_point vertices)) on.tells items are.sound)
