-- Lists that are numbered through, and lists made for the numbers below n.
use Rattle.std.proofs.Common.{◌≡◌, ℕ, zero, suc, ◌+◌, ◌≤◌, List, [], ◌∷◌, ◌++◌, map, length, get_or, Option, Some, None, refl, sym, ap, ap₂, ◌∙◌, arith, append-nil}
use Rattle.std.specs.Prelude.{flat_map, filter_map, option_map}
use Rattle.std.specs.List.{AllByRecursion, enumerate_from, cons_option}
use Rattle.std.proofs.lemmas.List.{map-append, length-append, length-map}
use Rattle.std.proofs.lemmas.List.Concat.{flat_map-append}
use Rattle.plain_lists.specs.Lists.{below}
use Rattle.plain_lists.proofs.Below.{length-below, get_or-map-below}
use Rattle.sf_ops.specs.Asked.{first_word}
use Rattle.sf_ops.proofs.Words.{first_word-more}

-- two lists numbered through
pub enumerate-append : {X : Type 0} (n : ℕ) (xs ys : List X) → enumerate_from n (xs ++ ys) ≡ enumerate_from n xs ++ enumerate_from (n + length xs) ys
enumerate-append n [] ys = ap (λ k. enumerate_from k ys) (let z : n ≡ n + 0 = omega arith in z)
enumerate-append n (x ∷ xs) ys = ap (λ l. (n, x) ∷ l) (enumerate-append (n + 1) xs ys ∙ ap (λ k. enumerate_from (n + 1) xs ++ enumerate_from k ys) (let z : n + 1 + length xs ≡ n + suc (length xs) = omega arith in z))

-- numbers from n on are those from 0, and n more
pub enumerate-from_zero : {X : Type 0} (n k : ℕ) (xs : List X) → enumerate_from (n + k) xs ≡ map (λ (w : ℕ × X). (n + w.0, w.1)) (enumerate_from k xs)
enumerate-from_zero n k [] = refl
enumerate-from_zero n k (x ∷ xs) = ap (λ l. (n + k, x) ∷ l) (ap (λ j. enumerate_from j xs) (let z : n + k + 1 ≡ n + (k + 1) = omega arith in z) ∙ enumerate-from_zero n (k + 1) xs)

-- what is made for the numbers below n, numbered
pub enumerate-below : {X : Type 0} (f : ℕ → X) (n : ℕ) → enumerate_from 0 (map f (below n)) ≡ map (λ r. (r, f r)) (below n)
enumerate-below f zero = refl
enumerate-below f (suc n) =
    ap (enumerate_from 0) (map-append f (below n) (n ∷ []))
    ∙ (enumerate-append 0 (map f (below n)) (f n ∷ [])
    ∙ (ap₂ (λ l k. l ++ (k, f n) ∷ []) (enumerate-below f n) (let long = length-map (below n) f in let size = length-below n in let z : 0 + length (map f (below n)) ≡ n = omega (arith, long, size) in z)
    ∙ sym (map-append (λ r. (r, f r)) (below n) (n ∷ []))))

-- images of what is given
pub map-given : {X Y Z : Type 0} (g : Y → Z) (f : X → Option Y) (xs : List X) → map g (filter_map f xs) ≡ filter_map (λ x. option_map g (f x)) xs
map-given g f [] = refl
map-given {X} {Y} {Z} g f (x ∷ xs) = go (f x) (map-given g f xs)
  where
    go : (o : Option Y) → map g (filter_map f xs) ≡ filter_map (λ y. option_map g (f y)) xs → map g (cons_option o (filter_map f xs)) ≡ cons_option (option_map g o) (filter_map (λ y. option_map g (f y)) xs)
    go None r = r
    go (Some y) r = λ i. g y ∷ r i

-- what is given to images
pub given-map : {X Y Z : Type 0} (f : Y → Option Z) (g : X → Y) (xs : List X) → filter_map f (map g xs) ≡ filter_map (λ x. f (g x)) xs
given-map f g [] = refl
given-map f g (x ∷ xs) = ap (cons_option (f (g x))) (given-map f g xs)

pub given-same : {X Y : Type 0} (f g : X → Option Y) (xs : List X) → AllByRecursion (λ x. f x ≡ g x) xs → filter_map f xs ≡ filter_map g xs
given-same f g [] h = refl
given-same f g (x ∷ xs) h = λ i. cons_option (h.0 i) (given-same f g xs h.1 i)

-- images of joined lists
pub map-joined : {X Y Z : Type 0} (g : Y → Z) (f : X → List Y) (xs : List X) → map g (flat_map f xs) ≡ flat_map (λ x. map g (f x)) xs
map-joined g f [] = refl
map-joined g f (x ∷ xs) = map-append g (f x) (flat_map f xs) ∙ ap (λ l. map g (f x) ++ l) (map-joined g f xs)

pub joined-images : {X Y : Type 0} (f : X → List Y) (xs : List X) → flat_map (λ l. l) (map f xs) ≡ flat_map f xs
joined-images f [] = refl
joined-images f (x ∷ xs) = ap (λ l. f x ++ l) (joined-images f xs)

-- ---- lists joined and numbered through

module _ {X : Type 0} (f : ℕ → List X) (n : ℕ) where
  abbrev pub counts : List ℕ
  counts = map (λ r. length (f r)) (below n)

  -- the first word of a rank stands behind those of the ranks before it
  joined-length : (k : ℕ) → k ≤ n → length (flat_map f (below k)) ≡ first_word counts k
  joined-length zero low = refl
  joined-length (suc k) low =
      let r = joined-length k (omega (arith, low)) in
      let joined = ap length (flat_map-append f (below k) (k ∷ [])) ∙ length-append (flat_map f (below k)) (f k ++ []) in
      let last = ap length (append-nil (f k)) in
      let sized = length-map (below n) (λ j. length (f j)) ∙ length-below n in
      let more = first_word-more counts k (omega (arith, sized, low)) in
      let at : get_or counts k 0 ≡ length (f k) = get_or-map-below (λ j. length (f j)) n k 0 (omega (arith, low)) in
      let next : first_word counts (k + 1) ≡ first_word counts (suc k) = ap (first_word counts) (let z : k + 1 ≡ suc k = omega arith in z) in
      omega (arith, r, joined, last, more, at, next)

  -- numbered through, each entry has the number of its rank's first word and its own place behind it
  joined-numbered : (k : ℕ) → k ≤ n → enumerate_from 0 (flat_map f (below k)) ≡ flat_map (λ r. map (λ (w : ℕ × X). (first_word counts r + w.0, w.1)) (enumerate_from 0 (f r))) (below k)
  joined-numbered zero low = refl
  joined-numbered (suc k) low =
      let numbered : ℕ → List (ℕ × X) = λ r. map (λ (w : ℕ × X). (first_word counts r + w.0, w.1)) (enumerate_from 0 (f r)) in
      ap (enumerate_from 0) (flat_map-append f (below k) (k ∷ []) ∙ ap (λ l. flat_map f (below k) ++ l) (append-nil (f k)))
      ∙ (enumerate-append 0 (flat_map f (below k)) (f k)
      ∙ (ap₂ (λ l j. l ++ enumerate_from j (f k)) (joined-numbered k (omega (arith, low))) (let size = joined-length k (omega (arith, low)) in let z : 0 + length (flat_map f (below k)) ≡ first_word counts k + 0 = omega (arith, size) in z)
      ∙ (ap (λ l. flat_map numbered (below k) ++ l) (enumerate-from_zero (first_word counts k) 0 (f k) ∙ sym (append-nil (numbered k)))
      ∙ sym (flat_map-append numbered (below k) (k ∷ [])))))

  -- all of them
  pub numbered-whole : enumerate_from 0 (flat_map f (below n)) ≡ flat_map (λ r. map (λ (w : ℕ × X). (first_word counts r + w.0, w.1)) (enumerate_from 0 (f r))) (below n)
  numbered-whole = joined-numbered n (omega arith)
