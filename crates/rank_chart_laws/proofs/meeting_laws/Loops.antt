-- What loops make, one number after the other, and where rising numbers are found.
use Rattle.std.proofs.Common.{◌≡◌, ℕ, ◌+◌, ◌<◌, ◌≤◌, Bool, true, false, cond, ◌==◌, List, [], ◌∷◌, ◌++◌, map, length, get_or, take, refl, sym, ap, ◌∙◌, ⊎_elim, arith, add-one, append_assoc, suc, zero, ap₂}
use Rattle.std.specs.List.{list_any, position_or_len, filter}
use Rattle.std.specs.declared.vec.Vec.{Vec}
use Rattle.std.specs.declared.alloc.Global.{Global}
use Rattle.std.proofs.lemmas.Bool.{cases_lt, eqb-true, eq-eqb, ne_eqb}
use Rattle.std.proofs.lemmas.List.{map-append, get_or-map, length-map}
use Rattle.std.proofs.lemmas.List.Elements.{filter-append}
use Rattle.std.proofs.lemmas.List.Sums.{position_or_len_is}
use Rattle.std.proofs.Math.Seq.{take-suc, take-length}
use Rattle.plain_lists.specs.Lists.{below}
use Rattle.plain_lists.specs.Vectors.{lists_of}
use Rattle.plain_lists.proofs.Finding.{position-within}
use Rattle.plain_lists.proofs.Below.{length-below, get_or-map-below}
use Rattle.rank_chart_laws.specs.meeting_laws.Sets.{Rising}
use Rattle.rank_chart_laws.specs.meeting_laws.Steps.{chosen}
use Rattle.rank_chart_laws.proofs.meeting_laws.Lists.{first_passes}

-- ---- one number more

below-more : (n : ℕ) → below (n + 1) ≡ below n ++ n ∷ []
below-more n = ap below (add-one n)

-- one thing more
pub pushed_below : {X : Type 0} (f : ℕ → X) (n : ℕ) (xs ys : List X) (x : X) → xs ≡ map f (below n) → x ≡ f n → ys ≡ xs ++ x ∷ [] → ys ≡ map f (below (n + 1))
pushed_below f n xs ys x upto here pushed = pushed ∙ (λ i. upto i ++ here i ∷ []) ∙ sym (ap (map f) (below-more n) ∙ map-append f (below n) (n ∷ []))

-- one list more, where the lists lie in vectors
pub lists_pushed : {X : Type 0} (f : ℕ → List X) (n : ℕ) (vs ws : List (Vec X Global)) (v : Vec X Global) → lists_of vs ≡ map f (below n) → v.items ≡ f n → ws ≡ vs ++ v ∷ [] → lists_of ws ≡ map f (below (n + 1))
lists_pushed f n vs ws v upto here pushed = pushed_below f n (lists_of vs) (lists_of ws) v.items upto here (ap (λ l. lists_of l) pushed ∙ map-append (λ (w : Vec _ Global). w.items) vs (v ∷ []))

-- one chosen thing more, and one that is not chosen
pub chosen_more : {X : Type 0} (test : ℕ → Bool) (f : ℕ → X) (n : ℕ) (xs ys : List X) (x : X) → xs ≡ chosen test f n → test n ≡ true → x ≡ f n → ys ≡ xs ++ x ∷ [] → ys ≡ chosen test f (n + 1)
chosen_more test f n xs ys x upto passes here pushed = pushed ∙ (λ i. upto i ++ here i ∷ []) ∙ sym (step ∙ map-append f (filter test (below n)) (n ∷ []))
  where
    step : map f (filter test (below (n + 1))) ≡ map f (filter test (below n) ++ n ∷ [])
    step = ap (λ l. map f (filter test l)) (below-more n) ∙ ap (map f) (filter-append test (below n) (n ∷ []) ∙ ap (λ b. filter test (below n) ++ cond b (n ∷ []) []) passes)

pub chosen_less : {X : Type 0} (test : ℕ → Bool) (f : ℕ → X) (n : ℕ) (xs : List X) → xs ≡ chosen test f n → test n ≡ false → xs ≡ chosen test f (n + 1)
chosen_less test f n xs upto fails = upto ∙ sym (ap (λ l. map f (filter test l)) (below-more n) ∙ ap (map f) (filter-append test (below n) (n ∷ []) ∙ ap (λ b. filter test (below n) ++ cond b (n ∷ []) []) fails ∙ whole (filter test (below n))))
  where
    whole : (ns : List ℕ) → ns ++ [] ≡ ns
    whole [] = refl
    whole (m ∷ ms) = ap (λ l. m ∷ l) (whole ms)

-- the same for numbers that are chosen themselves
pub kept_more : (test : ℕ → Bool) (n : ℕ) (xs ys : List ℕ) → xs ≡ filter test (below n) → test n ≡ true → ys ≡ xs ++ n ∷ [] → ys ≡ filter test (below (n + 1))
kept_more test n xs ys upto passes pushed = pushed ∙ ap (λ l. l ++ n ∷ []) upto ∙ sym (ap (filter test) (below-more n) ∙ filter-append test (below n) (n ∷ []) ∙ ap (λ b. filter test (below n) ++ cond b (n ∷ []) []) passes)

pub kept_less : (test : ℕ → Bool) (n : ℕ) (xs : List ℕ) → xs ≡ filter test (below n) → test n ≡ false → xs ≡ filter test (below (n + 1))
kept_less test n xs upto fails = upto ∙ sym (ap (filter test) (below-more n) ∙ filter-append test (below n) (n ∷ []) ∙ ap (λ b. filter test (below n) ++ cond b (n ∷ []) []) fails ∙ whole (filter test (below n)))
  where
    whole : (ns : List ℕ) → ns ++ [] ≡ ns
    whole [] = refl
    whole (m ∷ ms) = ap (λ l. m ∷ l) (whole ms)

-- a list in a vector of vectors
pub list_at : {X : Type 0} (vs : List (Vec X Global)) (i : ℕ) (d : Vec X Global) → i < length vs → get_or (lists_of vs) i [] ≡ (get_or vs i d).items
list_at vs i d low = get_or-map (λ (v : Vec _ Global). v.items) vs i d [] low

-- ---- rising numbers

-- a number of rising ones stands at one place alone
pub rising_place : (vs : List ℕ) (v i : ℕ) → Rising vs → i < length vs → get_or vs i 0 ≡ v → position_or_len (λ w. w == v) vs ≡ i
rising_place vs v i rising low here = position_or_len_is (λ w. w == v) vs i 0 (omega arith)
    (λ k lt. ne_eqb (get_or vs k 0) v (λ same. let up = rising k i lt low in absurd (omega arith)))
    (λ l. eq-eqb (get_or vs i 0) v here)

-- a number that stands among some is not missed
pub not_missed : (vs : List ℕ) (v i : ℕ) → list_any (λ w. w == v) vs ≡ true → ((k : ℕ) → k < i → get_or vs k 0 < v) → ((k : ℕ) → i ≤ k → k < length vs → v < get_or vs k 0) → ⊥
not_missed vs v i there low high =
    let at = position-within (λ w. w == v) vs there in
    let same = eqb-true (get_or vs (position_or_len (λ w. w == v) vs) 0) v (first_passes (λ w. w == v) vs 0 there) in
    ⊎_elim (λ (b : position_or_len (λ w. w == v) vs < i). let up = low (position_or_len (λ w. w == v) vs) b in omega arith) (λ (b : i ≤ position_or_len (λ w. w == v) vs). let up = high (position_or_len (λ w. w == v) vs) b at in omega arith) (cases_lt (position_or_len (λ w. w == v) vs) i)

-- rising numbers do not fall
pub rising_le : (vs : List ℕ) → Rising vs → (i j : ℕ) → i ≤ j → j < length vs → get_or vs i 0 ≤ get_or vs j 0
rising_le vs rising i j h low = ⊎_elim (λ (b : i < j). let up = rising i j b low in omega arith) (λ (b : j ≤ i). let same : i ≡ j = omega arith in let e : get_or vs i 0 ≡ get_or vs j 0 = ap (λ k. get_or vs k 0) same in omega arith) (cases_lt i j)

-- ---- behind what was there

pub behind_more : {X : Type 0} (old : List X) (test : ℕ → Bool) (f : ℕ → X) (n : ℕ) (xs ys : List X) (x : X) → xs ≡ old ++ chosen test f n → test n ≡ true → x ≡ f n → ys ≡ xs ++ x ∷ [] → ys ≡ old ++ chosen test f (n + 1)
behind_more old test f n xs ys x upto passes here pushed =
    pushed ∙ ap (λ l. l ++ x ∷ []) upto ∙ append_assoc old (chosen test f n) (x ∷ []) ∙ ap (λ l. old ++ l) (chosen_more test f n (chosen test f n) (chosen test f n ++ x ∷ []) x refl passes here refl)

pub behind_less : {X : Type 0} (old : List X) (test : ℕ → Bool) (f : ℕ → X) (n : ℕ) (xs : List X) → xs ≡ old ++ chosen test f n → test n ≡ false → xs ≡ old ++ chosen test f (n + 1)
behind_less old test f n xs upto fails = upto ∙ ap (λ l. old ++ l) (chosen_less test f n (chosen test f n) refl fails)

-- what is made from one thing more of a list
pub mapped_more : {X Y : Type 0} (f : X → Y) (xs : List X) (i : ℕ) (d : X) (made now : List Y) (y : Y) → made ≡ map f (take i xs) → i < length xs → y ≡ f (get_or xs i d) → now ≡ made ++ y ∷ [] → now ≡ map f (take (i + 1) xs)
mapped_more f xs i d made now y upto low here pushed = pushed ∙ (λ k. upto k ++ here k ∷ []) ∙ sym (ap (λ n. map f (take n xs)) (add-one i) ∙ ap (map f) (take-suc xs i d low) ∙ map-append f (take i xs) (get_or xs i d ∷ []))

-- and from all of it
pub mapped_all : {X Y : Type 0} (f : X → Y) (xs : List X) (i : ℕ) (made : List Y) → made ≡ map f (take i xs) → i ≡ length xs → made ≡ map f xs
mapped_all f xs i made upto end = upto ∙ ap (λ n. map f (take n xs)) end ∙ ap (map f) (take-length xs)

-- all numbers below a bound
pub made_below : {X : Type 0} (f : ℕ → X) (n m : ℕ) (made : List X) → made ≡ map f (below n) → n ≡ m → made ≡ map f (below m)
made_below f n m made upto end = upto ∙ ap (λ k. map f (below k)) end

-- what stands at a place does not depend on the default
pub same_within : {X : Type 0} (xs : List X) (i : ℕ) (d e : X) → i < length xs → get_or xs i d ≡ get_or xs i e
same_within [] i d e h = absurd (omega arith)
same_within (x ∷ xs) zero d e h = refl
same_within (x ∷ xs) (suc i) d e h = same_within xs i d e (omega arith)

-- ---- vectors of vectors, one for each rank

pub lists_count : {X : Type 0} (vs : List (Vec X Global)) (g : ℕ → List X) (n : ℕ) → lists_of vs ≡ map g (below n) → length vs ≡ n
lists_count vs g n e = sym (length-map vs (λ (v : Vec _ Global). v.items)) ∙ ap length e ∙ length-map (below n) g ∙ length-below n

pub list_is : {X : Type 0} (vs : List (Vec X Global)) (g : ℕ → List X) (n : ℕ) → lists_of vs ≡ map g (below n) → (r : ℕ) (d : Vec X Global) → r < n → (get_or vs r d).items ≡ g r
list_is vs g n e r d low = let count = lists_count vs g n e in sym (list_at vs r d (omega arith)) ∙ ap (λ l. get_or l r []) e ∙ get_or-map-below g n r [] low

pub shape_count : {X Y : Type 0} (vs : List (Vec X Global)) (ws : List (Vec Y Global)) → map length (lists_of vs) ≡ map length (lists_of ws) → length vs ≡ length ws
shape_count vs ws e = sym (length-map (lists_of vs) length ∙ length-map vs (λ (v : Vec _ Global). v.items)) ∙ ap length e ∙ (length-map (lists_of ws) length ∙ length-map ws (λ (w : Vec _ Global). w.items))

pub shape_at : {X Y : Type 0} (vs : List (Vec X Global)) (ws : List (Vec Y Global)) → map length (lists_of vs) ≡ map length (lists_of ws) → (r : ℕ) (d : Vec X Global) (e : Vec Y Global) → r < length ws → length (get_or vs r d).items ≡ length (get_or ws r e).items
shape_at vs ws h r d e low =
    let count = shape_count vs ws h in
    let a = length-map vs (λ (v : Vec _ Global). v.items) in
    let b = length-map ws (λ (w : Vec _ Global). w.items) in
    ap length (sym (list_at vs r d (omega arith))) ∙ sym (get_or-map length (lists_of vs) r [] 0 (omega arith)) ∙ ap (λ l. get_or l r 0) h ∙ get_or-map length (lists_of ws) r [] 0 (omega arith) ∙ ap length (list_at ws r e low)

-- a number among others, both moved
pub moved_there : (v w : ℕ) (l m : List ℕ) → v ≡ w → l ≡ m → list_any (λ u. u == v) l ≡ true → list_any (λ u. u == w) m ≡ true
moved_there v w l m e f h = sym (ap₂ (λ x y. list_any (λ u. u == x) y) e f) ∙ h
