-- What stands at each rank.
use Rattle.std.proofs.Common.{◌≡◌, ℕ, suc, ◌+◌, ◌<◌, List, [], ◌∷◌, ◌++◌, map, length, get_or, take, sym, ap, ◌∙◌, arith, zero-add, add-one}
use Rattle.std.specs.Prelude.{slice_index}
use Rattle.std.specs.List.{enumerate_from, AllByRecursion}
use Rattle.std.proofs.lemmas.List.{length-map, get_or-map}
use Rattle.std.proofs.lemmas.List.FromFn.{length-enumerate_from, get_or-enumerate_from}
use Rattle.std.proofs.Math.Seq.{take-suc}
use Rattle.std.specs.declared.vec.Vec.{Vec}
use Rattle.std.specs.declared.alloc.Global.{Global}
use Rattle.plain_lists.specs.Vectors.{lists_of}
use Rattle.sf_ops.proofs.Words.{lists_of-push}
use Rattle.rank_defs.specs.Spread.{LocalMesh, PlainDist}
use Rattle.dist_number.specs.Asked.{own_count, own_counts, sum_of, sums_of}
use Rattle.dist_number.specs.Places.{own_numbers, numbers_at_owners}

-- what is made of each element with its place
numbered-at : {X Y : Type 0} (f : ℕ × X → Y) (xs : List X) (k : ℕ) (x : X) (y : Y) → k < length xs → get_or xs k x ≡ x → get_or (map f (enumerate_from 0 xs)) k y ≡ f (k, x)
numbered-at f xs k x y low is =
    get_or-map f (enumerate_from 0 xs) k (k, x) y (omega (arith, low, length-enumerate_from 0 xs))
    ∙ (ap f (get_or-enumerate_from 0 xs k (k, x) low) ∙ (λ i. f (zero-add k i, is i)))

length-numbered : {X Y : Type 0} (f : ℕ × X → Y) (xs : List X) → length (map f (enumerate_from 0 xs)) ≡ length xs
length-numbered f xs = length-map (enumerate_from 0 xs) f ∙ length-enumerate_from 0 xs

-- how many points each rank owns
pub length-own_counts : (d : PlainDist) → length (own_counts d) ≡ length d.locals
unfolding own_counts
length-own_counts d = length-numbered (λ (r : ℕ × LocalMesh). own_count r.0 r.1) d.locals

pub own_counts-at : (d : PlainDist) (rank : ℕ) (l : LocalMesh) → rank < length d.locals → get_or d.locals rank l ≡ l → get_or (own_counts d) rank 0 ≡ own_count rank l
unfolding own_counts
own_counts-at d rank l low is = numbered-at (λ (r : ℕ × LocalMesh). own_count r.0 r.1) d.locals rank l 0 low is

-- one Sum of each rank
pub length-sums_of : (values : List ℕ) → length (sums_of values) ≡ length values
unfolding sums_of
length-sums_of values = length-map values (λ value. sum_of value ∷ [])

pub sums_of-at : (values : List ℕ) (rank : ℕ) → rank < length values → get_or (sums_of values) rank [] ≡ sum_of (get_or values rank 0) ∷ []
unfolding sums_of
sums_of-at values rank low = get_or-map (λ value. sum_of value ∷ []) values rank 0 [] low

-- the numbers of what each rank owns
pub length-numbers_at_owners : (d : PlainDist) (bases : List ℕ) → length (numbers_at_owners d bases) ≡ length d.locals
unfolding numbers_at_owners
length-numbers_at_owners d bases = length-numbered (λ (r : ℕ × LocalMesh). own_numbers r.0 (slice_index bases r.0) r.1.owners) d.locals

pub numbers_at_owners-at : (d : PlainDist) (bases : List ℕ) (rank : ℕ) (l : LocalMesh) → rank < length d.locals → get_or d.locals rank l ≡ l → get_or (numbers_at_owners d bases) rank [] ≡ own_numbers rank (slice_index bases rank) l.owners
unfolding numbers_at_owners
numbers_at_owners-at d bases rank l low is = numbered-at (λ (r : ℕ × LocalMesh). own_numbers r.0 (slice_index bases r.0) r.1.owners) d.locals rank l [] low is

-- ---- loops over ranks

-- one vector more
pub one-more : {X : Type 0} (vectors : List (Vec X Global)) (v : Vec X Global) (whole : List (List X)) (k : ℕ) → k < length whole → lists_of vectors ≡ take k whole → v.items ≡ get_or whole k [] → lists_of (vectors ++ v ∷ []) ≡ take (k + 1) whole
one-more vectors v whole k low upto here =
    lists_of-push vectors v ∙ (ap (λ (ls : List (List _)). ls ++ v.items ∷ []) upto ∙ (ap (λ (o : List _). take k whole ++ o ∷ []) here
    ∙ (sym (take-suc whole k [] low) ∙ ap (λ (n : ℕ). take n whole) (sym (add-one k)))))

-- what each number has, found by its place
pub all-by_place : (P : ℕ → Type 0) (xs : List ℕ) → ((k : ℕ) → k < length xs → P (get_or xs k 0)) → AllByRecursion P xs
all-by_place P [] h = tt
all-by_place P (x ∷ xs) h = (h 0 (omega arith), all-by_place P xs (λ k low. h (suc k) (omega (arith, low))))
