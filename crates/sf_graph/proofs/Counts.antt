-- What counting leaves for their roots does.
use Rattle.std.proofs.Common.{◌≡◌, ℕ, zero, suc, ◌+◌, ◌<◌, ◌≤◌, Bool, true, false, List, [], ◌∷◌, length, map, get_or, set, take, count_by, replicate, if◌then◌else◌, arith, refl, ap, sym, subst, cond, ◌∙◌, length-take}
use Rattle.std.proofs.lemmas.Grind.{common_steps}
use Rattle.std.proofs.lemmas.Bool.{cond-true, cond-false}
use Rattle.std.proofs.lemmas.Bool.Decides.{nat_tests}
use Rattle.std.proofs.lemmas.List.Sums.{count_by_more_yes, count_by_more_no, count_by-le-length}
use Rattle.std.proofs.Math.Seq.{map-set_same}
use Rattle.sf_defs.specs.declared.Leaf.{Leaf}
use Rattle.sf_defs.specs.Forest.{is_on_root}
use Rattle.sf_graph.specs.Parts.{count_at, HasCount}

-- one more for root (rank, index)
abbrev pub one_more : List (List ℕ) → ℕ → ℕ → List (List ℕ)
one_more counts rank index = set counts rank (set (get_or counts rank []) index (get_or (get_or counts rank []) index 0 + 1))

-- the root that is counted has one more, the others stay
pub count_at-one_more : (counts : List (List ℕ)) (l : Leaf) (rank index : ℕ) → l.rank < length counts → HasCount counts l → count_at (one_more counts l.rank l.index) rank index ≡ count_at counts rank index + (if is_on_root (rank, index) l then 1 else 0)
count_at-one_more counts l rank index in-ranks in-roots = grind (arith, common_steps, nat_tests)

-- each rank has as many numbers as before
pub shape-one_more : (counts : List (List ℕ)) (rank index n : ℕ) → map length (set counts rank (set (get_or counts rank []) index n)) ≡ map length counts
shape-one_more counts rank index n = map-set_same length counts rank (set (get_or counts rank []) index n) [] (grind (arith, common_steps))

-- a rank with numbers is one
pub rank_has_counts : (counts : List (List ℕ)) (rank index : ℕ) → index < length (get_or counts rank []) → rank < length counts
rank_has_counts [] rank index h = absurd (omega arith)
rank_has_counts (c ∷ cs) zero index h = omega arith
rank_has_counts (c ∷ cs) (suc rank) index h = let below = rank_has_counts cs rank index h in omega arith

-- as many numbers as the shape says
pub length_at : (xs : List (List ℕ)) (rank : ℕ) → length (get_or xs rank []) ≡ get_or (map length xs) rank 0
length_at [] rank = refl
length_at (x ∷ xs) zero = refl
length_at (x ∷ xs) (suc rank) = length_at xs rank

-- the numbers of a rank in two lists of one shape
pub same_length : (xs ys : List (List ℕ)) (rank : ℕ) → map length xs ≡ map length ys → length (get_or xs rank []) ≡ length (get_or ys rank [])
same_length xs ys rank e = length_at xs rank ∙ (ap (λ (ns : List ℕ). get_or ns rank 0) e ∙ sym (length_at ys rank))

-- what stands at a place does not depend on the default
pub same_within : {X : Type 0} (xs : List X) (i : ℕ) (d e : X) → i < length xs → get_or xs i d ≡ get_or xs i e
same_within [] i d e h = absurd (omega arith)
same_within (x ∷ xs) zero d e h = refl
same_within (x ∷ xs) (suc i) d e h = same_within xs i d e (omega arith)

-- the leaf's rank is one
pub rank_of_counted : (now old : List (List ℕ)) (l : Leaf) → map length now ≡ map length old → HasCount old l → l.rank < length now
rank_of_counted now old l shape has = rank_has_counts now l.rank l.index (subst (λ (n : ℕ). l.index < n) (sym (same_length now old l.rank shape)) has)

-- the leaf's root has a number
pub counted_place : (now old : List (List ℕ)) (l : Leaf) (d : List ℕ) → map length now ≡ map length old → HasCount old l → l.index < length (get_or now l.rank d)
counted_place now old l d shape has = subst (λ (own : List ℕ). l.index < length own) (same_within now l.rank [] d (rank_of_counted now old l shape has)) (subst (λ (n : ℕ). l.index < n) (sym (same_length now old l.rank shape)) has)

-- one leaf more is counted
pub counted_more : (old now : List (List ℕ)) (leaves : List Leaf) (i : ℕ) (l : Leaf) (d own : List ℕ) → map length now ≡ map length old → ((rank index : ℕ) → count_at now rank index ≡ count_at old rank index + count_by (is_on_root (rank, index)) (take i leaves)) → i < length leaves → get_or leaves i l ≡ l → HasCount old l → own ≡ set (get_or now l.rank d) l.index (get_or (get_or now l.rank d) l.index 0 + 1) → (map length (set now l.rank own) ≡ map length old) × ((rank index : ℕ) → count_at (set now l.rank own) rank index ≡ count_at old rank index + count_by (is_on_root (rank, index)) (take (i + 1) leaves))
counted_more old now leaves i l d own shape counted within here has e = (
  ap (λ (o : List ℕ). map length (set now l.rank o)) own_now ∙ (shape-one_more now l.rank l.index _ ∙ shape),
  λ rank index. ap (λ (o : List ℕ). count_at (set now l.rank o) rank index) own_now ∙ (count_at-one_more now l rank index in-ranks in-roots ∙ by_leaf rank index (is_on_root (rank, index) l) refl),
)
  where
    in-ranks : l.rank < length now
    in-ranks = rank_of_counted now old l shape has

    in-roots : HasCount now l
    in-roots = counted_place now old l [] shape has

    own_now : own ≡ set (get_or now l.rank []) l.index (get_or (get_or now l.rank []) l.index 0 + 1)
    own_now = e ∙ ap (λ (o : List ℕ). set o l.index (get_or o l.index 0 + 1)) (same_within now l.rank d [] in-ranks)

    by_leaf : (rank index : ℕ) (b : Bool) → is_on_root (rank, index) l ≡ b → count_at now rank index + cond (is_on_root (rank, index) l) 1 0 ≡ count_at old rank index + count_by (is_on_root (rank, index)) (take (i + 1) leaves)
    by_leaf rank index true h = let yes = count_by_more_yes (is_on_root (rank, index)) leaves i l within (ap (is_on_root (rank, index)) here ∙ h) in let one = cond-true {A = ℕ} (is_on_root (rank, index) l) 1 0 h in omega (arith, counted rank index, yes, one)
    by_leaf rank index false h = let no = count_by_more_no (is_on_root (rank, index)) leaves i l within (ap (is_on_root (rank, index)) here ∙ h) in let none = cond-false {A = ℕ} (is_on_root (rank, index) l) 1 0 h in omega (arith, counted rank index, no, none)

-- a leaf that is still to be counted fits
pub counted_bound : (old now : List (List ℕ)) (leaves : List Leaf) (i : ℕ) (l : Leaf) (d : List ℕ) → map length now ≡ map length old → ((rank index : ℕ) → count_at now rank index ≡ count_at old rank index + count_by (is_on_root (rank, index)) (take i leaves)) → i < length leaves → HasCount old l → ((rank index : ℕ) → count_at old rank index + length leaves < 4294967296) → get_or (get_or now l.rank d) l.index 0 + 1 < 4294967296
counted_bound old now leaves i l d shape counted within has fits =
    let same : get_or (get_or now l.rank d) l.index 0 ≡ count_at now l.rank l.index = ap (λ (own : List ℕ). get_or own l.index 0) (same_within now l.rank d [] (rank_of_counted now old l shape has)) in
    let few : count_by (is_on_root (l.rank, l.index)) (take i leaves) ≤ length (take i leaves) = count_by-le-length (is_on_root (l.rank, l.index)) (take i leaves) in
    let upto : length (take i leaves) ≤ i = omega (arith, length-take {A = Leaf}) in
    omega (arith, counted l.rank l.index, fits l.rank l.index)

-- no leaf is counted yet: 0 for each root
abbrev pub no_count : ℕ → List ℕ
no_count n = replicate n 0

pub no_counts-shape : (roots : List ℕ) → map length (map no_count roots) ≡ roots
no_counts-shape [] = refl
no_counts-shape (n ∷ ns) = let here : length (no_count n) ≡ n = grind (arith, common_steps) in let rest = no_counts-shape ns in cc

pub no_counts-none : (roots : List ℕ) (rank index : ℕ) → count_at (map no_count roots) rank index ≡ 0
no_counts-none [] rank index = refl
no_counts-none (n ∷ ns) zero index = none n index
  where
    none : (n i : ℕ) → get_or (no_count n) i 0 ≡ 0
    none zero i = refl
    none (suc n) zero = refl
    none (suc n) (suc i) = none n i
no_counts-none (n ∷ ns) (suc rank) index = no_counts-none ns rank index
