-- What loops over places make, one step more.
use Rattle.std.proofs.Common.{◌≡◌, ℕ, ◌+◌, ◌<◌, ◌≤◌, List, [], ◌∷◌, ◌++◌, map, length, get_or, take, drop, Option, Some, None, Result, Ok, Err, Vec, Global, refl, sym, ap, ◌∙◌, subst, ⊎_elim, arith, add-one}
use Rattle.std.proofs.lemmas.Bool.{cases_lt}
use Rattle.plain_lists.specs.Vectors.{lists_of}
use Rattle.sf_ops.proofs.Words.{length-lists_of, lists_of-push}
use Rattle.std.specs.Prelude.{filter, filter_map, IsPermutation, IfOk, OnErr}
use Rattle.std.specs.List.{AllByRecursion, cons_option}
use Rattle.std.specs.List.Sorted.{IsNonDecreasingBy}
use Rattle.std.proofs.lemmas.List.Sorted.{IsPermutation-map}
use Rattle.std.proofs.lemmas.List.{append-nil, get_or_append_left, get_or-append-add, get_or-map, length-map, map-append, drop_all, take_all}
use Rattle.std.proofs.lemmas.List.Elements.{filter_map-append}
use Rattle.plain_lists.specs.Lists.{below}
use Rattle.plain_lists.proofs.Each.{all_at, all_from, all_map}
use Rattle.plain_lists.proofs.Filters.{filter-mapped, map_map_same}
use Rattle.rank_chart_laws.specs.meeting_laws.Steps.{chosen}
use Rattle.sf_defs.specs.Forest.{Forest}
use Rattle.rank_chart_laws.specs.key_laws.Places.{run, is_word, set_number, words_among, AreInOrder}
use Rattle.rank_chart_laws.proofs.key_laws.Rising.{all-permutation}

-- a run of one more number
pub run-more : (first k : ℕ) → run first (k + 1) ≡ run first k ++ (first + k) ∷ []
run-more first k = ap (run first) (add-one k) ∙ map-append (λ i. first + i) (below k) (k ∷ [])

-- what is given along a run of one more number
pub given-some : {X : Type 0} (f : ℕ → Option X) (first k : ℕ) (made now : List X) (x : X) → made ≡ filter_map f (run first k) → f (first + k) ≡ Some x → now ≡ made ++ x ∷ [] → now ≡ filter_map f (run first (k + 1))
given-some {X} f first k made now x upto some is = is ∙ (ap (λ l. l ++ x ∷ []) upto
    ∙ sym (ap (filter_map f) (run-more first k) ∙ (filter_map-append f (run first k) ((first + k) ∷ []) ∙ ap (λ o. filter_map f (run first k) ++ cons_option o []) some)))

pub given-none : {X : Type 0} (f : ℕ → Option X) (first k : ℕ) (made now : List X) → made ≡ filter_map f (run first k) → f (first + k) ≡ None → now ≡ made → now ≡ filter_map f (run first (k + 1))
given-none {X} f first k made now upto none is = is ∙ (upto
    ∙ sym (ap (filter_map f) (run-more first k) ∙ (filter_map-append f (run first k) ((first + k) ∷ []) ∙ (ap (λ o. filter_map f (run first k) ++ cons_option o []) none ∙ append-nil (filter_map f (run first k))))))

-- words with their numbers, chosen along a run
pub words-chosen : (f : Forest) (r first count : ℕ) (number : ℕ → ℕ) → chosen {X = ℕ × ℕ} (λ k. is_word f r (first + k)) (λ k. (number (first + k), first + k)) count ≡ map (λ i. (number i, i)) (words_among f r first count)
unfolding words_among
words-chosen f r first count number =
    sym (ap (map mark) (sym (filter-mapped (λ k. first + k) (is_word f r) (below count)))
    ∙ map_map_same mark (λ k. first + k) (λ k. mark (first + k)) (filter (λ k. is_word f r (first + k)) (below count)) (all_from (λ k. mark (first + k) ≡ mark (first + k)) (λ k. refl) (filter (λ k. is_word f r (first + k)) (below count))))
  where
    mark : ℕ → ℕ × ℕ
    mark i = (number i, i)

-- marked places in the order of their marks
pub ordered : (sets : List (List ℕ)) (is : List ℕ) (ws : List (ℕ × ℕ)) → IsPermutation (map {B = ℕ × ℕ} (λ i. (set_number (get_or sets i []), i)) is) ws → IsNonDecreasingBy (λ (w : ℕ × ℕ). w.0) ws → AreInOrder sets is (map (λ (w : ℕ × ℕ). w.1) ws)
ordered sets is ws same up = record {
  same = subst (λ l. IsPermutation l (map (λ (w : ℕ × ℕ). w.1) ws)) (seconds is) (IsPermutation-map (λ (w : ℕ × ℕ). w.1) (map mark is) ws same);
  rising = λ i j d le low.
      let long = length-map ws (λ (w : ℕ × ℕ). w.1) in
      let first = at d i (omega (arith, le, low, long)) in
      let second = at d j (omega (arith, low, long)) in
      let rises = up i j (0, d) le (omega (arith, low, long)) in
      omega (arith, first, second, rises);
}
  where
    number : ℕ → ℕ
    number i = set_number (get_or sets i [])

    mark : ℕ → ℕ × ℕ
    mark i = (number i, i)

    seconds : (ks : List ℕ) → map (λ (w : ℕ × ℕ). w.1) (map mark ks) ≡ ks
    seconds [] = refl
    seconds (k ∷ ks) = λ t. k ∷ seconds ks t

    Marked : ℕ × ℕ → Type 0
    Marked w = w.0 ≡ number w.1

    marks : AllByRecursion Marked ws
    marks = all-permutation Marked (map mark is) ws same (all_map Marked mark is (all_from (λ i. number i ≡ number i) (λ i. refl) is))

    at : (d k : ℕ) → k < length ws → set_number (get_or sets (get_or (map (λ (w : ℕ × ℕ). w.1) ws) k d) []) ≡ (get_or ws k (0, d)).0
    at d k low = ap number (get_or-map (λ (w : ℕ × ℕ). w.1) ws k (0, d) d low) ∙ sym (all_at Marked ws k (0, d) marks low)

-- what each list so far has, and the next one
pub next-list : {X : Type 0} (P : ℕ → List X → Type 0) (vs : List (Vec X Global)) (v : Vec X Global) (ws : List (Vec X Global)) (n : ℕ) → ws ≡ vs ++ v ∷ [] → length vs ≡ n → ((r : ℕ) → r < n → P r (get_or (lists_of vs) r [])) → P n v.items → (r : ℕ) → r < n + 1 → P r (get_or (lists_of ws) r [])
next-list {X} P vs v ws n is count each here r low = subst (λ l. P r (get_or l r [])) (sym (ap (λ us. lists_of us) is ∙ lists_of-push vs v)) (⊎_elim
    (λ (lt : r < n). subst (P r) (sym (get_or_append_left (lists_of vs) (v.items ∷ []) [] r (omega (arith, lt, count, length-lists_of vs)))) (each r lt))
    (λ (ge : n ≤ r). let same : r ≡ length (lists_of vs) + 0 = omega (arith, ge, low, count, length-lists_of vs) in
    let at : r ≡ n = omega (arith, ge, low) in
    subst (P r) (sym (ap (λ k. get_or (lists_of vs ++ v.items ∷ []) k []) same ∙ get_or-append-add (lists_of vs) (v.items ∷ []) 0 [])) (subst (λ k. P k v.items) (sym at) here))
    (cases_lt r n))

-- what was lent and written back is what was written
pub written-back : {X : Type 0} (now old : List X) (n : ℕ) → length now ≡ length old → length old ≡ n → take n (now ++ drop (length now) old) ≡ now
written-back now old n same size = ap (λ k. take n (now ++ drop k old)) same ∙ (ap (λ rest. take n (now ++ rest)) (drop_all (length old) old (omega arith)) ∙ (ap (take n) (append-nil now) ∙ take_all n now (omega (arith, same, size))))

-- what is said of failures alone
pub on-err : {X Y : Type 0} (r : Result X Y) (P : Type 0) → P → OnErr r P
on-err (Ok x) P p = tt
on-err (Err y) P p = p

-- what is said of successes alone
pub if-ok : {X Y : Type 0} (P Q : X → Type 0) (r : Result X Y) → ((x : X) → P x → Q x) → IfOk r P → IfOk r Q
if-ok P Q (Ok x) h p = h x p
if-ok P Q (Err y) h p = tt
