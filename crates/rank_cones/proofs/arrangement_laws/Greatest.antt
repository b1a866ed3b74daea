-- What a reduction by Max leaves at a root, where its own word and those of its leaves are no more than a bound and one of them is
-- the bound.
use Rattle.std.proofs.Common.{◌≡◌, ◌⊎◌, ℕ, zero, suc, ◌+◌, ◌<◌, ◌≤◌, Bool, true, ◌&&◌, ◌==◌, List, [], ◌∷◌, ◌++◌, map, length, get_or, take, Option, Some, None, refl, sym, ap, ◌∙◌, subst, ⊎_elim, arith}
use Rattle.std.specs.Prelude.{find, option_map}
use Rattle.std.specs.List.{list_any, AllByRecursion, enumerate_from}
use Rattle.std.proofs.lemmas.Bool.{and_from, eq-eqb, eqb-true, or_left, or_right, or_cases}
use Rattle.std.proofs.lemmas.List.{get_or_append_left, get_or-append-add}
use Rattle.std.proofs.lemmas.List.Sums.{sum_by-cons}
use Rattle.plain_lists.proofs.Each.{all_both, all_filter, all_flat_map, all_map}
use Rattle.plain_lists.proofs.Filters.{filter_passing}
use Rattle.plain_lists.proofs.Finding.{any_filter, any_map, find-has, find-passes, stands}
use Rattle.rank_chart_laws.proofs.meeting_laws.Lists.{any_flat}
use Rattle.sf_defs.specs.declared.Op.TheVariants.{Max}
use Rattle.sf_defs.specs.declared.Ask.{Ask}
use Rattle.sf_defs.specs.declared.Leaf.{Leaf}
use Rattle.sf_defs.specs.Asks.{step, word_after}
use Rattle.sf_defs.specs.Rounds.{all_asks, asks_on}
use Rattle.sf_defs.specs.Forest.{Forest, leaves_on, root_at, root_of}
use Rattle.sf_ops.specs.Asked.{first_word, word_of, ask_of, own_asks, asks_of, words_of}

-- what each entry has at its number, the numbered entries have
pub each-numbered : {X : Type 0} (P : ℕ → X → Type 0) (n : ℕ) (xs : List X) (d : X) → ((k : ℕ) → k < length xs → P (n + k) (get_or xs k d)) → AllByRecursion (λ (x : ℕ × X). P x.0 x.1) (enumerate_from n xs)
each-numbered P n [] d h = tt
each-numbered P n (x ∷ xs) d h = (
  subst (λ k. P k x) (let z : n + 0 ≡ n = omega arith in z) (h 0 (omega arith)),
  each-numbered P (n + 1) xs d (λ k low. subst (λ j. P j (get_or xs k d)) (let z : n + suc k ≡ n + 1 + k = omega arith in z) (h (suc k) (omega (arith, low)))),
)

-- what passes at its number passes among the numbered entries
any-numbered : {X : Type 0} (p : ℕ → X → Bool) (n k : ℕ) (xs : List X) (d : X) → k < length xs → p (n + k) (get_or xs k d) ≡ true → list_any (λ (x : ℕ × X). p x.0 x.1) (enumerate_from n xs) ≡ true
any-numbered p n k [] d low h = absurd (omega (arith, low))
any-numbered p n zero (x ∷ xs) d low h = or_left (p n x) _ (subst (λ i. p i x ≡ true) (let z : n + 0 ≡ n = omega arith in z) h)
any-numbered p n (suc k) (x ∷ xs) d low h = or_right (p n x) _ (any-numbered p (n + 1) k xs d (omega (arith, low)) (subst (λ i. p i (get_or xs k d) ≡ true) (let z : n + suc k ≡ n + 1 + k = omega arith in z) h))

-- ---- words of roots

-- the word of a root is the one at its place
pub word-there : (values : List (List ℕ)) (rank index : ℕ) → index < length (get_or values rank []) → get_or (words_of values) (first_word (map length values) rank + index) 0 ≡ get_or (get_or values rank []) index 0
word-there [] rank index h = absurd (omega (arith, h))
word-there (own ∷ values) zero index h = let here : first_word (length own ∷ map length values) zero + index ≡ index = omega arith in ap (λ k. get_or (own ++ words_of values) k 0) here ∙ get_or_append_left own (words_of values) 0 index h
word-there (own ∷ values) (suc rank) index h =
    let first : first_word (length own ∷ map length values) (suc rank) ≡ length own + first_word (map length values) rank = sum_by-cons (λ (x : ℕ). x) (length own) (take rank (map length values)) in
    let there : first_word (length own ∷ map length values) (suc rank) + index ≡ length own + (first_word (map length values) rank + index) = omega (arith, first) in
    ap (λ k. get_or (own ++ words_of values) k 0) there ∙ (get_or-append-add own (words_of values) (first_word (map length values) rank + index) 0 ∙ word-there values rank index h)

-- ---- asks of Max on one word

step-below : (v x y : ℕ) → x ≤ v → y ≤ v → step Max y x ≤ v
unfolding step
step-below v x y p q = omega (arith, p, q)

step-keeps : (x y : ℕ) → x ≤ step Max y x
unfolding step
step-keeps x y = omega arith

step-takes : (x y : ℕ) → y ≤ step Max y x
unfolding step
step-takes x y = omega arith

-- the word stays below a bound of all of them
max-below : (v word : ℕ) (asks : List Ask) → AllByRecursion (λ (a : Ask). (a.op ≡ Max) × (a.value ≤ v)) asks → word ≤ v → word_after word asks ≤ v
max-below v word [] h low = low
max-below v word (a ∷ asks) h low = max-below v (step a.op a.value word) asks h.1 (subst (λ o. step o a.value word ≤ v) (sym h.0.0) (step-below v word a.value low h.0.1))

-- it does not fall
max-keeps : (word : ℕ) (asks : List Ask) → AllByRecursion (λ (a : Ask). a.op ≡ Max) asks → word ≤ word_after word asks
max-keeps word [] h = omega arith
max-keeps word (a ∷ asks) h =
    let next : word ≤ step a.op a.value word = subst (λ o. word ≤ step o a.value word) (sym h.0) (step-keeps word a.value) in
    let rest = max-keeps (step a.op a.value word) asks h.1 in
    omega (arith, next, rest)

-- and is no less than what some ask has
max-takes : (v word : ℕ) (asks : List Ask) → AllByRecursion (λ (a : Ask). a.op ≡ Max) asks → list_any (λ (a : Ask). a.value == v) asks ≡ true → v ≤ word_after word asks
max-takes v word [] h some = absurd (cc some)
max-takes v word (a ∷ asks) h some = ⊎_elim
    (λ e.
    let next : a.value ≤ step a.op a.value word = subst (λ o. a.value ≤ step o a.value word) (sym h.0) (step-takes word a.value) in
    let rest = max-keeps (step a.op a.value word) asks h.1 in
    let same = eqb-true a.value v e in
    omega (arith, next, rest, same))
    (λ s. max-takes v (step a.op a.value word) asks h.1 s)
    (or_cases (a.value == v) (list_any (λ (b : Ask). b.value == v) asks) some)

-- ---- the asks of the leaves of a forest

module _ (f : Forest) (words : List (List ℕ)) where
  abbrev value : ℕ → ℕ → ℕ
  value r local = get_or (get_or words r []) local 0

  -- what the ask of each leaf has, all asks have
  all-asked : (P : Ask → Type 0) → ((r : ℕ) → r < length f.leaves → AllByRecursion (λ l. P (ask_of f.roots Max (get_or words r []) l)) (leaves_on f r)) → AllByRecursion P (all_asks (asks_of f Max words))
  unfolding asks_of
  all-asked P each = all_flat_map P (λ own. own) (asks_of f Max words)
      (all_map (λ own. AllByRecursion P own) (λ (x : ℕ × List Leaf). own_asks f.roots Max (get_or words x.0 []) x.1) (enumerate_from 0 f.leaves)
      (each-numbered (λ r ls. AllByRecursion P (own_asks f.roots Max (get_or words r []) ls)) 0 f.leaves []
      (λ r low. subst (λ q. AllByRecursion P (own_asks f.roots Max (get_or words q []) (leaves_on f r))) (let z : r ≡ 0 + r = omega arith in z) (all_map P (ask_of f.roots Max (get_or words r [])) (leaves_on f r) (each r low)))))

  -- all of them ask Max
  pub all-max : AllByRecursion (λ (a : Ask). a.op ≡ Max) (all_asks (asks_of f Max words))
  all-max = all-asked (λ (a : Ask). a.op ≡ Max) (λ r low. all-from_leaves (leaves_on f r))
    where
      all-from_leaves : (ls : List Leaf) → AllByRecursion (λ (l : Leaf). Max ≡ Max) ls
      all-from_leaves [] = tt
      all-from_leaves (l ∷ ls) = (refl, all-from_leaves ls)

  -- a leaf on a root asks on the root's word
  asked-there : (r local o j : ℕ) → r < length f.leaves → root_of f r local ≡ Some (o, j) → list_any (λ (a : Ask). a.value == value r local) (asks_on (first_word f.roots o + j) (asks_of f Max words)) ≡ true
  unfolding root_of asks_of
  asked-there r local o j low e = go (find (λ (l : Leaf). l.local == local) (leaves_on f r)) refl e
    where
      w : ℕ
      w = first_word f.roots o + j

      asks : List Leaf → ℕ → List Ask
      asks ls q = own_asks f.roots Max (get_or words q []) ls

      here : Ask → Bool
      here a = (a.word == w) && (a.value == value r local)

      go : (found : Option Leaf) → find (λ (l : Leaf). l.local == local) (leaves_on f r) ≡ found → option_map root_at (find (λ (l : Leaf). l.local == local) (leaves_on f r)) ≡ Some (o, j) → list_any (λ (a : Ask). a.value == value r local) (asks_on w (asks_of f Max words)) ≡ true
      go None g h = absurd (cc (sym (ap (option_map root_at) g) ∙ h))
      go (Some l) g h =
          let root : root_at l ≡ (o, j) = cc (sym (ap (option_map root_at) g) ∙ h) in
          let at : l.local ≡ local = eqb-true l.local local (find-passes (λ (x : Leaf). x.local == local) (leaves_on f r) l g) in
          let word : word_of f.roots l ≡ w = λ i. first_word f.roots (root i).0 + (root i).1 in
          let own : list_any here (asks (leaves_on f r) (0 + r)) ≡ true = subst (λ q. list_any here (asks (leaves_on f r) q) ≡ true) (let z : r ≡ 0 + r = omega arith in z)
          (any_map here (ask_of f.roots Max (get_or words r [])) (leaves_on f r)
          ∙ find-has (λ x. (p : Leaf → Bool) → p x ≡ true → list_any p (leaves_on f r) ≡ true) (λ (x : Leaf). x.local == local) (leaves_on f r) l (stands (leaves_on f r)) g (λ x. here (ask_of f.roots Max (get_or words r []) x))
          (and_from (word_of f.roots l == w) (value r l.local == value r local) (eq-eqb (word_of f.roots l) w word) (eq-eqb (value r l.local) (value r local) (ap (value r) at)))) in
          any_filter (λ (a : Ask). a.value == value r local) (λ (a : Ask). a.word == w) (all_asks (asks_of f Max words))
          ∙ (sym (any_flat here (λ asked. asked) (asks_of f Max words))
          ∙ (any_map (list_any here) (λ (x : ℕ × List Leaf). asks x.1 x.0) (enumerate_from 0 f.leaves)
          ∙ any-numbered (λ q ls. list_any here (asks ls q)) 0 r f.leaves [] low own))

  -- the word of a root after all asks, where no ask is more than the bound of its word and this is the bound
  pub greatest-word : (bounds : ℕ → ℕ) (o j first : ℕ)
      → ((r : ℕ) → r < length f.leaves → AllByRecursion (λ (l : Leaf). value r l.local ≤ bounds (word_of f.roots l)) (leaves_on f r))
      → first ≤ bounds (first_word f.roots o + j)
      → (first ≡ bounds (first_word f.roots o + j)) ⊎ ((r : ℕ) × (local : ℕ) × (r < length f.leaves) × (root_of f r local ≡ Some (o, j)) × (value r local ≡ bounds (first_word f.roots o + j)))
      → word_after first (asks_on (first_word f.roots o + j) (asks_of f Max words)) ≡ bounds (first_word f.roots o + j)
  greatest-word bounds o j first each low some =
      let up = max-below v first mine both low in
      let down : v ≤ word_after first mine = ⊎_elim
      (λ (e : first ≡ v). let keeps = max-keeps first mine maxes in omega (arith, e, keeps))
      (λ (t : (r : ℕ) × (local : ℕ) × (r < length f.leaves) × (root_of f r local ≡ Some (o, j)) × (value r local ≡ v)). let (r, local, inside, root, e) = t in max-takes v first mine maxes (subst (λ k. list_any (λ (a : Ask). a.value == k) mine ≡ true) e (asked-there r local o j inside root)))
      some in
      omega (arith, up, down)
    where
      w : ℕ
      w = first_word f.roots o + j

      v : ℕ
      v = bounds w

      all : List Ask
      all = all_asks (asks_of f Max words)

      mine : List Ask
      mine = asks_on w (asks_of f Max words)

      maxes : AllByRecursion (λ (a : Ask). a.op ≡ Max) mine
      maxes = all_filter (λ (a : Ask). a.op ≡ Max) (λ (a : Ask). a.word == w) all all-max

      bounded : AllByRecursion (λ (a : Ask). a.value ≤ bounds a.word) mine
      bounded = all_filter (λ (a : Ask). a.value ≤ bounds a.word) (λ (a : Ask). a.word == w) all (all-asked (λ (a : Ask). a.value ≤ bounds a.word) each)

      below : AllByRecursion (λ (a : Ask). a.value ≤ v) mine
      below = all_both (λ (a : Ask). a.value ≤ bounds a.word) (λ (a : Ask). (a.word == w) ≡ true) (λ (a : Ask). a.value ≤ v) (λ a l e. subst (λ k. a.value ≤ bounds k) (eqb-true a.word w e) l) mine bounded (filter_passing (λ (a : Ask). a.word == w) all)

      both : AllByRecursion (λ (a : Ask). (a.op ≡ Max) × (a.value ≤ v)) mine
      both = all_both (λ (a : Ask). a.op ≡ Max) (λ (a : Ask). a.value ≤ v) (λ (a : Ask). (a.op ≡ Max) × (a.value ≤ v)) (λ a e l. (e, l)) mine maxes below
