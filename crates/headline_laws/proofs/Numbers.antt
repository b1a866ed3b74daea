-- In a legal number round the ranks draw each number below the total once.
use Rattle.std.proofs.Common.{◌≡◌, ℕ, suc, ◌+◌, ◌^◌, ◌<◌, ◌≤◌, cond, ◌&&◌, ◌==◌, nat_le, nat_lt, List, [], ◌∷◌, ◌++◌, map, length, get_or, slice_index, sum_by, count_by, refl, sym, ap, ◌∙◌, arith, mod-eq_of_lt}
use Rattle.std.specs.Prelude.{flat_map, zip, sum}
use Rattle.std.specs.List.{enumerate_from}
use Rattle.std.proofs.lemmas.Bool.Decides.{nat_tests}
use Rattle.std.proofs.lemmas.List.{length-map, map-append}
use Rattle.std.proofs.lemmas.List.Concat.{length-flat_map}
use Rattle.std.proofs.lemmas.List.Folds.{flat_map-map}
use Rattle.std.proofs.lemmas.List.FromFn.{length-enumerate_from}
use Rattle.std.proofs.lemmas.List.Sums.{sum_by-cons, sum_by-append, sum-map}
use Rattle.std.proofs.lemmas.Slice.Zip.{get_or-zip, length-zip}
use Rattle.plain_lists.specs.Lists.{below}
use Rattle.plain_lists.proofs.Below.{length-below, get_or-below, map-below-length}
use Rattle.mesh_defs.specs.Mesh.{Mesh}
use Rattle.mesh_defs.specs.Points.{Sight}
use Rattle.input_defs.specs.text_defs.Text.{Rank}
use Rattle.sf_defs.specs.declared.Op.TheVariants.{Sum}
use Rattle.sf_defs.specs.declared.Ask.{Ask}
use Rattle.sf_defs.specs.Asks.{step, on_word, word_after}
use Rattle.sf_defs.specs.PrintedOrder.{kind_of}
use Rattle.sf_defs.specs.Rounds.{Round, added, asks_on, entries}
use Rattle.rank_defs.specs.Home.{IsNumberRound, number_asks, bases_of}
use Rattle.rank_defs.specs.Ranks.{owned}
use Rattle.round_laws.specs.LastValues.{took}
use Rattle.round_laws.proofs.LastValues.{legal-last}
use Rattle.round_laws.proofs.Sums.{legal-sums}
use Rattle.round_laws.proofs.Entries.{entries_from}
use Rattle.headline_defs.specs.StepText.{ranks_with, numbered}

-- ---- the numbers of one rank

-- 1 where k is one of the n numbers from the base on
abbrev covers : ℕ → ℕ → ℕ → ℕ
covers k base n = cond (nat_le base k && nat_lt k (base + n)) 1 0

covers-none : (k base : ℕ) → 0 ≡ covers k base 0
covers-none k base = grind (arith, nat_tests)

covers-more : (k base n : ℕ) → cond (base == k) 1 0 + covers k (base + 1) n ≡ covers k base (suc n)
covers-more k base n = grind (arith, nat_tests)

-- a list whose elements are numbered has each of its numbers once
count-enumerated : {X : Type 0} (k base : ℕ) (xs : List X) → count_by (λ x. x == k) (map (λ (p : ℕ × X). p.0) (enumerate_from base xs)) ≡ covers k base (length xs)
count-enumerated k base [] = covers-none k base
count-enumerated {X = X} k base (x ∷ xs) =
    sum_by-cons (λ y. cond (y == k) 1 0) base (map (λ (p : ℕ × X). p.0) (enumerate_from (base + 1) xs))
    ∙ ap (λ c. cond (base == k) 1 0 + c) (count-enumerated k (base + 1) xs) ∙ covers-more k base (length xs)

-- ---- the numbers of all ranks

map-flat_map : {X Y Z : Type 0} (f : Y → Z) (g : X → List Y) (xs : List X) → map f (flat_map g xs) ≡ flat_map (λ x. map f (g x)) xs
map-flat_map f g [] = refl
map-flat_map f g (x ∷ xs) = map-append f (g x) (flat_map g xs) ∙ ap (λ l. map f (g x) ++ l) (map-flat_map f g xs)

-- a sum over lists one after another
sum-flat_map : {X Y : Type 0} (f : Y → ℕ) (g : X → List Y) (xs : List X) → sum_by f (flat_map g xs) ≡ sum_by (λ x. sum_by f (g x)) xs
sum-flat_map f g [] = refl
sum-flat_map f g (x ∷ xs) = sum_by-append f (g x) (flat_map g xs) ∙ ap (λ n. sum_by f (g x) + n) (sum-flat_map f g xs) ∙ sym (sum_by-cons (λ x. sum_by f (g x)) x xs)

module _ (m : Mesh) (n : ℕ) (ranks : List ℕ) (layers : ℕ) (bases : List ℕ) where
  -- the numbers of a rank's points
  own_numbers : ℕ → List ℕ
  own_numbers r = map (λ (p : ℕ × Sight). p.0) (enumerate_from (get_or bases r 0) (owned m ranks r))

  printed-are : map (λ (p : ℕ × Sight). p.0) (numbered (ranks_with m n ranks layers bases)) ≡ flat_map own_numbers (below n)
  unfolding ranks_with own_numbers
  printed-are =
      ap (map (λ (p : ℕ × Sight). p.0)) (flat_map-map (λ (r : Rank). enumerate_from r.base r.owned) _ (below n))
      ∙ map-flat_map (λ (p : ℕ × Sight). p.0) (λ r. enumerate_from (get_or bases r 0) (owned m ranks r)) (below n)

  -- there are as many as all ranks own points
  length-printed : length (map (λ (p : ℕ × Sight). p.0) (numbered (ranks_with m n ranks layers bases))) ≡ sum_by (λ r. length (owned m ranks r)) (below n)
  unfolding own_numbers
  length-printed =
      ap length printed-are ∙ length-flat_map own_numbers (below n)
      ∙ (λ i. sum_by (λ r. (length-map (enumerate_from (get_or bases r 0) (owned m ranks r)) (λ (p : ℕ × Sight). p.0) ∙ length-enumerate_from (get_or bases r 0) (owned m ranks r)) i) (below n))

  -- k is among them as often as ranks cover it
  count-printed : (k : ℕ) → count_by (λ x. x == k) (map (λ (p : ℕ × Sight). p.0) (numbered (ranks_with m n ranks layers bases))) ≡ sum_by (λ r. covers k (get_or bases r 0) (length (owned m ranks r))) (below n)
  unfolding own_numbers
  count-printed k =
      ap (count_by (λ x. x == k)) printed-are ∙ sum-flat_map (λ x. cond (x == k) 1 0) own_numbers (below n)
      ∙ (λ i. sum_by (λ r. count-enumerated k (get_or bases r 0) (owned m ranks r) i) (below n))

-- ---- one Sum of each rank

-- a Sum on the one word
abbrev sum_ask : ℕ → Ask
sum_ask value = record { word = 0; op = Sum; value = value }

abbrev sum_asks : (ℕ → ℕ) → List ℕ → List (List Ask)
sum_asks f rs = map (λ r. sum_ask (f r) ∷ []) rs

asks_on-sums : (f : ℕ → ℕ) (rs : List ℕ) → asks_on 0 (sum_asks f rs) ≡ map (λ r. sum_ask (f r)) rs
asks_on-sums f [] = refl
asks_on-sums f (r ∷ rs) = ap (λ l. sum_ask (f r) ∷ l) (asks_on-sums f rs)

kind-sums : (f : ℕ → ℕ) (rs : List ℕ) → 1 ≤ length rs → kind_of (map (λ r. sum_ask (f r)) rs) ≡ Sum
kind-sums f [] h = absurd (omega (arith, h))
kind-sums f (r ∷ rs) h = refl

added-sums : (f : ℕ → ℕ) (rs : List ℕ) → sum_by added (map (λ r. sum_ask (f r)) rs) ≡ sum_by f rs
added-sums f [] = refl
added-sums f (r ∷ rs) = sum_by-cons added (sum_ask (f r)) (map (λ r. sum_ask (f r)) rs) ∙ ap (λ n. f r + n) (added-sums f rs) ∙ sym (sum_by-cons f r rs)

-- Sums that fit leave their sum
word-after-sums : (f : ℕ → ℕ) (rs : List ℕ) (word : ℕ) → word + sum_by f rs < 2 ^ 64 → word_after word (map (λ r. sum_ask (f r)) rs) ≡ word + sum_by f rs
unfolding step
word-after-sums f [] word fits = omega arith
word-after-sums f (r ∷ rs) word fits =
    let first : word + f r < 2 ^ 64 = omega (arith, sum_by-cons f r rs) in
    ap (λ w. word_after w (map (λ r. sum_ask (f r)) rs)) (mod-eq_of_lt first)
    ∙ word-after-sums f rs (word + f r) (omega (arith, sum_by-cons f r rs)) ∙ omega (arith, sum_by-cons f r rs)

-- the entries take k as often as the ranks that made them cover it
took-sums : (k i : ℕ) (f : ℕ → ℕ) (rs : List ℕ) (got : List (List ℕ)) → map length got ≡ map length (sum_asks f rs)
    → count_by (took k) (on_word 0 (entries_from i (sum_asks f rs) got)) ≡ sum_by (λ (x : ℕ × ℕ). covers k x.1 (f x.0)) (zip rs (map (λ values. slice_index values 0) got))
took-sums k i f [] got h = refl
took-sums k i f (r ∷ rs) [] h = absurd (cc h)
took-sums k i f (r ∷ rs) ([] ∷ got) h = absurd (cc h)
took-sums k i f (r ∷ rs) ((base ∷ []) ∷ got) h =
    let rest : map length got ≡ map length (sum_asks f rs) = cc h in
    sum_by-cons (λ e. cond (took k e) 1 0) (record { rank = i; index = 0; ask = sum_ask (f r); got = base }) (on_word 0 (entries_from (i + 1) (sum_asks f rs) got))
    ∙ ap (λ c. covers k base (f r) + c) (took-sums k (i + 1) f rs got rest)
    ∙ sym (sum_by-cons (λ (x : ℕ × ℕ). covers k x.1 (f x.0)) (r, base) (zip rs (map (λ values. slice_index values 0) got)))
took-sums k i f (r ∷ rs) ((base ∷ other ∷ values) ∷ got) h = let one : length (base ∷ other ∷ values) ≡ 1 = cc h in absurd (omega (arith, one))

-- a sum over the numbers below the length of a list, each with its element
sum-zip-below : (g : ℕ × ℕ → ℕ) (n : ℕ) (ys : List ℕ) → length ys ≡ n → sum_by g (zip (below n) ys) ≡ sum_by (λ r. g (r, get_or ys r 0)) (below n)
sum-zip-below g n ys h =
    let long : length (zip (below n) ys) ≡ n = length-zip (below n) ys ∙ omega (arith, length-below n, h) in
    sym (sum-map g (zip (below n) ys))
    ∙ ap sum (sym (map-below-length (λ r. g (r, get_or ys r 0)) g (zip (below n) ys) (0, 0) (λ r lt.
    let low : r < n = omega arith in
    let in_below : r < length (below n) = omega (arith, length-below n) in
    let in_ys : r < length ys = omega arith in
    ap (λ j. g (j, get_or ys r 0)) (sym (get_or-below n r 0 low)) ∙ ap g (sym (get_or-zip (below n) ys r (0, 0) in_below in_ys)))))
    ∙ ap (λ j. sum (map (λ r. g (r, get_or ys r 0)) (below j))) long
    ∙ sum-map (λ r. g (r, get_or ys r 0)) (below n)

-- ---- the number round

module _ (m : Mesh) (n : ℕ) (ranks : List ℕ) (layers : ℕ) (r : Round) (is : IsNumberRound m ranks n r) where
  -- how many points a rank owns
  size : ℕ → ℕ
  size k = length (owned m ranks k)

  asks-are : r.asks ≡ sum_asks size (below n)
  unfolding number_asks size
  asks-are = is.asks

  one-word : 0 < length r.before
  one-word = omega (arith, ap length is.words)

  from-zero : get_or r.before 0 0 ≡ 0
  from-zero = ap (λ words. get_or words 0 0) is.words

  on-the-word : asks_on 0 r.asks ≡ map (λ k. sum_ask (size k)) (below n)
  on-the-word = ap (asks_on 0) asks-are ∙ asks_on-sums size (below n)

  some-rank : 1 ≤ length (below n)
  some-rank = omega (arith, is.legal.conditions.some_rank, ap length asks-are, length-map (below n) (λ k. sum_ask (size k) ∷ []))

  kind-is : kind_of (asks_on 0 r.asks) ≡ Sum
  kind-is = ap kind_of on-the-word ∙ kind-sums size (below n) some-rank

  -- the sizes fit
  fits : sum_by size (below n) < 2 ^ 64
  fits = omega (arith, (is.legal.conditions.words_suit 0 one-word).sums_fit, ap (sum_by added) on-the-word, added-sums size (below n))

  -- the last value is how many points all ranks own
  last-is : slice_index r.after 0 ≡ sum_by size (below n)
  last-is = legal-last r is.legal 0 one-word ∙ (λ i. word_after (from-zero i) (on-the-word i)) ∙ word-after-sums size (below n) 0 (omega (arith, fits)) ∙ omega arith

  -- each rank fetched its base
  pub bases-count : length (bases_of r) ≡ n
  bases-count = omega (arith, length-map r.got (λ got. slice_index got 0), ap length is.legal.fetched, length-map r.got (length {A = ℕ}), length-map r.asks (length {A = Ask}), ap length asks-are, length-map (below n) (λ k. sum_ask (size k) ∷ []), length-below n)

  -- k is printed as often as it was taken
  covered : (k : ℕ) → count_by (took k) (on_word 0 (entries r.asks r.got)) ≡ sum_by (λ j. covers k (get_or (bases_of r) j 0) (size j)) (below n)
  covered k =
      ap (λ asks. count_by (took k) (on_word 0 (entries asks r.got))) asks-are
      ∙ took-sums k 0 size (below n) r.got (is.legal.fetched ∙ ap (map length) asks-are)
      ∙ sum-zip-below (λ (x : ℕ × ℕ). covers k x.1 (size x.0)) n (bases_of r) bases-count

  pub drawn-once : (length (map (λ (p : ℕ × Sight). p.0) (numbered (ranks_with m n ranks layers (bases_of r)))) ≡ slice_index r.after 0)
      × ((k : ℕ) → k < slice_index r.after 0 → count_by (λ x. x == k) (map (λ (p : ℕ × Sight). p.0) (numbered (ranks_with m n ranks layers (bases_of r)))) ≡ 1)
  unfolding size
  drawn-once = (
    length-printed m n ranks layers (bases_of r) ∙ sym last-is,
    λ k high. count-printed m n ranks layers (bases_of r) k ∙ sym (covered k) ∙ legal-sums r is.legal 0 k one-word kind-is (omega (arith, from-zero)) high,
  )
