-- The round of a forest: its words are the roots by rank and index, its asks the leaves in order.
use Rattle.std.specs.Prelude.{◌≡◌, ℕ, ◌+◌, ◌^◌, ◌<◌, ◌≤◌, List, [], length, map, get_or, take, sum, sum_by, count_by, flat_map}
use Rattle.std.specs.List.{AllByRecursion, enumerate_from}
use Rattle.sf_defs.specs.declared.Op.{Op}
use Rattle.sf_defs.specs.declared.Op.TheVariants.{Load, Replace}
use Rattle.sf_defs.specs.declared.Ask.{Ask}
use Rattle.sf_defs.specs.declared.Leaf.{Leaf}
use Rattle.sf_defs.specs.Rounds.{added, all_asks, asks_on, same_op}
use Rattle.sf_defs.specs.Forest.{Forest}

-- the word of root 0 of a rank
abbrev pub first_word : List ℕ → ℕ → ℕ
first_word roots rank = sum (take rank roots)

-- the word of a leaf's root
abbrev pub word_of : List ℕ → Leaf → ℕ
word_of roots l = first_word roots l.rank + l.index

-- what a leaf asks, with these values on its rank
abbrev pub ask_of : List ℕ → Op → List ℕ → Leaf → Ask
ask_of roots op values l = record { word = word_of roots l; op = op; value = get_or values l.local 0 }

-- what the leaves of a rank ask
abbrev pub own_asks : List ℕ → Op → List ℕ → List Leaf → List Ask
own_asks roots op values leaves = map (ask_of roots op values) leaves

-- what all leaves ask, by rank
unfoldable pub asks_of : Forest → Op → List (List ℕ) → List (List Ask)
asks_of f op values = map (λ r. own_asks f.roots op (get_or values r.0 []) r.1) (enumerate_from 0 f.leaves)

-- the values of all roots, by rank and index
abbrev pub words_of : List (List ℕ) → List ℕ
words_of values = flat_map (λ own. own) values

-- a value for each root
abbrev pub AreRootValues : Forest → List (List ℕ) → Type 0
AreRootValues f values = map length values ≡ f.roots

-- a value at the local index of each leaf of a rank
abbrev pub CoversOwn : List ℕ → List Leaf → Type 0
CoversOwn values leaves = AllByRecursion (λ (l : Leaf). l.local < length values) leaves

-- a value at each leaf
pub record CoverLeaves (f : Forest) (values : List (List ℕ)) : Type 0 where
  pub ranks : length values ≡ length f.roots
  pub places : (rank : ℕ) → rank < length f.roots → CoversOwn (get_or values rank []) (get_or f.leaves rank [])

-- What leaves may ask of roots: zeros with Load, at most one Replace of a root, and Sums that fit.
pub record MayAsk (f : Forest) (op : Op) (leaves roots : List (List ℕ)) : Type 0 where
  pub plain_loads : AllByRecursion (λ (a : Ask). a.op ≡ Load → a.value ≡ 0) (all_asks (asks_of f op leaves))
  pub one_replace : (w : ℕ) → w < length (words_of roots) → count_by (λ (a : Ask). same_op a.op Replace) (asks_on w (asks_of f op leaves)) ≤ 1
  pub sums_fit : (w : ℕ) → w < length (words_of roots) → get_or (words_of roots) w 0 + sum_by added (asks_on w (asks_of f op leaves)) < 2 ^ 64
