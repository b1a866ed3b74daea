-- The search for the first flaw, rank by rank.
use Rattle.std.proofs.Common.{◌≡◌, ℕ, suc, true, get_or, ◌+◌, ◌^◌, ◌<◌, List, [], ◌∷◌, ◌++◌, length, map, Some, None, Option, sum_by, arith, refl, ap, sym, subst, ◌∙◌, append_assoc, append-nil, length-append}
use Rattle.std.proofs.lemmas.Grind.{common_steps}
use Rattle.std.specs.List.{enumerate_from, AllByRecursion}
use Rattle.std.specs.declared.vec.Vec.{Vec}
use Rattle.std.specs.declared.alloc.Global.{Global}
use Rattle.std.proofs.lemmas.List.Sums.{sum_by-append, sum_by-cons}
use Rattle.sf_defs.specs.declared.Leaf.{Leaf}
use Rattle.sf_defs.specs.Forest.{ForestFlaw, has_root, IsForest, flaw, flaw_on, first_some, or_else}
use Rattle.sf_graph.specs.declared.fault.ForestFault.{ForestFault}
use Rattle.sf_graph.specs.declared.fault.ForestFault.TheVariants.{RootRange, LeafTwice, NoMemory}
use Rattle.sf_graph.specs.Faults.{IsFirstFault}
use Rattle.plain_lists.specs.Vectors.{lists_of}
use Rattle.sf_graph.specs.Parts.{forest_of, IsForRanks, HasCount}
use Rattle.sf_graph.proofs.Counts.{length_at}
use Rattle.sf_graph.proofs.Flaws.{each_has_root}
use Rattle.plain_lists.proofs.Each.{all_at, all_weaker}
use Rattle.std.proofs.lemmas.Bool.{ltb-true}

-- the first flaw of these ranks, the first of which is rank n
abbrev pub flaw_from : List ℕ → ℕ → List (List Leaf) → Option ForestFlaw
flaw_from roots n leaves = first_some (λ r. flaw_on roots r.0 [] 0 r.1) (enumerate_from n leaves)

-- the ranks in `found` have no flaw, and `rest` are still to be searched
pub record IsSearchedTo (roots : List ℕ) (leaves found : List (List Leaf)) (rest : List (Vec Leaf Global)) : Type 0 where
  pub parts : found ++ lists_of rest ≡ leaves
  pub flaws : flaw_from roots (length found) (lists_of rest) ≡ flaw_from roots 0 leaves

-- a flaw of the next rank is the first
pub IsSearchedTo-flaw : (roots : List ℕ) (leaves found : List (List Leaf)) (rest later : List (Vec Leaf Global)) (own : Vec Leaf Global) (x : ForestFlaw) → IsSearchedTo roots leaves found rest → rest ≡ own ∷ later → flaw_on roots (length found) [] 0 own.items ≡ Some x → flaw (forest_of roots leaves) ≡ Some x
unfolding flaw
IsSearchedTo-flaw roots leaves found rest later own x s next e = sym s.flaws ∙ (ap (λ (vs : List (Vec Leaf Global)). flaw_from roots (length found) (lists_of vs)) next ∙ ap (λ (o : Option ForestFlaw). or_else o (flaw_from roots (length found + 1) (lists_of later))) e)

-- so a fault of the next rank is the first
pub IsSearchedTo-fault : (roots : List ℕ) (leaves found : List (List Leaf)) (rest later : List (Vec Leaf Global)) (own : Vec Leaf Global) (fault : ForestFault) → IsSearchedTo roots leaves found rest → rest ≡ own ∷ later → IsFirstFault fault (flaw_on roots (length found) [] 0 own.items) → IsFirstFault fault (flaw (forest_of roots leaves))
IsSearchedTo-fault roots leaves found rest later own NoMemory s next e = tt
IsSearchedTo-fault roots leaves found rest later own (RootRange rank leaf) s next e = IsSearchedTo-flaw roots leaves found rest later own _ s next e
IsSearchedTo-fault roots leaves found rest later own (LeafTwice rank local) s next e = IsSearchedTo-flaw roots leaves found rest later own _ s next e

-- a rank without a flaw is passed
pub IsSearchedTo-more : (roots : List ℕ) (leaves found : List (List Leaf)) (rest later : List (Vec Leaf Global)) (own : Vec Leaf Global) (now : List (List Leaf)) → IsSearchedTo roots leaves found rest → rest ≡ own ∷ later → flaw_on roots (length found) [] 0 own.items ≡ None → now ≡ found ++ own.items ∷ [] → IsSearchedTo roots leaves now later
IsSearchedTo-more roots leaves found rest later own now s next none e = subst (λ (f : List (List Leaf)). IsSearchedTo roots leaves f later) (sym e) record {
  parts = append_assoc found (own.items ∷ []) (lists_of later) ∙ (ap (λ (vs : List (Vec Leaf Global)). found ++ lists_of vs) (sym next) ∙ s.parts);
  flaws = ap (λ (n : ℕ). flaw_from roots n (lists_of later)) (grown found own.items) ∙ (ap (λ (o : Option ForestFlaw). or_else o (flaw_from roots (length found + 1) (lists_of later))) (sym none) ∙ (ap (λ (vs : List (Vec Leaf Global)). flaw_from roots (length found) (lists_of vs)) (sym next) ∙ s.flaws));
}
  where
    grown : (xs : List (List Leaf)) (x : List Leaf) → length (xs ++ x ∷ []) ≡ length xs + 1
    grown xs x = grind (arith, common_steps)

-- all ranks are searched
pub IsSearchedTo-all : (roots : List ℕ) (leaves found : List (List Leaf)) → IsSearchedTo roots leaves found [] → (found ≡ leaves) × IsForest (forest_of roots leaves)
unfolding flaw
IsSearchedTo-all roots leaves found s = (sym (append-nil found) ∙ s.parts, sym s.flaws)

-- nothing is searched yet
pub IsSearchedTo-none : (roots : List ℕ) (rest : List (Vec Leaf Global)) → IsSearchedTo roots (lists_of rest) [] rest
IsSearchedTo-none roots rest = record { parts = refl; flaws = refl }

-- the next rank is one of 64, and its leaves are few
pub next_fits : (roots : List ℕ) (leaves found : List (List Leaf)) (rest later : List (Vec Leaf Global)) (own : Vec Leaf Global) → IsForRanks (forest_of roots leaves) → IsSearchedTo roots leaves found rest → rest ≡ own ∷ later → (length found < 64) × (length own.items < 2 ^ 32)
next_fits roots leaves found rest later own ranks s next =
    let whole : found ++ own.items ∷ lists_of later ≡ leaves = ap (λ (vs : List (Vec Leaf Global)). found ++ lists_of vs) (sym next) ∙ s.parts in
    let sums : sum_by length (found ++ own.items ∷ lists_of later) ≡ sum_by length found + sum_by length (own.items ∷ lists_of later) = sum_by-append length found (own.items ∷ lists_of later) in
    let first : sum_by length (own.items ∷ lists_of later) ≡ length own.items + sum_by length (lists_of later) = sum_by-cons length own.items (lists_of later) in
    let all : sum_by length (found ++ own.items ∷ lists_of later) ≡ sum_by length leaves = ap (sum_by length) whole in
    let counts : length found + suc (length (lists_of later)) ≡ length leaves = sym (length-append found (own.items ∷ lists_of later)) ∙ ap length whole in
    (omega (arith, ranks.ranks, ranks.few_ranks), omega (arith, ranks.few_leaves))

-- in a forest each leaf has its root
pub ranks_have_roots : (roots : List ℕ) (n : ℕ) (leaves : List (List Leaf)) → flaw_from roots n leaves ≡ None → AllByRecursion (λ own. AllByRecursion (λ l. has_root roots l ≡ true) own) leaves
ranks_have_roots roots n [] none = tt
ranks_have_roots roots n (own ∷ more) none = (each_has_root roots n [] 0 own (first (flaw_on roots n [] 0 own) (flaw_from roots (n + 1) more) none), ranks_have_roots roots (n + 1) more (second (flaw_on roots n [] 0 own) (flaw_from roots (n + 1) more) none))
  where
    first : (o p : Option ForestFlaw) → or_else o p ≡ None → o ≡ None
    first None p e = refl
    first (Some x) p e = cc e

    second : (o p : Option ForestFlaw) → or_else o p ≡ None → p ≡ None
    second None p e = e
    second (Some x) p e = cc e

-- and so a number of its own
pub leaves_have_counts : (roots : List ℕ) (leaves : List (List Leaf)) (counts : List (List ℕ)) (k : ℕ) (d : List Leaf) → IsForest (forest_of roots leaves) → map length counts ≡ roots → k < length leaves → AllByRecursion (HasCount counts) (get_or leaves k d)
unfolding flaw
leaves_have_counts roots leaves counts k d right shape within = all_weaker (λ l. has_root roots l ≡ true) (HasCount counts) (λ l has. subst (λ (n : ℕ). l.index < n) (ap (λ (ns : List ℕ). get_or ns l.rank 0) (sym shape) ∙ sym (length_at counts l.rank)) (ltb-true l.index (get_or roots l.rank 0) has)) (get_or leaves k d) (all_at (λ own. AllByRecursion (λ l. has_root roots l ≡ true) own) leaves k d (ranks_have_roots roots 0 leaves right) within)
