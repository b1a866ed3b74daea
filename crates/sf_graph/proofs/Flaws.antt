-- Steps of the search for the first flaw.
use Rattle.std.proofs.Common.{◌≡◌, ℕ, suc, ◌+◌, ◌<◌, Bool, true, false, cond, ◌||◌, List, [], ◌∷◌, ◌++◌, ◌==◌, length, get_or, take, drop, Some, None, Option, option_map, is_some, nat_eq, refl, ap, sym, subst, ◌∙◌, add-one}
use Rattle.std.specs.List.{list_any, AllByRecursion, find}
use Rattle.std.specs.Option.{option_or}
use Rattle.std.specs.Map.{update}
use Rattle.std.proofs.lemmas.Bool.{true≢false, eqb-true, cond-true, cond-false}
use Rattle.std.proofs.lemmas.List.Folds.{find-append}
use Rattle.std.proofs.Math.Seq.{drop-cons, take-suc}
use Rattle.sf_defs.specs.declared.Leaf.{Leaf}
use Rattle.sf_defs.specs.Forest.{root_range, leaf_twice, flaw_on, has_root, root_at}
use Rattle.sf_graph.specs.Parts.{own_root}

-- the leaves before place i have no flaw, and these roots by local index
pub record IsSearched (roots : List ℕ) (rank : ℕ) (leaves : List Leaf) (i : ℕ) (found : ℕ → Option (ℕ × ℕ)) : Type 0 where
  pub earlier : List Leaf
  pub rest : flaw_on roots rank earlier i (drop i leaves) ≡ flaw_on roots rank [] 0 leaves
  pub locals : (local : ℕ) → list_any (λ (e : Leaf). e.local == local) earlier ≡ is_some (found local)
  pub roots_found : (local : ℕ) → found local ≡ own_root (take i leaves) local

-- a leaf without a root is the flaw
pub flaw-range : (roots : List ℕ) (rank : ℕ) (earlier : List Leaf) (i : ℕ) (l : Leaf) (ls : List Leaf) → has_root roots l ≡ false → flaw_on roots rank earlier i (l ∷ ls) ≡ Some (root_range rank i)
flaw-range roots rank earlier i l ls h = cond-false (has_root roots l) _ _ h

-- a leaf at the place of an earlier one is
pub flaw-twice : (roots : List ℕ) (rank : ℕ) (earlier : List Leaf) (i : ℕ) (l : Leaf) (ls : List Leaf) → has_root roots l ≡ true → list_any (λ (e : Leaf). e.local == l.local) earlier ≡ true → flaw_on roots rank earlier i (l ∷ ls) ≡ Some (leaf_twice rank l.local)
flaw-twice roots rank earlier i l ls h k = cond-true (has_root roots l) _ _ h ∙ cond-true (list_any (λ (e : Leaf). e.local == l.local) earlier) _ _ k

-- any other is passed
pub flaw-passed : (roots : List ℕ) (rank : ℕ) (earlier : List Leaf) (i : ℕ) (l : Leaf) (ls : List Leaf) → has_root roots l ≡ true → list_any (λ (e : Leaf). e.local == l.local) earlier ≡ false → flaw_on roots rank earlier i (l ∷ ls) ≡ flaw_on roots rank (l ∷ earlier) (i + 1) ls
flaw-passed roots rank earlier i l ls h k = cond-true (has_root roots l) _ _ h ∙ cond-false (list_any (λ (e : Leaf). e.local == l.local) earlier) _ _ k

-- each leaf of a rank without a flaw has its root
pub each_has_root : (roots : List ℕ) (rank : ℕ) (earlier : List Leaf) (i : ℕ) (leaves : List Leaf) → flaw_on roots rank earlier i leaves ≡ None → AllByRecursion (λ l. has_root roots l ≡ true) leaves
each_has_root roots rank earlier i [] none = tt
each_has_root roots rank earlier i (l ∷ ls) none = go (has_root roots l) (list_any (λ (e : Leaf). e.local == l.local) earlier) refl refl (each_has_root roots rank (l ∷ earlier) (i + 1) ls)
  where
    go : (b c : Bool) → has_root roots l ≡ b → list_any (λ (e : Leaf). e.local == l.local) earlier ≡ c → (flaw_on roots rank (l ∷ earlier) (i + 1) ls ≡ None → AllByRecursion (λ l. has_root roots l ≡ true) ls) → AllByRecursion (λ l. has_root roots l ≡ true) (l ∷ ls)
    go false c h k rest = let e = flaw-range roots rank earlier i l ls h in cc
    go true true h k rest = let e = flaw-twice roots rank earlier i l ls h k in cc
    go true false h k rest = (h, rest (sym (flaw-passed roots rank earlier i l ls h k) ∙ none))

-- nothing is searched yet
pub IsSearched-none : (roots : List ℕ) (rank : ℕ) (leaves : List Leaf) (found : ℕ → Option (ℕ × ℕ)) → ((local : ℕ) → found local ≡ None) → IsSearched roots rank leaves 0 found
IsSearched-none roots rank leaves found none = record { earlier = []; rest = refl; locals = λ local. sym (ap is_some (none local)); roots_found = none }

-- the whole search from the leaf at place i on
from_place : (roots : List ℕ) (rank : ℕ) (leaves : List Leaf) (i : ℕ) (l : Leaf) (found : ℕ → Option (ℕ × ℕ)) (s : IsSearched roots rank leaves i found) → i < length leaves → get_or leaves i l ≡ l → flaw_on roots rank s.earlier i (l ∷ drop (suc i) leaves) ≡ flaw_on roots rank [] 0 leaves
from_place roots rank leaves i l found s within here = subst (λ (ls : List Leaf). flaw_on roots rank s.earlier i ls ≡ flaw_on roots rank [] 0 leaves) (drop-cons leaves i l within ∙ ap (λ (x : Leaf). x ∷ drop (suc i) leaves) here) s.rest

-- the leaf at place i has no root
pub IsSearched-range : (roots : List ℕ) (rank : ℕ) (leaves : List Leaf) (i : ℕ) (l : Leaf) (found : ℕ → Option (ℕ × ℕ)) → IsSearched roots rank leaves i found → i < length leaves → get_or leaves i l ≡ l → has_root roots l ≡ false → flaw_on roots rank [] 0 leaves ≡ Some (root_range rank i)
IsSearched-range roots rank leaves i l found s within here h = sym (from_place roots rank leaves i l found s within here) ∙ flaw-range roots rank s.earlier i l (drop (suc i) leaves) h

-- the leaf at place i has an earlier one's local index
pub IsSearched-twice : (roots : List ℕ) (rank : ℕ) (leaves : List Leaf) (i : ℕ) (l : Leaf) (found : ℕ → Option (ℕ × ℕ)) → IsSearched roots rank leaves i found → i < length leaves → get_or leaves i l ≡ l → has_root roots l ≡ true → is_some (found l.local) ≡ true → flaw_on roots rank [] 0 leaves ≡ Some (leaf_twice rank l.local)
IsSearched-twice roots rank leaves i l found s within here h k = sym (from_place roots rank leaves i l found s within here) ∙ flaw-twice roots rank s.earlier i l (drop (suc i) leaves) h (s.locals l.local ∙ k)

-- the leaf at place i is passed, and its root found from now on
pub IsSearched-more : (roots : List ℕ) (rank : ℕ) (leaves : List Leaf) (i : ℕ) (l : Leaf) (found later : ℕ → Option (ℕ × ℕ)) → IsSearched roots rank leaves i found → i < length leaves → get_or leaves i l ≡ l → has_root roots l ≡ true → is_some (found l.local) ≡ false → ((local : ℕ) → later local ≡ update nat_eq found l.local (Some (root_at l)) local) → IsSearched roots rank leaves (i + 1) later
IsSearched-more roots rank leaves i l found later s within here h k updates = record {
  earlier = l ∷ s.earlier;
  rest = rw (← (add-one i)) at (sym (flaw-passed roots rank s.earlier i l (drop (suc i) leaves) h (s.locals l.local ∙ k))) ∙ from_place roots rank leaves i l found s within here;
  locals = λ local. locals_more local (nat_eq l.local local) refl;
  roots_found = λ local. rw add-one (roots_more local (nat_eq l.local local) refl);
}
  where
    locals_more : (local : ℕ) (b : Bool) → nat_eq l.local local ≡ b → list_any (λ (e : Leaf). e.local == local) (l ∷ s.earlier) ≡ is_some (later local)
    locals_more local true e = ap (λ (b : Bool). b || list_any (λ (e : Leaf). e.local == local) s.earlier) e ∙ sym (ap is_some (updates local ∙ cond-true (nat_eq l.local local) _ _ e))
    locals_more local false e = ap (λ (b : Bool). b || list_any (λ (e : Leaf). e.local == local) s.earlier) e ∙ (s.locals local ∙ sym (ap is_some (updates local ∙ cond-false (nat_eq l.local local) _ _ e)))

    up_to : (local : ℕ) → own_root (take (suc i) leaves) local ≡ option_map root_at (option_or (find (λ (x : Leaf). x.local == local) (take i leaves)) (cond (l.local == local) (Some l) None))
    up_to local = ap (λ (ls : List Leaf). own_root ls local) (take-suc leaves i l within ∙ ap (λ (x : Leaf). take i leaves ++ x ∷ []) here) ∙ ap (option_map root_at) (find-append (λ (x : Leaf). x.local == local) (take i leaves) (l ∷ []))

    none_found : (o : Option Leaf) → is_some (option_map root_at o) ≡ false → o ≡ None
    none_found None e = refl
    none_found (Some x) e = absurd (true≢false e)

    or_none : (o : Option Leaf) → option_or o None ≡ o
    or_none None = refl
    or_none (Some x) = refl

    roots_more : (local : ℕ) (b : Bool) → nat_eq l.local local ≡ b → later local ≡ own_root (take (suc i) leaves) local
    roots_more local true e =
        let same : l.local ≡ local = eqb-true l.local local e in
        let none : find (λ (x : Leaf). x.local == local) (take i leaves) ≡ None = none_found (find (λ (x : Leaf). x.local == local) (take i leaves)) (sym (ap is_some (s.roots_found local)) ∙ (ap (λ (n : ℕ). is_some (found n)) (sym same) ∙ k)) in
        (updates local ∙ cond-true (nat_eq l.local local) _ _ e) ∙ sym (up_to local ∙ (ap (λ (o : Option Leaf). option_map root_at (option_or o (cond (l.local == local) (Some l) None))) none ∙ ap (option_map root_at) (cond-true (l.local == local) (Some l) None e)))
    roots_more local false e = (updates local ∙ cond-false (nat_eq l.local local) _ _ e) ∙ (s.roots_found local ∙ sym (up_to local ∙ (ap (λ (o : Option Leaf). option_map root_at (option_or (find (λ (x : Leaf). x.local == local) (take i leaves)) o)) (cond-false (l.local == local) (Some l) None e) ∙ ap (option_map root_at) (or_none (find (λ (x : Leaf). x.local == local) (take i leaves))))))
