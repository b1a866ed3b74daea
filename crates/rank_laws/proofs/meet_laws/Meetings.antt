-- Which ids meet: those of the leaves that look the root up and have the key.
use Rattle.std.proofs.Common.{◌≡◌, ℕ, zero, suc, ◌+◌, Bool, true, false, ◌&&◌, ◌==◌, List, [], ◌∷◌, map, get_or, Option, Some, None, refl, ap, sym, subst, ◌∙◌, arith, zero-add}
use Rattle.std.specs.Prelude.{filter, find, flat_map, option_map}
use Rattle.std.specs.List.{list_any, enumerate_from, AllByRecursion}
use Rattle.std.proofs.lemmas.Bool.{eq-eqb, eqb-true, and_parts, or_left, or_right}
use Rattle.std.proofs.lemmas.List.Folds.{list_any-append}
use Rattle.plain_lists.specs.Lists.{same_list}
use Rattle.plain_lists.proofs.Each.{all_both, all_filter, all_flat_map, all_map}
use Rattle.plain_lists.proofs.Filters.{filter_passing}
use Rattle.plain_lists.proofs.Finding.{any_filter, any_map, find-has, find-passes, stands}
use Rattle.sf_defs.specs.declared.Leaf.{Leaf}
use Rattle.sf_defs.specs.Forest.{Forest, IsForest, is_on_root, leaves_on, root_at, root_of}
use Rattle.rank_laws.proofs.Forests.{is_local}
use Rattle.rank_laws.proofs.Inverting.{forest-findable}
use Rattle.sf_defs.specs.meeting.Meeting.{key_at, id_at, meets, ids_meeting}

-- ---- leaves and their roots

-- a leaf on a root has it as its root
on-root : (root : ℕ × ℕ) (l : Leaf) → is_on_root root l ≡ true → root_at l ≡ root
on-root root l h = let both = and_parts (l.rank == root.0) (l.index == root.1) h in let r = eqb-true l.rank root.0 both.0 in let i = eqb-true l.index root.1 both.1 in λ j. (r j, i j)

root-on : (root : ℕ × ℕ) (l : Leaf) → root_at l ≡ root → is_on_root root l ≡ true
root-on root l h = rw (eq-eqb l.rank root.0 (ap (λ (x : ℕ × ℕ). x.0) h), eq-eqb l.index root.1 (ap (λ (x : ℕ × ℕ). x.1) h))

-- ---- ranks

-- what passes at some rank passes among what all ranks give
any-place : {X Y : Type 0} (p : Y → Bool) (g : ℕ × List X → List Y) → ((k : ℕ) → list_any p (g (k, [])) ≡ false) → (n : ℕ) (xss : List (List X)) (k : ℕ) → list_any p (g (n + k, get_or xss k [])) ≡ true → list_any p (flat_map g (enumerate_from n xss)) ≡ true
any-place p g past n [] k h = absurd (cc (sym (past (n + k)) ∙ h))
any-place p g past n (xs ∷ xss) zero h =
    let here : n + zero ≡ n = omega arith in
    list_any-append p (g (n, xs)) (flat_map g (enumerate_from (n + 1) xss)) ∙ or_left (list_any p (g (n, xs))) (list_any p (flat_map g (enumerate_from (n + 1) xss))) (subst (λ i. list_any p (g (i, xs)) ≡ true) here h)
any-place p g past n (xs ∷ xss) (suc k) h =
    let there : n + suc k ≡ n + 1 + k = omega arith in
    list_any-append p (g (n, xs)) (flat_map g (enumerate_from (n + 1) xss)) ∙ or_right (list_any p (g (n, xs))) (list_any p (flat_map g (enumerate_from (n + 1) xss))) (any-place p g past (n + 1) xss k (subst (λ i. list_any p (g (i, get_or xss k [])) ≡ true) there h))

-- what each rank has all have
all-places : {X : Type 0} (Q : ℕ × List X → Type 0) (n : ℕ) (xss : List (List X)) → ((k : ℕ) → Q (n + k, get_or xss k [])) → AllByRecursion Q (enumerate_from n xss)
all-places Q n [] h = tt
all-places Q n (xs ∷ xss) h =
    let here : n + zero ≡ n = omega arith in
    (subst (λ i. Q (i, xs)) here (h zero), all-places Q (n + 1) xss (λ k. let there : n + suc k ≡ n + 1 + k = omega arith in subst (λ i. Q (i, get_or xss k [])) there (h (suc k))))

-- ---- leaves that meet

module _ (f : Forest) (keys : List (List (List ℕ))) (ids : List (List ℕ)) (root : ℕ × ℕ) (key : List ℕ) where
  abbrev met-on : ℕ × List Leaf → List ℕ
  met-on r = map (λ (l : Leaf). id_at ids r.0 l.local) (filter (meets keys root key r.0) r.1)

  -- a leaf that looks the root up and has the key has its id among those that meet
  pub meeting-has : (rank local : ℕ) → root_of f rank local ≡ Some root → same_list (key_at keys rank local) key ≡ true → list_any (λ id. id == id_at ids rank local) (ids_meeting f keys ids root key) ≡ true
  unfolding root_of ids_meeting
  meeting-has rank local e same = any-place is_own met-on (λ k. refl) 0 f.leaves rank (go (find (is_local local) (leaves_on f rank)) refl e)
    where
      is_own : ℕ → Bool
      is_own id = id == id_at ids rank local

      own-id : Leaf → Bool
      own-id l = id_at ids (0 + rank) l.local == id_at ids rank local

      test : Leaf → Bool
      test l = meets keys root key (0 + rank) l && own-id l

      passes : (l : Leaf) → l.local ≡ local → root_at l ≡ root → test l ≡ true
      passes l at there = rw (root-on root l there, ap (λ k. same_list (key_at keys k l.local) key) (zero-add rank) ∙ (ap (λ k. same_list (key_at keys rank k) key) at ∙ same)) (eq-eqb (id_at ids (0 + rank) l.local) (id_at ids rank local) (ap (λ k. id_at ids k l.local) (zero-add rank) ∙ ap (id_at ids rank) at))

      go : (o : Option Leaf) → find (is_local local) (leaves_on f rank) ≡ o → option_map root_at o ≡ Some root → list_any is_own (met-on (0 + rank, leaves_on f rank)) ≡ true
      go None g x = absurd (cc x)
      go (Some l) g x =
          let there : root_at l ≡ root = cc x in
          let ls = leaves_on f rank in
          any_map is_own (λ (y : Leaf). id_at ids (0 + rank) y.local) (filter (meets keys root key (0 + rank)) ls)
          ∙ (any_filter own-id (meets keys root key (0 + rank)) ls
          ∙ find-has (λ (y : Leaf). (p : Leaf → Bool) → p y ≡ true → list_any p ls ≡ true) (is_local local) ls l (stands ls) g test (passes l (eqb-true l.local local (find-passes (is_local local) ls l g)) there))

  -- what holds of the id of each such leaf holds of each that meets
  pub meeting-all : IsForest f → (P : ℕ → Type 0) → ((rank local : ℕ) → root_of f rank local ≡ Some root → same_list (key_at keys rank local) key ≡ true → P (id_at ids rank local)) → AllByRecursion P (ids_meeting f keys ids root key)
  unfolding root_of ids_meeting
  meeting-all right P h = all_flat_map P met-on (enumerate_from 0 f.leaves) (all-places (λ r. AllByRecursion P (met-on r)) 0 f.leaves own)
    where
      holds : (rank : ℕ) (l : Leaf) → option_map root_at (find (is_local l.local) (leaves_on f rank)) ≡ Some (root_at l) → meets keys root key (0 + rank) l ≡ true → P (id_at ids (0 + rank) l.local)
      holds rank l found meet =
          let both = and_parts (is_on_root root l) (same_list (key_at keys (0 + rank) l.local) key) meet in
          subst (λ k. P (id_at ids k l.local)) (sym (zero-add rank)) (h rank l.local (found ∙ ap Some (on-root root l both.0)) (ap (λ k. same_list (key_at keys k l.local) key) (sym (zero-add rank)) ∙ both.1))

      own : (rank : ℕ) → AllByRecursion P (met-on (0 + rank, get_or f.leaves rank []))
      own rank =
          let ls = leaves_on f rank in
          let test = meets keys root key (0 + rank) in
          all_map P (λ (l : Leaf). id_at ids (0 + rank) l.local) (filter test ls)
          (all_both (λ (l : Leaf). option_map root_at (find (is_local l.local) ls) ≡ Some (root_at l)) (λ (l : Leaf). test l ≡ true) (λ (l : Leaf). P (id_at ids (0 + rank) l.local)) (holds rank) (filter test ls)
          (all_filter (λ (l : Leaf). option_map root_at (find (is_local l.local) ls) ≡ Some (root_at l)) test ls (forest-findable f right rank)) (filter_passing test ls))
