-- One more slot, and the least id of each name.
use Rattle.std.proofs.Common.{◌≡◌, ℕ, ◌+◌, min, fold, Bool, true, false, ◌==◌, cond, List, [], ◌∷◌, ◌++◌, map, get_or, length, Option, Some, None, refl, ap, sym, ◌∙◌, add-one, arith, append-nil}
use Rattle.std.specs.Prelude.{filter}
use Rattle.std.proofs.lemmas.Bool.{eqb-true, and_parts}
use Rattle.std.proofs.lemmas.List.Elements.{filter-append}
use Rattle.std.proofs.lemmas.List.{map-append}
use Rattle.std.proofs.lemmas.List.Sums.{fold-append}
use Rattle.std.proofs.lemmas.Slice.Eq.{bytes_eq-Decides}
use Rattle.plain_lists.specs.Lists.{below, same_list}
use Rattle.shared_forest.specs.sf_meet.Named.{slot_name, same_name, ids_named, least_of, least_with, least_at}

-- one more number
pub least_of-push : (xs : List ℕ) (x : ℕ) → least_of (xs ++ x ∷ []) ≡ Some (least_with (least_of xs) x)
least_of-push [] x = refl
least_of-push (y ∷ ys) x = ap Some (fold-append min y ys (x ∷ []))

turned : (a x y : ℕ) → min (min a x) y ≡ min a (min x y)
turned a x y = omega arith

first-last : (a x : ℕ) (xs : List ℕ) → fold min (min a x) xs ≡ min (fold min x xs) a
first-last a x [] = omega arith
first-last a x (y ∷ ys) = ap (λ n. fold min n ys) (turned a x y) ∙ first-last a (min x y) ys

-- the least of a number and others
pub fold-least : (a : ℕ) (xs : List ℕ) → fold min a xs ≡ least_with (least_of xs) a
fold-least a [] = refl
fold-least a (x ∷ xs) = first-last a x xs

-- names that are the same are equal
pub name-equal : (a b : ℕ × List ℕ) → same_name a b ≡ true → a ≡ b
name-equal a b h =
    let both = and_parts (a.0 == b.0) (same_list a.1 b.1) h in
    let root = eqb-true a.0 b.0 both.0 in
    let key = (bytes_eq-Decides a.1 b.1).0 both.1 in
    λ i. (root i, key i)

-- the ids of a name among one slot more
pub ids_named-more : (roots firsts seconds ids : List ℕ) (n : ℕ) (name : ℕ × List ℕ) → ids_named roots firsts seconds ids (n + 1) name
    ≡ ids_named roots firsts seconds ids n name ++ cond (same_name (slot_name roots firsts seconds n) name) (get_or ids n 0 ∷ []) []
unfolding ids_named
ids_named-more roots firsts seconds ids n name =
    ap (λ k. map id_of (filter has (below k))) (add-one n)
    ∙ (ap (map id_of) (filter-append has (below n) (n ∷ []))
    ∙ (map-append id_of (filter has (below n)) (filter has (n ∷ []))
    ∙ ap (λ ids. map id_of (filter has (below n)) ++ ids) (lone (has n))))
  where
    id_of : ℕ → ℕ
    id_of s = get_or ids s 0

    has : ℕ → Bool
    has s = same_name (slot_name roots firsts seconds s) name

    lone : (b : Bool) → map id_of (cond b (n ∷ []) []) ≡ cond b (id_of n ∷ []) []
    lone true = refl
    lone false = refl

-- the least of each name among some slots
abbrev pub HasLeast : List ℕ → List ℕ → List ℕ → List ℕ → ℕ → (ℕ × List ℕ → Option ℕ) → Type 0
HasLeast roots firsts seconds ids n table = (name : ℕ × List ℕ) → table name ≡ least_of (ids_named roots firsts seconds ids n name)

-- the next slot is entered
pub least-entered : (roots firsts seconds ids : List ℕ) (n : ℕ) (old new : ℕ × List ℕ → Option ℕ) (least : ℕ) → HasLeast roots firsts seconds ids n old
    → least ≡ least_with (old (slot_name roots firsts seconds n)) (get_or ids n 0)
    → ((name : ℕ × List ℕ) → new name ≡ cond (same_name (slot_name roots firsts seconds n) name) (Some least) (old name))
    → HasLeast roots firsts seconds ids (n + 1) new
least-entered roots firsts seconds ids n old new least has is entered name = entered name ∙ (go (same_name own name) refl ∙ sym (ap least_of (ids_named-more roots firsts seconds ids n name)))
  where
    own : ℕ × List ℕ
    own = slot_name roots firsts seconds n

    there : ℕ × List ℕ → List ℕ
    there other = ids_named roots firsts seconds ids n other

    go : (b : Bool) → same_name own name ≡ b → cond b (Some least) (old name) ≡ least_of (there name ++ cond b (get_or ids n 0 ∷ []) [])
    go true e = ap Some is ∙ (ap (λ o. Some (least_with o (get_or ids n 0))) (has own)
        ∙ (ap (λ other. Some (least_with (least_of (there other)) (get_or ids n 0))) (name-equal own name e)
        ∙ sym (least_of-push (there name) (get_or ids n 0))))
    go false e = has name ∙ ap least_of (sym (append-nil (there name)))

-- no slot, no name
pub least-none : (roots firsts seconds ids : List ℕ) (table : ℕ × List ℕ → Option ℕ) → ((name : ℕ × List ℕ) → table name ≡ None) → HasLeast roots firsts seconds ids 0 table
unfolding ids_named
least-none roots firsts seconds ids table none = none

-- the list of least ids grows by one slot
pub least-more : (roots firsts seconds ids done : List ℕ) (n id : ℕ) (table : ℕ × List ℕ → Option ℕ) → HasLeast roots firsts seconds ids (length ids) table
    → done ≡ map (least_at roots firsts seconds ids) (below n) → id ≡ least_with (table (slot_name roots firsts seconds n)) (get_or ids n 0)
    → done ++ id ∷ [] ≡ map (least_at roots firsts seconds ids) (below (n + 1))
least-more roots firsts seconds ids done n id table has before is =
    (λ i. before i ++ (is ∙ (ap (λ o. least_with o (get_or ids n 0)) (has own) ∙ sym (fold-least (get_or ids n 0) (ids_named roots firsts seconds ids (length ids) own)))) i ∷ [])
    ∙ (sym (map-append (least_at roots firsts seconds ids) (below n) (n ∷ [])) ∙ ap (λ k. map (least_at roots firsts seconds ids) (below k)) (sym (add-one n)))
  where
    own : ℕ × List ℕ
    own = slot_name roots firsts seconds n
