-- What is looked up at a local index, in a forest and in that of its slots.
use Rattle.std.proofs.Common.{◌≡◌, ◌⊎◌, inl, inr, ℕ, zero, suc, ◌+◌, ◌<◌, Bool, true, false, cond, ◌&&◌, ◌==◌, List, [], ◌∷◌, map, length, get_or, Option, Some, None, refl, ap, sym, subst, ◌∙◌, arith}
use Rattle.std.specs.Prelude.{filter, find, option_map, zip}
use Rattle.std.specs.List.{AllByRecursion}
use Rattle.std.proofs.lemmas.Bool.{eq-eqb}
use Rattle.std.proofs.lemmas.List.{length-map}
use Rattle.std.proofs.Math.ListN.{get_or-map}
use Rattle.plain_lists.proofs.Each.{all_in_flat_map}
use Rattle.sf_defs.specs.declared.Leaf.{Leaf}
use Rattle.sf_defs.specs.Forest.{Forest, degree, is_on_root, leaves_on, root_at, root_of}
use Rattle.sf_defs.specs.slots.Slots.{first_slot, slot_leaf, slot_leaves, slotted, drawn_at, own_drawn_at, AreDraws}
use Rattle.sf_ops.specs.Asked.{CoverLeaves}
use Rattle.rank_laws.proofs.Forests.{is_local}
use Rattle.sf_defs.specs.meeting.Meeting.{HaveKeys}
use Rattle.shared_forest.proofs.sf_meet.Ranks.{counts-length}

-- ---- what leaves drew

-- what a leaf drew is below the degree of its root
abbrev IsDrawn : Forest → Leaf × ℕ → Type 0
IsDrawn f x = x.1 < degree f x.0.rank x.0.index

-- of each pair of a leaf and a number, from what each root's leaves drew
pairs-of-rank : (f : Forest) (ls : List Leaf) (ds : List ℕ) → ((root : ℕ × ℕ) → AllByRecursion (λ n. n < degree f root.0 root.1) (own_drawn_at root (ls, ds))) → AllByRecursion (IsDrawn f) (zip ls ds)
pairs-of-rank f [] ds h = tt
pairs-of-rank f (l ∷ ls) [] h = tt
pairs-of-rank f (l ∷ ls) (d ∷ ds) h = (here (is_on_root (root_at l) l) (λ i. eq-eqb l.rank l.rank refl i && eq-eqb l.index l.index refl i) (h (root_at l)), pairs-of-rank f ls ds (λ root. later root (is_on_root root l) (h root)))
  where
    rest : ℕ × ℕ → List (Leaf × ℕ)
    rest root = filter (λ (x : Leaf × ℕ). is_on_root root x.0) (zip ls ds)

    here : (b : Bool) → b ≡ true → AllByRecursion (λ n. n < degree f l.rank l.index) (map (λ (x : Leaf × ℕ). x.1) (cond b ((l, d) ∷ rest (root_at l)) (rest (root_at l)))) → d < degree f l.rank l.index
    here true e a = a.0
    here false e a = absurd (cc e)

    later : (root : ℕ × ℕ) (b : Bool) → AllByRecursion (λ n. n < degree f root.0 root.1) (map (λ (x : Leaf × ℕ). x.1) (cond b ((l, d) ∷ rest root) (rest root))) → AllByRecursion (λ n. n < degree f root.0 root.1) (map (λ (x : Leaf × ℕ). x.1) (rest root))
    later root true a = a.1
    later root false a = a

-- the same of all ranks
abbrev AllDrawn : Forest → List (List Leaf × List ℕ) → Type 0
AllDrawn f rs = AllByRecursion (λ r. AllByRecursion (IsDrawn f) (zip r.0 r.1)) rs

pairs-drawn : (f : Forest) (drawn : List (List ℕ)) → AreDraws f drawn → AllDrawn f (zip f.leaves drawn)
unfolding drawn_at
pairs-drawn f drawn d = go (zip f.leaves drawn) (λ root. all_in_flat_map (λ n. n < degree f root.0 root.1) (own_drawn_at root) (zip f.leaves drawn) (d.within root.0 root.1))
  where
    go : (rs : List (List Leaf × List ℕ)) → ((root : ℕ × ℕ) → AllByRecursion (λ r. AllByRecursion (λ n. n < degree f root.0 root.1) (own_drawn_at root r)) rs) → AllDrawn f rs
    go [] k = tt
    go (r ∷ rs) k = (pairs-of-rank f r.0 r.1 (λ root. (k root).0), go rs (λ root. (k root).1))

-- ---- looking up

-- a root that is looked up, and the slot of it that is
pub record IsOnSlot (f : Forest) (old new : Option (ℕ × ℕ)) : Type 0 where
  pub root : ℕ × ℕ
  pub n : ℕ
  pub rooted : old ≡ Some root
  pub drawn : n < degree f root.0 root.1
  pub slotted : new ≡ Some (root.0, first_slot f root.0 root.1 + n)

-- a slot is looked up exactly where a root is
abbrev pub Follows : Forest → Option (ℕ × ℕ) → Option (ℕ × ℕ) → Type 0
Follows f old new = ((old ≡ None) × (new ≡ None)) ⊎ IsOnSlot f old new

-- among the leaves of a rank
abbrev looked : List Leaf → ℕ → Option (ℕ × ℕ)
looked ls local = option_map root_at (find (is_local local) ls)

own-follows : (f : Forest) (ls : List Leaf) (ds : List ℕ) → length ds ≡ length ls → AllByRecursion (IsDrawn f) (zip ls ds) → (local : ℕ) → Follows f (looked ls local) (looked (slot_leaves f ls ds) local)
own-follows f [] ds size all local = inl (refl, refl)
own-follows f (l ∷ ls) [] size all local = absurd (omega arith)
own-follows f (l ∷ ls) (d ∷ ds) size all local = go (own-follows f ls ds (omega arith) all.1 local) (l.local == local)
  where
    go : Follows f (looked ls local) (looked (slot_leaves f ls ds) local) → (b : Bool) → Follows f (option_map root_at (cond b (Some l) (find (is_local local) ls))) (option_map root_at (cond b (Some (slot_leaf f (l, d))) (find (is_local local) (slot_leaves f ls ds))))
    go rest true = inr record { root = root_at l; n = d; rooted = refl; drawn = all.0; slotted = refl }
    go rest false = rest

-- of each rank
ranks-follow : (f : Forest) (lss : List (List Leaf)) (dss : List (List ℕ)) → map length dss ≡ map length lss → AllDrawn f (zip lss dss) → (rank local : ℕ) → Follows f (looked (get_or lss rank []) local) (looked (get_or (map (λ r. slot_leaves f r.0 r.1) (zip lss dss)) rank []) local)
ranks-follow f [] dss same all rank local = inl (refl, refl)
ranks-follow f (ls ∷ lss) [] same all rank local = absurd (cc same)
ranks-follow f (ls ∷ lss) (ds ∷ dss) same all zero local = own-follows f ls ds (first (length ds) (length ls) (map length dss) (map length lss) same) all.0 local
  where
    first : (x y : ℕ) (xs ys : List ℕ) → x ∷ xs ≡ y ∷ ys → x ≡ y
    first x y xs ys e = cc e
ranks-follow f (ls ∷ lss) (ds ∷ dss) same all (suc k) local = ranks-follow f lss dss (others (length ds) (length ls) (map length dss) (map length lss) same) all.1 k local
  where
    others : (x y : ℕ) (xs ys : List ℕ) → x ∷ xs ≡ y ∷ ys → xs ≡ ys
    others x y xs ys e = cc e

-- of a forest and that of its slots
pub slots-follow : (f : Forest) (drawn : List (List ℕ)) → AreDraws f drawn → (rank local : ℕ) → Follows f (root_of f rank local) (root_of (slotted f drawn) rank local)
unfolding root_of slotted
slots-follow f drawn d rank local = ranks-follow f f.leaves drawn d.shape (pairs-drawn f drawn d) rank local

-- ---- values at leaves

own-covered : (f : Forest) (n : ℕ) (ls : List Leaf) (ds : List ℕ) → AllByRecursion (λ (l : Leaf). l.local < n) ls → AllByRecursion (λ (l : Leaf). l.local < n) (slot_leaves f ls ds)
own-covered f n [] ds h = tt
own-covered f n (l ∷ ls) [] h = tt
own-covered f n (l ∷ ls) (d ∷ ds) h = (h.0, own-covered f n ls ds h.1)

ranks-covered : (f : Forest) (n : ℕ) (lss : List (List Leaf)) (dss : List (List ℕ)) (rank : ℕ) → AllByRecursion (λ (l : Leaf). l.local < n) (get_or lss rank []) → AllByRecursion (λ (l : Leaf). l.local < n) (get_or (map (λ r. slot_leaves f r.0 r.1) (zip lss dss)) rank [])
ranks-covered f n [] dss rank h = tt
ranks-covered f n (ls ∷ lss) [] rank h = tt
ranks-covered f n (ls ∷ lss) (ds ∷ dss) zero h = own-covered f n ls ds h
ranks-covered f n (ls ∷ lss) (ds ∷ dss) (suc k) h = ranks-covered f n lss dss k h

-- what has a value at each leaf has one where its slot's leaf is
pub slots-cover : (f : Forest) (drawn values : List (List ℕ)) → CoverLeaves f values → CoverLeaves (slotted f drawn) values
unfolding slotted
slots-cover f drawn values h = record {
  ranks = h.ranks ∙ sym (counts-length f);
  places = λ rank low. ranks-covered f (length (get_or values rank [])) f.leaves drawn rank (h.places rank (subst (λ n. rank < n) (counts-length f) low));
}

-- a word of each key is a value at each leaf
pub keys-cover : (f : Forest) (keys : List (List (List ℕ))) (which : ℕ) → HaveKeys f keys → CoverLeaves f (map (map (λ key. get_or key which 0)) keys)
keys-cover f keys which h = record {
  ranks = length-map keys (map (λ key. get_or key which 0)) ∙ h.ranks;
  places = λ rank low. subst (λ n. AllByRecursion (λ (l : Leaf). l.local < n) (leaves_on f rank)) (sym (ap length (get_or-map (map (λ (key : List ℕ). get_or key which 0)) keys rank []) ∙ length-map (get_or keys rank []) (λ key. get_or key which 0))) (h.places rank low);
}
