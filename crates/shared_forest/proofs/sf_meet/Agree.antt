-- At its slot each leaf gets the least id of those that meet it.
use Rattle.std.proofs.Common.{◌≡◌, ℕ, zero, suc, ◌+◌, ◌<◌, min, Bool, true, ◌&&◌, ◌==◌, List, [], ◌∷◌, fold, map, length, get_or, Option, Some, None, refl, ap, sym, subst, ◌∙◌, ⊎_elim, arith}
use Rattle.std.specs.Prelude.{filter, find, option_map}
use Rattle.std.specs.List.{list_any, AllByRecursion}
use Rattle.std.proofs.lemmas.Bool.{eq-eqb, eqb-true}
use Rattle.std.proofs.lemmas.List.{length-map}
use Rattle.std.proofs.lemmas.Slice.Eq.{bytes_eq-Decides}
use Rattle.plain_lists.specs.Lists.{below, same_list}
use Rattle.plain_lists.proofs.Below.{below-all, at-below, get_or-map-below, length-below}
use Rattle.plain_lists.proofs.Each.{all_at, all_both, all_filter, all_map}
use Rattle.plain_lists.proofs.Filters.{filter_passing}
use Rattle.plain_lists.proofs.Finding.{any_filter, any_map, find-has, find-passes, stands}
use Rattle.sf_defs.specs.declared.Leaf.{Leaf}
use Rattle.sf_defs.specs.Forest.{Forest, IsForest, degree, leaf_of, leaves_on, root_at, root_of, roots_on}
use Rattle.sf_defs.specs.slots.Slots.{first_slot, slot_counts, slotted, Slots, AreSlotsOf, HasLoneLeaves}
use Rattle.sf_graph.specs.Parts.{IsForRanks}
use Rattle.sf_ops.specs.Asked.{AreRootValues, CoverLeaves}
use Rattle.sf_ops.specs.Copies.{value_or, AreCopies}
use Rattle.sf_ops.specs.slots.Gathered.{gathered}
use Rattle.rank_laws.proofs.Forests.{is_local}
use Rattle.rank_laws.proofs.Inverting.{forest-findable, leaf-found, leaf-looks_up, root-there}
use Rattle.sf_defs.specs.meeting.Meeting.{key_at, id_at, ids_meeting, least_meeting, met_id, met_on, AreMet, HaveKeys}
use Rattle.rank_laws.proofs.meet_laws.Leasts.{StandIn, least-same}
use Rattle.rank_laws.proofs.meet_laws.Meetings.{meeting-has, meeting-all}
use Rattle.shared_forest.specs.sf_meet.Named.{slot_name, same_name, ids_named, least_at}
use Rattle.shared_forest.specs.sf_meet.SlotRoots.{AreLeast}
use Rattle.shared_forest.proofs.sf_meet.Names.{name-equal}
use Rattle.shared_forest.proofs.sf_meet.Ranks.{counts-length}
use Rattle.shared_forest.proofs.sf_meet.Lone.{leaf-on-lone}
use Rattle.shared_forest.proofs.sf_meet.Slotted.{Follows, IsOnSlot, slots-cover, slots-follow}
use Rattle.shared_forest.proofs.sf_meet.SlotWords.{gathered-at, gathered-length, gathered-shape, key-word, two-words}

-- a number of a list above another one stands at a place of it
in-list : (xs : List ℕ) (k n : ℕ) → n < get_or xs k 0 → k < length xs
in-list [] k n h = absurd (omega arith)
in-list (x ∷ xs) zero n h = omega arith
in-list (x ∷ xs) (suc k) n h = let r = in-list xs k n h in omega arith

-- leaves with their keys and ids, slots for them, and the words that the slots got
pub record AreGathered (f m : Forest) (keys : List (List (List ℕ))) (ids firsts seconds own : List (List ℕ)) : Type 0 where
  pub right : IsForest f
  pub ranks : length f.leaves ≡ length f.roots
  pub keyed : HaveKeys f keys
  pub pairs : AllByRecursion (AllByRecursion (λ key. length key ≡ 2)) keys
  pub slot_right : IsForest m
  pub lone : HasLoneLeaves m
  pub follow : (rank local : ℕ) → Follows f (root_of f rank local) (root_of m rank local)
  pub first_words : firsts ≡ gathered m (map (map (λ key. get_or key 0 0)) keys)
  pub second_words : seconds ≡ gathered m (map (map (λ key. get_or key 1 0)) keys)
  pub own_ids : own ≡ gathered m ids

-- the slot of a leaf, and its words
pub record HasSlot (f m : Forest) (keys : List (List (List ℕ))) (ids firsts seconds own : List (List ℕ)) (rank local : ℕ) (root : ℕ × ℕ) : Type 0 where
  pub slot : ℕ
  pub n : ℕ
  pub drawn : n < degree f root.0 root.1
  pub is : slot ≡ first_slot f root.0 root.1 + n
  pub inside : slot < roots_on m root.0
  pub looked : root_of m rank local ≡ Some (root.0, slot)
  pub first : get_or (get_or firsts root.0 []) slot 0 ≡ get_or (key_at keys rank local) 0 0
  pub second : get_or (get_or seconds root.0 []) slot 0 ≡ get_or (key_at keys rank local) 1 0
  pub id : get_or (get_or own root.0 []) slot 0 ≡ id_at ids rank local

module _ (f m : Forest) (keys : List (List (List ℕ))) (ids firsts seconds own : List (List ℕ)) (given : AreGathered f m keys ids firsts seconds own) where
  abbrev Slot : ℕ → ℕ → ℕ × ℕ → Type 0
  Slot rank local root = HasSlot f m keys ids firsts seconds own rank local root

  -- each leaf has its slot
  slot-of-leaf : (rank local : ℕ) (root : ℕ × ℕ) → root_of f rank local ≡ Some root → Slot rank local root
  slot-of-leaf rank local root e = ⊎_elim (λ (none : (root_of f rank local ≡ None) × (root_of m rank local ≡ None)). absurd (cc (sym none.0 ∙ e))) found (given.follow rank local)
    where
      found : IsOnSlot f (root_of f rank local) (root_of m rank local) → Slot rank local root
      found on =
          let same : on.root ≡ root = cc (sym on.rooted ∙ e) in
          let drawn : on.n < degree f root.0 root.1 = subst (λ (r : ℕ × ℕ). on.n < degree f r.0 r.1) same on.drawn in
          let slot = first_slot f root.0 root.1 + on.n in
          let look : root_of m rank local ≡ Some (root.0, slot) = on.slotted ∙ ap (λ (r : ℕ × ℕ). Some (r.0, first_slot f r.0 r.1 + on.n)) same in
          let inside : slot < roots_on m root.0 = root-there m given.slot_right rank local (root.0, slot) look in
          let lone = given.lone root.0 slot inside in
          let leaf : leaf_of m root.0 slot ≡ Some (rank, local) = leaf-found m rank local (root.0, slot) (omega arith) look in
          record {
            slot = slot;
            n = on.n;
            drawn = drawn;
            is = refl;
            inside = inside;
            looked = look;
            first = ap (λ (ws : List (List ℕ)). get_or (get_or ws root.0 []) slot 0) given.first_words ∙ (gathered-at m (map (map (λ key. get_or key 0 0)) keys) root.0 slot (rank, local) inside leaf ∙ key-word keys 0 rank local);
            second = ap (λ (ws : List (List ℕ)). get_or (get_or ws root.0 []) slot 0) given.second_words ∙ (gathered-at m (map (map (λ key. get_or key 1 0)) keys) root.0 slot (rank, local) inside leaf ∙ key-word keys 1 rank local);
            id = ap (λ (ws : List (List ℕ)). get_or (get_or ws root.0 []) slot 0) given.own_ids ∙ gathered-at m ids root.0 slot (rank, local) inside leaf;
          }

  -- its root is there
  root-inside : (rank local : ℕ) (root : ℕ × ℕ) → root_of f rank local ≡ Some root → root.1 < roots_on f root.0
  root-inside rank local root e = root-there f given.right rank local root e

  -- each slot has its leaf
  pub record HasLeaf (rank slot : ℕ) : Type 0 where
    pub by : ℕ
    pub local : ℕ
    pub index : ℕ
    pub rooted : root_of f by local ≡ Some (rank, index)
    pub has : Slot by local (rank, index)
    pub is : has.slot ≡ slot

  leaf-of-slot : (rank slot : ℕ) → slot < roots_on m rank → HasLeaf rank slot
  leaf-of-slot rank slot inside =
      let (x, leaf) = leaf-on-lone m rank slot (given.lone rank slot inside) in
      let look : root_of m x.0 x.1 ≡ Some (rank, slot) = leaf-looks_up m (forest-findable m given.slot_right) rank slot x leaf in
      ⊎_elim (λ (none : (root_of f x.0 x.1 ≡ None) × (root_of m x.0 x.1 ≡ None)). absurd (cc (sym none.1 ∙ look))) (found x look) (given.follow x.0 x.1)
    where
      found : (x : ℕ × ℕ) → root_of m x.0 x.1 ≡ Some (rank, slot) → IsOnSlot f (root_of f x.0 x.1) (root_of m x.0 x.1) → HasLeaf rank slot
      found x look on =
          let there : on.root.0 ≡ rank = ap (λ (r : ℕ × ℕ). r.0) (let e : (on.root.0, first_slot f on.root.0 on.root.1 + on.n) ≡ (rank, slot) = cc (sym on.slotted ∙ look) in e) in
          let rooted : root_of f x.0 x.1 ≡ Some (rank, on.root.1) = on.rooted ∙ ap (λ r. Some (r, on.root.1)) there in
          let has = slot-of-leaf x.0 x.1 (rank, on.root.1) rooted in
          record { by = x.0; local = x.1; index = on.root.1; rooted = rooted; has = has; is = ap (λ (r : ℕ × ℕ). r.1) (let e : (rank, has.slot) ≡ (rank, slot) = cc (sym has.looked ∙ look) in e) }

  -- the key of a leaf has two words
  leaf-key : (rank local : ℕ) (root : ℕ × ℕ) → root_of f rank local ≡ Some root → length (key_at keys rank local) ≡ 2
  unfolding root_of
  leaf-key rank local root e = go (find (is_local local) (leaves_on f rank)) refl e
    where
      some-leaf : (lss : List (List Leaf)) (k : ℕ) (l : Leaf) → find (is_local local) (get_or lss k []) ≡ Some l → k < length lss
      some-leaf [] k l h = absurd (cc h)
      some-leaf (ls ∷ lss) zero l h = omega arith
      some-leaf (ls ∷ lss) (suc k) l h = let r = some-leaf lss k l h in omega arith

      go : (o : Option Leaf) → find (is_local local) (leaves_on f rank) ≡ o → option_map root_at o ≡ Some root → length (key_at keys rank local) ≡ 2
      go None g x = absurd (cc x)
      go (Some l) g x =
          let low = some-leaf f.leaves rank l g in
          let ranks = given.ranks in
          let keyed = given.keyed.ranks in
          let at : l.local ≡ local = eqb-true l.local local (find-passes (is_local local) (leaves_on f rank) l g) in
          let place : l.local < length (get_or keys rank []) = find-has (λ (y : Leaf). y.local < length (get_or keys rank [])) (is_local local) (leaves_on f rank) l (given.keyed.places rank (omega arith)) g in
          all_at (λ key. length key ≡ 2) (get_or keys rank []) local [] (all_at (AllByRecursion (λ key. length key ≡ 2)) keys rank [] given.pairs (omega arith)) (omega arith)

  -- ---- one rank

  module _ (rank : ℕ) (least : List ℕ) (found : AreLeast f rank (get_or firsts rank []) (get_or seconds rank []) (get_or own rank []) least) where
    abbrev name-of : ℕ → ℕ × List ℕ
    name-of s = slot_name found.roots (get_or firsts rank []) (get_or seconds rank []) s

    abbrev id-of : ℕ → ℕ
    id-of s = get_or (get_or own rank []) s 0

    -- the name of a leaf's slot
    name-is : (by local index : ℕ) → root_of f by local ≡ Some (rank, index) → (has : Slot by local (rank, index)) → name-of has.slot ≡ (index, key_at keys by local)
    name-is by local index e has =
        let root : get_or found.roots has.slot 0 ≡ index = ap (λ s. get_or found.roots s 0) has.is ∙ found.stand.each index has.n (root-inside by local (rank, index) e) has.drawn in
        let key = (λ i. has.first i ∷ has.second i ∷ []) ∙ two-words (key_at keys by local) (leaf-key by local (rank, index) e) in
        λ i. (root i, key i)

    -- how many slots it has
    size : length (get_or own rank []) ≡ roots_on m rank
    size = ap (λ (ws : List (List ℕ)). length (get_or ws rank [])) given.own_ids ∙ gathered-length m ids rank

    -- the slots with the name of a leaf have the ids that meet it
    named-meet : (index : ℕ) (key : List ℕ) (n : ℕ) → n ≡ roots_on m rank → StandIn (ids_named found.roots (get_or firsts rank []) (get_or seconds rank []) (get_or own rank []) n (index, key)) (ids_meeting f keys ids (rank, index) key)
    unfolding ids_named
    named-meet index key n count = all_map Met id-of (filter has (below n)) (all_both (λ s. s < n) (λ s. has s ≡ true) (λ s. Met (id-of s)) one (filter has (below n)) (all_filter (λ s. s < n) has (below n) (below-all n)) (filter_passing has (below n)))
      where
        Met : ℕ → Type 0
        Met x = list_any (λ y. y == x) (ids_meeting f keys ids (rank, index) key) ≡ true

        has : ℕ → Bool
        has s = same_name (name-of s) (index, key)

        one : (s : ℕ) → s < n → has s ≡ true → Met (id-of s)
        one s low same =
            let leaf = leaf-of-slot rank s (omega arith) in
            let named : (leaf.index, key_at keys leaf.by leaf.local) ≡ (index, key) = sym (ap name-of (sym leaf.is) ∙ name-is leaf.by leaf.local leaf.index leaf.rooted leaf.has) ∙ name-equal (name-of s) (index, key) same in
            let there : root_of f leaf.by leaf.local ≡ Some (rank, index) = leaf.rooted ∙ ap (λ (x : ℕ × List ℕ). Some (rank, x.0)) named in
            let keyed : same_list (key_at keys leaf.by leaf.local) key ≡ true = (bytes_eq-Decides (key_at keys leaf.by leaf.local) key).1 (ap (λ (x : ℕ × List ℕ). x.1) named) in
            let id : id-of s ≡ id_at ids leaf.by leaf.local = ap id-of (sym leaf.is) ∙ leaf.has.id in
            subst Met (sym id) (meeting-has f keys ids (rank, index) key leaf.by leaf.local there keyed)

    -- and those that meet it are the ids of such slots
    meet-named : (index : ℕ) (key : List ℕ) (n : ℕ) → n ≡ roots_on m rank → StandIn (ids_meeting f keys ids (rank, index) key) (ids_named found.roots (get_or firsts rank []) (get_or seconds rank []) (get_or own rank []) n (index, key))
    unfolding ids_named
    meet-named index key n count = meeting-all f keys ids (rank, index) key given.right (λ x. list_any (λ y. y == x) (map id-of (filter has (below n))) ≡ true) one
      where
        has : ℕ → Bool
        has s = same_name (name-of s) (index, key)

        one : (by local : ℕ) → root_of f by local ≡ Some (rank, index) → same_list (key_at keys by local) key ≡ true → list_any (λ y. y == id_at ids by local) (map id-of (filter has (below n))) ≡ true
        one by local e same =
            let slot = slot-of-leaf by local (rank, index) e in
            let inside = slot.inside in
            let name = name-is by local index e slot in
            let named : has slot.slot ≡ true = ap (λ (x : ℕ × List ℕ). same_name x (index, key)) name ∙ (λ i. eq-eqb index index refl i && same i) in
            let test : ℕ → Bool = λ s. has s && (id-of s == id_at ids by local) in
            any_map (λ y. y == id_at ids by local) id-of (filter has (below n))
            ∙ (any_filter (λ s. id-of s == id_at ids by local) has (below n)
            ∙ at-below (λ s. (p : ℕ → Bool) → p s ≡ true → list_any p (below n) ≡ true) n (stands (below n)) slot.slot (omega arith) test (λ i. named i && eq-eqb (id-of slot.slot) (id_at ids by local) slot.id i))

    -- what a leaf's slot gets
    pub least-there : (by local index : ℕ) → root_of f by local ≡ Some (rank, index) → (slot : ℕ) → root_of m by local ≡ Some (rank, slot) → get_or least slot 0 ≡ least_meeting f keys ids by local (rank, index)
    least-there by local index e slot look =
        let has = slot-of-leaf by local (rank, index) e in
        let inside = has.inside in
        let at : has.slot ≡ slot = ap (λ (r : ℕ × ℕ). r.1) (let same : (rank, has.slot) ≡ (rank, slot) = cc (sym has.looked ∙ look) in same) in
        let key = key_at keys by local in
        let count = length (get_or own rank []) in
        let ids-of = λ (name : ℕ × List ℕ). ids_named found.roots (get_or firsts rank []) (get_or seconds rank []) (get_or own rank []) count name in
        ap (λ (xs : List ℕ). get_or xs slot 0) found.least
        ∙ (ap (λ s. get_or (map (least_at found.roots (get_or firsts rank []) (get_or seconds rank []) (get_or own rank [])) (below count)) s 0) (sym at)
        ∙ (get_or-map-below (least_at found.roots (get_or firsts rank []) (get_or seconds rank []) (get_or own rank [])) count has.slot 0 (let n = size in omega arith)
        ∙ ((λ i. fold min (has.id i) (ids-of (name-is by local index e has i)))
        ∙ least-same (id_at ids by local) (ids-of (index, key)) (ids_meeting f keys ids (rank, index) key) (named-meet index key count size) (meet-named index key count size))))

  -- ---- all ranks

  -- what the places of leaves get from their slots
  pub met-each : (least met : List (List ℕ)) → ((rank : ℕ) → rank < length f.roots → AreLeast f rank (get_or firsts rank []) (get_or seconds rank []) (get_or own rank []) (get_or least rank [])) → AreCopies m least ids met → (rank local : ℕ) → id_at met rank local ≡ met_id f keys ids rank local
  met-each least met found copies rank local = copies rank local ∙ ⊎_elim
      (λ (none : (root_of f rank local ≡ None) × (root_of m rank local ≡ None)). ap (value_or least (id_at ids rank local)) none.1 ∙ sym (ap (met_on f keys ids rank local) none.0))
      (λ (on : IsOnSlot f (root_of f rank local) (root_of m rank local)).
      let low : on.root.0 < length f.roots = in-list f.roots on.root.0 on.root.1 (root-inside rank local on.root on.rooted) in
      ap (value_or least (id_at ids rank local)) on.slotted
      ∙ (least-there on.root.0 (get_or least on.root.0 []) (found on.root.0 low) rank local on.root.1 on.rooted (first_slot f on.root.0 on.root.1 + on.n) on.slotted
      ∙ sym (ap (met_on f keys ids rank local) on.rooted)))
      (given.follow rank local)

-- ---- of slots that were drawn

pub slots-covered : (f : Forest) (s : Slots) (values : List (List ℕ)) → AreSlotsOf f s → CoverLeaves f values → CoverLeaves s.forest values
slots-covered f s values are h = subst (λ m. CoverLeaves m values) (sym are.forest) (slots-cover f are.drawn values h)

-- the roots are the slots
slot-roots : (f : Forest) (s : Slots) → AreSlotsOf f s → s.forest.roots ≡ slot_counts f
unfolding slotted
slot-roots f s are = ap (λ (m : Forest). m.roots) are.forest

pub words-counted : (f : Forest) (s : Slots) (values words : List (List ℕ)) → AreSlotsOf f s → words ≡ gathered s.forest values → map length words ≡ slot_counts f
words-counted f s values words are is = ap (map length) is ∙ (gathered-shape s.forest values ∙ slot-roots f s are)

-- lists with these lengths
lengths-same : (xss : List (List ℕ)) (ns : List ℕ) → length xss ≡ length ns → ((k : ℕ) → k < length ns → length (get_or xss k []) ≡ get_or ns k 0) → map length xss ≡ ns
lengths-same [] [] size each = refl
lengths-same [] (n ∷ ns) size each = absurd (omega arith)
lengths-same (xs ∷ xss) [] size each = absurd (omega arith)
lengths-same (xs ∷ xss) (n ∷ ns) size each = λ i. each 0 (omega arith) i ∷ lengths-same xss ns (omega arith) (λ k low. each (suc k) (omega arith)) i

-- a least id for each slot
pub least-counted : (f : Forest) (s : Slots) (ids firsts seconds own least : List (List ℕ)) → AreSlotsOf f s → own ≡ gathered s.forest ids → length least ≡ length f.roots
    → ((rank : ℕ) → rank < length f.roots → AreLeast f rank (get_or firsts rank []) (get_or seconds rank []) (get_or own rank []) (get_or least rank [])) → AreRootValues s.forest least
least-counted f s ids firsts seconds own least are is size each = lengths-same least s.forest.roots (size ∙ sym ranks) (λ k low. of-rank k (each k (subst (λ n. k < n) ranks low)))
  where
    ranks : length s.forest.roots ≡ length f.roots
    ranks = ap length (slot-roots f s are) ∙ counts-length f

    of-rank : (k : ℕ) → AreLeast f k (get_or firsts k []) (get_or seconds k []) (get_or own k []) (get_or least k []) → length (get_or least k []) ≡ roots_on s.forest k
    of-rank k found = ap length found.least
        ∙ (length-map (below (length (get_or own k []))) (least_at found.roots (get_or firsts k []) (get_or seconds k []) (get_or own k []))
        ∙ (length-below (length (get_or own k [])) ∙ (ap (λ (ws : List (List ℕ)). length (get_or ws k [])) is ∙ gathered-length s.forest ids k)))

-- each leaf gets the least id of those that meet it
pub leaves-met : (f : Forest) (s : Slots) (keys : List (List (List ℕ))) (ids firsts seconds own least met : List (List ℕ)) → AreSlotsOf f s → IsForest f → IsForRanks f → HaveKeys f keys → AllByRecursion (AllByRecursion (λ key. length key ≡ 2)) keys → IsForest s.forest → HasLoneLeaves s.forest
    → firsts ≡ gathered s.forest (map (map (λ key. get_or key 0 0)) keys) → seconds ≡ gathered s.forest (map (map (λ key. get_or key 1 0)) keys) → own ≡ gathered s.forest ids
    → ((rank : ℕ) → rank < length f.roots → AreLeast f rank (get_or firsts rank []) (get_or seconds rank []) (get_or own rank []) (get_or least rank []))
    → AreCopies s.forest least ids met → map length met ≡ map length ids → AreMet f keys ids met
leaves-met f s keys ids firsts seconds own least met are right ranks keyed pairs slot_right lone first second id found copies shape = record {
  shape = shape;
  each = met-each f s.forest keys ids firsts seconds own
      record {
        right = right;
        ranks = ranks.ranks;
        keyed = keyed;
        pairs = pairs;
        slot_right = slot_right;
        lone = lone;
        follow = λ rank local. subst (λ m. Follows f (root_of f rank local) (root_of m rank local)) (sym are.forest) (slots-follow f are.drawn are.draws rank local);
        first_words = first;
        second_words = second;
        own_ids = id;
      }
      least met found copies;
}
