-- What the round and the broadcasts ask for.
use Rattle.std.proofs.Common.{◌≡◌, ℕ, zero, suc, ◌+◌, ◌-◌, ◌*◌, ◌^◌, ◌<◌, ◌≤◌, false, cond, ◌==◌, List, [], ◌∷◌, ◌++◌, map, length, get_or, replicate, sum_by, Option, Some, None, refl, sym, ap, ◌∙◌, subst, ⊎_elim, arith}
use Rattle.std.specs.Prelude.{filter_map, option_map}
use Rattle.std.specs.List.{AllByRecursion, cons_option}
use Rattle.std.proofs.lemmas.Bool.{cases_lt}
use Rattle.std.proofs.lemmas.List.{length-append, length-map, length-replicate, get_or-map, get_or_append_left, get_or-append-add}
use Rattle.std.proofs.lemmas.List.Sums.{sum_by-cons}
use Rattle.plain_lists.specs.Lists.{below, picked}
use Rattle.plain_lists.proofs.Below.{below-all, map-below-length}
use Rattle.plain_lists.proofs.Each.{all_filter, all_flat_map, all_from, all_map, all_weaker}
use Rattle.plain_lists.proofs.Filters.{count_nothing, map_map_same}
use Rattle.rank_chart_laws.proofs.field_laws.Sums.{all-or}
use Rattle.mesh_defs.specs.Mesh.{Cell}
use Rattle.mesh_defs.specs.Points.{Sight}
use Rattle.local_points.specs.Points.{faces_among, edges_among}
use Rattle.sf_defs.specs.declared.Op.TheVariants.{Load, Sum, Min, Replace}
use Rattle.sf_defs.specs.declared.Ask.{Ask}
use Rattle.sf_defs.specs.declared.Leaf.{Leaf}
use Rattle.sf_defs.specs.Forest.{Forest, leaf, leaves_on, root_of}
use Rattle.sf_defs.specs.Rounds.{added, all_asks, asks_on, same_op}
use Rattle.sf_graph.specs.Parts.{IsForRanks}
use Rattle.sf_ops.specs.Asked.{asks_of, words_of, CoverLeaves, MayAsk}
use Rattle.sf_ops.specs.Copies.{value_or, AreCopies}
use Rattle.sf_ops.proofs.Conditions.{all_asked}
use Rattle.rank_defs.specs.Spread.{SharedPart, PlainShared}
use Rattle.dist_state.specs.shared_state.Points.{shared_at}
use Rattle.rank_chart_laws.specs.key_laws.Places.{put, run, part_keys, first_face, face_count, edge_count, AreInside}
use Rattle.rank_chart_laws.specs.key_laws.Words.{part, seen_keys, numbered, word_numbers, leaf_found, leaves_found, word_keys, told_keys, AreAllWords, IsLaidOut, IsWordForest}
use Rattle.rank_chart_laws.proofs.key_laws.Rising.{all-permutation, all-places, run-within}
use Rattle.rank_chart_laws.proofs.key_laws.Puts.{length-put}
use Rattle.orient_iface.proofs.iface_keys.Bounds.{all-put, count-is, entry-long, points-low, shape-from, words-inside, words-short}

-- ---- what may be asked

-- words of lists of low numbers are low
words-low : (bound : ℕ) (xss : List (List ℕ)) → 0 < bound → AllByRecursion (λ xs. (k : ℕ) → get_or xs k 0 < bound) xss → (w : ℕ) → get_or (words_of xss) w 0 < bound
words-low bound [] pos h w = omega (arith, pos)
words-low bound (xs ∷ xss) pos h w = ⊎_elim
    (λ (lt : w < length xs). subst (λ v. v < bound) (sym (get_or_append_left xs (words_of xss) 0 w lt)) (h.0 w))
    (λ (ge : length xs ≤ w). let same : w ≡ length xs + (w - length xs) = omega (arith, ge) in
    subst (λ v. v < bound) (sym (ap (λ k. get_or (xs ++ words_of xss) k 0) same ∙ get_or-append-add xs (words_of xss) (w - length xs) 0)) (words-low bound xss pos h.1 (w - length xs)))
    (cases_lt w (length xs))

-- asks of Min may be asked of any words
pub may-ask : (f : Forest) (values roots : List (List ℕ)) → AllByRecursion (λ own. (k : ℕ) → get_or own k 0 < 2 ^ 64) roots → MayAsk f Min values roots
may-ask f values roots low = record {
  plain_loads = all_weaker (λ (a : Ask). a.op ≡ Min) (λ (a : Ask). a.op ≡ Load → a.value ≡ 0) (λ a e h. let z : Min ≡ Load = sym e ∙ h in absurd (cc z)) (all_asks (asks_of f Min values)) mins;
  one_replace = λ w h. let e = count_nothing (λ (a : Ask). same_op a.op Replace) (asks_on w (asks_of f Min values)) (all_weaker (λ (a : Ask). a.op ≡ Min) (λ (a : Ask). same_op a.op Replace ≡ false) (λ a e. ap (λ o. same_op o Replace) e) (asks_on w (asks_of f Min values)) (on-word w)) in omega (arith, e);
  sums_fit = λ w h. let e = none-added (asks_on w (asks_of f Min values)) (on-word w) in let l = words-low (2 ^ 64) roots (omega arith) low w in omega (arith, e, l);
}
  where
    mins : AllByRecursion (λ (a : Ask). a.op ≡ Min) (all_asks (asks_of f Min values))
    mins = all_flat_map (λ (a : Ask). a.op ≡ Min) (λ (own : List Ask). own) (asks_of f Min values) (all_asked (λ (a : Ask). a.op ≡ Min) (λ (l : Leaf). Unit {0}) f Min values (λ own l u. refl) (all_from (λ (ls : List Leaf). AllByRecursion (λ (l : Leaf). Unit {0}) ls) (λ ls. all_from (λ (l : Leaf). Unit {0}) (λ l. tt) ls) f.leaves))

    on-word : (w : ℕ) → AllByRecursion (λ (a : Ask). a.op ≡ Min) (asks_on w (asks_of f Min values))
    on-word w = all_filter (λ (a : Ask). a.op ≡ Min) (λ (a : Ask). a.word == w) (all_asks (asks_of f Min values)) mins

    none-added : (asks : List Ask) → AllByRecursion (λ (a : Ask). a.op ≡ Min) asks → sum_by added asks ≡ 0
    none-added [] h = refl
    none-added (a ∷ asks) h =
        let first : added a ≡ 0 = ap (λ o. cond (same_op o Sum) a.value 0) h.0 in
        let rest = none-added asks h.1 in
        omega (arith, first, rest, sum_by-cons added a asks)

-- what is given of a run has what each gives
given-all : {X : Type 0} (P : X → Type 0) (f : ℕ → Option X) (is : List ℕ) → AllByRecursion (λ i. (x : X) → f i ≡ Some x → P x) is → AllByRecursion P (filter_map f is)
given-all P f [] h = tt
given-all {X} P f (i ∷ is) h = go (f i) refl (given-all P f is h.1)
  where
    go : (o : Option X) → f i ≡ o → AllByRecursion P (filter_map f is) → AllByRecursion P (cons_option o (filter_map f is))
    go None e r = r
    go (Some x) e r = (h.0 x e, r)

module _ (s : PlainShared) (laid : IsLaidOut s) where
  -- ---- lengths

  seen-count : length (seen_keys s) ≡ length s.parts
  unfolding seen_keys
  seen-count = length-map s.parts part_keys

  -- the leaves that a rank finds are points of it
  found-inside : (r : ℕ) → r < length s.parts → (numbers : List ℕ) → AllByRecursion (λ (l : Leaf). l.local < length (part s r).sets) (leaves_found s r numbers)
  unfolding leaves_found
  found-inside r low numbers = given-all (λ (l : Leaf). l.local < length (part s r).sets) (leaf_found s.forest r numbers) (run (first_face (part s r)) (face_count (part s r) + edge_count (part s r)))
      (all_weaker (λ i. (first_face (part s r) ≤ i) × (i < first_face (part s r) + (face_count (part s r) + edge_count (part s r)))) (λ i. (l : Leaf) → leaf_found s.forest r numbers i ≡ Some l → l.local < length (part s r).sets)
      (λ i w l e. let all = laid.points r low in let same = local-is i l e in omega (arith, w.1, all, same)) (run (first_face (part s r)) (face_count (part s r) + edge_count (part s r))) (run-within (first_face (part s r)) (face_count (part s r) + edge_count (part s r))))
    where
      local-is : (i : ℕ) (l : Leaf) → leaf_found s.forest r numbers i ≡ Some l → l.local ≡ i
      local-is i l e = go (root_of s.forest r i) refl
        where
          local-or : Option Leaf → ℕ
          local-or None = i
          local-or (Some k) = k.local

          go : (o : Option (ℕ × ℕ)) → root_of s.forest r i ≡ o → l.local ≡ i
          go None f = ap local-or (sym e ∙ ap (option_map (λ (root : ℕ × ℕ). leaf i (root.0, get_or numbers i 0))) f)
          go (Some t) f = ap local-or (sym e ∙ ap (option_map (λ (root : ℕ × ℕ). leaf i (root.0, get_or numbers i 0))) f)

  pub keys-long : (r : ℕ) → r < length s.parts → length (part_keys (part s r)) ≡ length (part s r).sets
  unfolding part_keys
  keys-long r low =
      let p : SharedPart = part s r in
      let cells = length-map p.cells (λ (c : ℕ × Cell). 64 * c.0) in
      let faces = length-map (faces_among p.cells) (λ (t : Sight). t.key) in
      let edges = length-map (edges_among p.cells) (λ (t : Sight). t.key) in
      let first = length-append (map (λ (c : ℕ × Cell). 64 * c.0) p.cells) p.vertices in
      let second = length-append (map (λ (c : ℕ × Cell). 64 * c.0) p.cells ++ p.vertices) (map (λ (t : Sight). t.key) (faces_among p.cells)) in
      let third = length-append (map (λ (c : ℕ × Cell). 64 * c.0) p.cells ++ p.vertices ++ map (λ (t : Sight). t.key) (faces_among p.cells)) (map (λ (t : Sight). t.key) (edges_among p.cells)) in
      let all = laid.points r low in
      omega arith

  pub seen-at : (r : ℕ) → r < length s.parts → get_or (seen_keys s) r [] ≡ part_keys (part s r)
  unfolding seen_keys
  seen-at r low = get_or-map part_keys s.parts r (shared_at [] 0) [] low

  pub told-shape : (places least : List (List ℕ)) → map length (told_keys s places least) ≡ s.forest.roots
  unfolding told_keys
  told-shape places least = shape-from s laid (λ r. put (part_keys (part s r)) (get_or places r []) (get_or least r [])) (λ r low. length-put (part_keys (part s r)) (get_or places r []) (get_or least r []) ∙ keys-long r low)

  pub numbers-shape : (places : List (List ℕ)) → map length (word_numbers s places) ≡ s.forest.roots
  unfolding word_numbers
  numbers-shape places = shape-from s laid (numbered s places) (λ r low. length-put (replicate (length (part s r).sets) 0) (get_or places r []) (below (length (get_or places r []))) ∙ length-replicate {A = ℕ} (length (part s r).sets) 0)

  -- values for each point are values for each leaf
  pub covered : (values : List (List ℕ)) → map length values ≡ s.forest.roots → CoverLeaves s.forest values
  covered values shape =
      let long = ap length laid.roots ∙ length-map s.parts (λ (p : SharedPart). length p.sets) in
      record {
        ranks = count-is s laid values shape ∙ sym long;
        places = λ r low. let here : r < length s.parts = omega (arith, low, long) in
            subst (λ k. AllByRecursion (λ (l : Leaf). l.local < k) (leaves_on s.forest r)) (sym (entry-long s laid values shape r here)) (laid.locals r here);
      }

  -- ---- numbers

  module _ (ranks : IsForRanks s.forest) (places : List (List ℕ)) (all : AreAllWords s places) where
    own-numbers-low : (r i : ℕ) → get_or (get_or (word_numbers s places) r []) i 0 < 2 ^ 32
    unfolding word_numbers
    own-numbers-low r i = all-or (λ w. w < 2 ^ 32) (get_or (word_numbers s places) r []) i 0
        (all-or (AllByRecursion (λ w. w < 2 ^ 32)) (word_numbers s places) r []
        (all_map (AllByRecursion (λ w. w < 2 ^ 32)) (numbered s places) (below (length s.parts)) (all_weaker (λ q. q < length s.parts) (λ q. AllByRecursion (λ w. w < 2 ^ 32) (numbered s places q)) (λ q low.
        let few = points-low s laid ranks q low in
        let short = words-short s laid q low (get_or places q []) (all.each q low) in
        all-put (λ w. w < 2 ^ 32) (replicate (length (part s q).sets) 0) (get_or places q []) (below (length (get_or places q [])))
        (zeros (length (part s q).sets))
        (all_weaker (λ k. k < length (get_or places q [])) (λ w. w < 2 ^ 32) (λ k lt. omega (arith, lt, few, short)) (below (length (get_or places q []))) (below-all (length (get_or places q []))))) (below (length s.parts)) (below-all (length s.parts))))
        tt) (omega arith)
      where
        zeros : (n : ℕ) → AllByRecursion (λ w. w < 2 ^ 32) (replicate n 0)
        zeros zero = tt
        zeros (suc n) = (omega arith, zeros n)

    pub numbers-small : (numbers : List (List ℕ)) → AreCopies s.forest (word_numbers s places) (word_numbers s places) numbers → AllByRecursion (AllByRecursion (λ w. w < 2 ^ 32)) numbers
    numbers-small numbers told = all-places (AllByRecursion (λ w. w < 2 ^ 32)) numbers [] (λ r low. all-places (λ w. w < 2 ^ 32) (get_or numbers r []) 0 (λ i lt. subst (λ w. w < 2 ^ 32) (sym (told r i)) (go r i (root_of s.forest r i))))
      where
        go : (r i : ℕ) (o : Option (ℕ × ℕ)) → value_or (word_numbers s places) (get_or (get_or (word_numbers s places) r []) i 0) o < 2 ^ 32
        go r i None = own-numbers-low r i
        go r i (Some root) = own-numbers-low root.0 root.1

    -- ---- the round

    pub keys-inside : AreInside places (seen_keys s)
    unfolding seen_keys
    keys-inside = record {
      ranks = length-map s.parts part_keys ∙ sym all.ranks;
      each = λ r. ⊎_elim
          (λ (low : r < length s.parts). subst (λ k. AllByRecursion (λ p. p < k) (get_or places r [])) (sym (ap length (seen-at r low) ∙ keys-long r low)) (words-inside s laid r low (get_or places r []) (all.each r low)))
          (λ (past : length s.parts ≤ r). subst (AllByRecursion (λ p. p < length (get_or (seen_keys s) r []))) (sym (nothing places r (omega (arith, past, all.ranks)))) tt)
          (cases_lt r (length s.parts));
    }
      where
        nothing : (xss : List (List ℕ)) (k : ℕ) → length xss ≤ k → get_or xss k [] ≡ []
        nothing [] k h = refl
        nothing (xs ∷ xss) zero h = absurd (omega (arith, h))
        nothing (xs ∷ xss) (suc k) h = nothing xss k (omega (arith, h))

    pub words-shape : (keys : List (List ℕ)) → map length (word_keys places keys) ≡ map length places
    words-shape keys = map_map_same length (λ r. picked (get_or keys r []) (get_or places r [])) (λ r. length (get_or places r [])) (below (length places)) (all_from (λ r. length (picked (get_or keys r []) (get_or places r [])) ≡ length (get_or places r [])) (λ r. length-map (get_or places r []) (λ k. get_or (get_or keys r []) k 0)) (below (length places)))
        ∙ map-below-length (λ r. length (get_or places r [])) (length {A = ℕ}) places [] (λ r low. refl)

    pub leaves-covered : (numbers : List (List ℕ)) (f : Forest) → IsWordForest s places numbers f → CoverLeaves f (seen_keys s)
    leaves-covered numbers f made =
        let long = ap length made.roots ∙ (length-map places (length {A = ℕ}) ∙ all.ranks) in
        record {
          ranks = seen-count ∙ sym long;
          places = λ r low. let here : r < length s.parts = omega (arith, low, long) in
              all-permutation (λ (l : Leaf). l.local < length (get_or (seen_keys s) r [])) (leaves_found s r (get_or numbers r [])) (leaves_on f r) (made.same r here)
              (subst (λ k. AllByRecursion (λ (l : Leaf). l.local < k) (leaves_found s r (get_or numbers r []))) (sym (ap length (seen-at r here) ∙ keys-long r here)) (found-inside r here (get_or numbers r [])));
        }
