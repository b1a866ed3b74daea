-- Fields, made point by point.
use Rattle.std.proofs.Common.{◌≡◌, ℕ, ◌+◌, ◌<◌, ◌≤◌, List, [], ◌∷◌, ◌++◌, map, length, get_or, take, drop, suc, sym, ap, ap₂, ◌∙◌, length-append, append_assoc, arith}
use Rattle.std.specs.Prelude.{slice_index, sum}
use Rattle.std.proofs.lemmas.List.{get_or_append_left, map-append, take-append-le, drop-append-le, length-drop, drop_all, take_all, map_more}
use Rattle.std.proofs.lemmas.List.Sums.{sum_by-take-le, sum_by_more}
use Rattle.std.proofs.Math.Seq.{get_or-append_seam, take-append_seam}
use Rattle.plain_lists.specs.Lists.{below}
use Rattle.plain_lists.proofs.Below.{below-all}
use Rattle.plain_lists.proofs.Each.{all_weaker}
use Rattle.plain_lists.proofs.Filters.{map_same}
use Rattle.plex_defs.specs.Fields.{offset, words_at}
use Rattle.plex_section.specs.Words.{words_by}
use Rattle.plex_section.proofs.Words.{words_at-from}

-- what a list made from the numbers below n + 1 has
pub map-below-more : {X : Type 0} (f : ℕ → X) (n : ℕ) → map f (below (n + 1)) ≡ map f (below n) ++ f n ∷ []
map-below-more f n = let next : n + 1 ≡ suc n = omega arith in ap (λ k. map f (below k)) next ∙ map-append f (below n) (n ∷ [])

module _ (dofs words own : List ℕ) (full : length words ≡ sum dofs) where
  -- the words of a point before the last one
  earlier : (n p : ℕ) → p < length dofs → words_at (dofs ++ n ∷ []) (words ++ own) p ≡ words_at dofs words p
  earlier n p low =
      let size : slice_index (dofs ++ n ∷ []) p ≡ slice_index dofs p = get_or_append_left dofs (n ∷ []) 0 p low in
      let start : offset (dofs ++ n ∷ []) p ≡ offset dofs p = ap sum (take-append-le p dofs (n ∷ []) (omega arith)) in
      let end : offset dofs p + slice_index dofs p ≤ length words = omega (arith, full, sum_by_more (λ (k : ℕ). k) dofs p 0 low, sum_by-take-le (λ (k : ℕ). k) dofs (p + 1)) in
      words_at-from (dofs ++ n ∷ []) (words ++ own) p
      ∙ (λ i. take (size i) (drop (start i) (words ++ own)))
      ∙ within (offset dofs p) (slice_index dofs p) words end
      ∙ sym (words_at-from dofs words p)
    where
      within : (start size : ℕ) (xs : List ℕ) → start + size ≤ length xs → take size (drop start (xs ++ own)) ≡ take size (drop start xs)
      within start size xs h = ap (take size) (drop-append-le start xs own (omega arith)) ∙ take-append-le size (drop start xs) own (omega (arith, length-drop start xs))

  -- the words of the last point
  last : (n : ℕ) → n ≡ length own → words_at (dofs ++ n ∷ []) (words ++ own) (length dofs) ≡ own
  last n e =
      let size : slice_index (dofs ++ n ∷ []) (length dofs) ≡ length own = get_or-append_seam dofs n [] 0 ∙ e in
      let start : offset (dofs ++ n ∷ []) (length dofs) ≡ length words = ap sum (take-append_seam dofs (n ∷ [])) ∙ sym full in
      words_at-from (dofs ++ n ∷ []) (words ++ own) (length dofs) ∙ (λ i. take (size i) (drop (start i) (words ++ own)))
      ∙ ap (take (length own)) (drop-append-le (length words) words own (omega arith) ∙ ap (λ l. l ++ own) (drop_all (length words) words (omega arith)))
      ∙ take_all (length own) own (omega arith)

  -- one point more
  pub words_by-push : (n : ℕ) → n ≡ length own → words_by (dofs ++ n ∷ []) (words ++ own) ≡ words_by dofs words ++ own ∷ []
  unfolding words_by
  words_by-push n e =
      ap (λ k. map (words_at (dofs ++ n ∷ []) (words ++ own)) (below k)) (length-append dofs (n ∷ []))
      ∙ map-below-more (words_at (dofs ++ n ∷ []) (words ++ own)) (length dofs)
      ∙ ap₂ (λ l w. l ++ w ∷ []) (map_same (words_at (dofs ++ n ∷ []) (words ++ own)) (words_at dofs words) (below (length dofs)) (all_weaker (λ p. p < length dofs) _ (λ p low. earlier n p low) (below (length dofs)) (below-all (length dofs)))) (last n e)

-- ---- one element more

-- of images
pub map-pushed : {X Y : Type 0} (g : Y → X) (ys : List Y) (i : ℕ) (d : Y) (start now new : List X) (x : X) → i < length ys → x ≡ g (get_or ys i d) → now ≡ start ++ map g (take i ys) → new ≡ now ++ x ∷ [] → new ≡ start ++ map g (take (i + 1) ys)
map-pushed g ys i d start now new x low is before pushed =
    pushed ∙ (λ k. before k ++ is k ∷ []) ∙ append_assoc start (map g (take i ys)) (g (get_or ys i d) ∷ []) ∙ ap (λ l. start ++ l) (sym (map_more g ys i d low))

-- of what is made from numbers below n
pub below-pushed : {X : Type 0} (f : ℕ → X) (n : ℕ) (now new : List X) (x : X) → x ≡ f n → now ≡ map f (below n) → new ≡ now ++ x ∷ [] → new ≡ map f (below (n + 1))
below-pushed f n now new x is before pushed = pushed ∙ (λ k. before k ++ is k ∷ []) ∙ sym (map-below-more f n)
