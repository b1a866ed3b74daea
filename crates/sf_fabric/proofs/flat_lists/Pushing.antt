-- One list more behind those that are cut.
use Rattle.std.proofs.Common.{◌≡◌, ℕ, suc, ◌+◌, ◌-◌, ◌<◌, ◌≤◌, List, [], ◌∷◌, ◌++◌, map, length, get_or, take, drop, refl, sym, ap, ap₂, ◌∙◌, ⊎_elim, arith, length-append}
use Rattle.std.specs.Prelude.{slice_range}
use Rattle.std.proofs.lemmas.Bool.{cases_lt}
use Rattle.std.proofs.lemmas.List.{get_or_append_left, get_or_push, length_push, map-append, take-append-le, drop-append-le, drop_at, take_all, length-drop}
use Rattle.plain_lists.specs.Lists.{below}
use Rattle.plain_lists.proofs.Below.{below-all}
use Rattle.plain_lists.proofs.Each.{all_weaker}
use Rattle.plain_lists.proofs.Filters.{map_same}
use Rattle.sf_fabric.specs.Cut.{cut, part, AreCuts}
use Rattle.sf_fabric.proofs.Cuts.{place-low}

-- nothing is cut at first
pub cut-nothing : {X : Type 0} (zero_place : ℕ) → zero_place ≡ 0 → AreCuts {X = X} [] (zero_place ∷ [])
cut-nothing z is = record { some = omega arith; begins = is; rising = λ k low. absurd (omega (arith, low)); ends = is }

-- a part before the end stays
part-before : {X : Type 0} (items more : List X) (a b : ℕ) → a ≤ b → b ≤ length items → slice_range (items ++ more) a b ≡ slice_range items a b
part-before items more a b le within =
    let left = length-drop a items in
    ap (take (b - a)) (drop-append-le a items more (omega (arith, le, within))) ∙ take-append-le (b - a) (drop a items) more (omega (arith, left, le, within))

-- the part behind the end
part-behind : {X : Type 0} (items more : List X) (a b : ℕ) → a ≡ length items → b ≡ length items + length more → slice_range (items ++ more) a b ≡ more
part-behind items more a b is end = ap (take (b - a)) (drop_at items more a (sym is)) ∙ take_all (b - a) more (omega (arith, is, end))

module _ {X : Type 0} (items : List X) (firsts : List ℕ) (cuts : AreCuts items firsts) (more : List X) (end : ℕ) (ends : end ≡ length (items ++ more)) where
  after : List ℕ
  after = firsts ++ end ∷ []

  ends-at : end ≡ length items + length more
  ends-at = ends ∙ length-append items more

  pub cuts-push : AreCuts (items ++ more) (firsts ++ end ∷ [])
  cuts-push =
      let count = length_push firsts end in
      let some = cuts.some in
      let last = cuts.ends in
      record {
        some = omega (arith, count);
        begins = let here = get_or_append_left firsts (end ∷ []) 0 0 (omega (arith, some)) in let first = cuts.begins in omega (arith, here, first);
        rising = λ k low. ⊎_elim
            (λ within.
            let here = get_or_append_left firsts (end ∷ []) 0 k (omega (arith, within)) in
            let next = get_or_append_left firsts (end ∷ []) 0 (k + 1) within in
            let rise = cuts.rising k within in omega (arith, here, next, rise))
            (λ behind.
            let is : k ≡ length firsts - 1 = omega (arith, low, behind, count, some) in
            let here = get_or_append_left firsts (end ∷ []) 0 k (omega (arith, is, some)) in
            let next = get_or_push firsts end 0 (k + 1) (omega (arith, is, some)) in
            let own = ap (λ j. get_or firsts j 0) is in
            omega (arith, here, next, own, last, ends-at))
            (cases_lt (k + 1) (length firsts));
        ends = let here = get_or_push firsts end 0 (length (firsts ++ end ∷ []) - 1) (omega (arith, count)) in omega (arith, here, ends);
      }

  -- each list that was there, and the new one
  pub cut-push : cut (items ++ more) (firsts ++ end ∷ []) ≡ cut items firsts ++ more ∷ []
  unfolding cut
  cut-push = go (length firsts - 1) refl
    where
      some : 1 ≤ length firsts
      some = cuts.some

      go : (k : ℕ) → length firsts - 1 ≡ k → map (part (items ++ more) (firsts ++ end ∷ [])) (below (length (firsts ++ end ∷ []) - 1)) ≡ map (part items firsts) (below (length firsts - 1)) ++ more ∷ []
      go k is =
          let count : length (firsts ++ end ∷ []) - 1 ≡ suc k = let pushed = length_push firsts end in omega (arith, pushed, is, some) in
          ap (λ n. map (part (items ++ more) (firsts ++ end ∷ [])) (below n)) count
          ∙ map-append (part (items ++ more) (firsts ++ end ∷ [])) (below k) (k ∷ [])
          ∙ ap₂ (λ xs x. xs ++ x ∷ [])
          (map_same (part (items ++ more) (firsts ++ end ∷ [])) (part items firsts) (below k)
          (all_weaker (λ j. j < k) (λ j. part (items ++ more) (firsts ++ end ∷ []) j ≡ part items firsts j)
          (λ j low.
          let here = get_or_append_left firsts (end ∷ []) 0 j (omega (arith, low, is, some)) in
          let next = get_or_append_left firsts (end ∷ []) 0 (j + 1) (omega (arith, low, is, some)) in
          ap₂ (slice_range (items ++ more)) here next ∙ part-before items more (get_or firsts j 0) (get_or firsts (j + 1) 0) (cuts.rising j (omega (arith, low, is, some))) (place-low items firsts cuts (j + 1) (omega (arith, low, is, some))))
          (below k) (below-all k)))
          (let here = get_or_append_left firsts (end ∷ []) 0 k (omega (arith, is, some)) in
          let own = ap (λ j. get_or firsts j 0) (sym is) in
          let next = get_or_push firsts end 0 (k + 1) (omega (arith, is, some)) in
          part-behind items more (get_or (firsts ++ end ∷ []) k 0) (get_or (firsts ++ end ∷ []) (k + 1) 0) (let last = cuts.ends in omega (arith, here, own, last)) (omega (arith, next, ends-at)))
          ∙ ap (λ n. map (part items firsts) (below n) ++ more ∷ []) (sym is)
