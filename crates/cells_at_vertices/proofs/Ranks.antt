-- Lists of ranks that grow by one, and vertices that are picked one after another.
use Rattle.std.proofs.Common.{◌≡◌, ℕ, suc, ◌+◌, ◌<◌, List, [], ◌∷◌, ◌++◌, map, length, get_or, Some, refl, sym, ap, ap₂, ◌∙◌, subst, ⊎_elim, length-append, arith}
use Rattle.std.specs.Prelude.{slice_get}
use Rattle.std.proofs.lemmas.Bool.{cases_lt}
use Rattle.std.proofs.lemmas.List.{map-append, get_or_append_left}
use Rattle.std.proofs.Math.Seq.{get_or-append_seam}
use Rattle.plain_lists.specs.Lists.{below}
use Rattle.plex_chart.specs.Chart.{IsPlex}
use Rattle.rank_defs.specs.Spread.{LocalMesh}
use Rattle.cells_at_vertices.specs.declared.counts.VertexCount.{VertexCount}
use Rattle.cells_at_vertices.specs.Own.{closure_counts, AreOwnCounts}
use Rattle.cells_at_vertices.specs.Picked.{picked_at, picked_counts, ArePicked, AreAllPicked}

-- what holds of each of n things, and of one more
each-more : {X : Type 0} (Q : ℕ → X → Type 0) (xs : List X) (x d : X) (n : ℕ) → length xs ≡ n → ((r : ℕ) → r < n → Q r (get_or xs r d)) → Q n x → (r : ℕ) → r < n + 1 → Q r (get_or (xs ++ x ∷ []) r d)
each-more Q xs x d n many old new r low = ⊎_elim
    (λ before. subst (Q r) (sym (get_or_append_left xs (x ∷ []) d r (omega (arith, before, many)))) (old r before))
    (λ after.
    let at : length xs ≡ r = omega (arith, low, after, many) in
    let here : get_or (xs ++ x ∷ []) r d ≡ x = ap (λ k. get_or (xs ++ x ∷ []) k d) (sym at) ∙ get_or-append_seam xs x [] d in
    subst (Q r) (sym here) (subst (λ k. Q k x) (sym many ∙ at) new))
    (cases_lt r n)

-- one more thing
more-many : {X : Type 0} (xs : List X) (x : X) (n : ℕ) → length xs ≡ n → length (xs ++ x ∷ []) ≡ n + 1
more-many xs x n many = length-append xs (x ∷ []) ∙ ap (λ k. k + 1) many

-- the counts of one rank more
pub own-more : (locals : List LocalMesh) (n : ℕ) (l : LocalMesh) (own : List ℕ) (counts : List (List ℕ)) → slice_get locals n ≡ Some l → IsPlex l.diagram → own ≡ closure_counts l.diagram → AreOwnCounts locals n counts → AreOwnCounts locals (n + 1) (counts ++ own ∷ [])
own-more locals n l own counts at plex are h = record {
  many = more-many counts own n h.many;
  whole = λ r k low e. each-more (λ r c. (k : LocalMesh) → slice_get locals r ≡ Some k → IsPlex k.diagram) counts own [] n h.many (λ r low k e. h.whole r k low e) (λ k e. subst (λ (j : LocalMesh). IsPlex j.diagram) (same k e) plex) r low k e;
  each = λ r k low e. each-more (λ r c. (k : LocalMesh) → slice_get locals r ≡ Some k → c ≡ closure_counts k.diagram) counts own [] n h.many (λ r low k e. h.each r k low e) (λ k e. are ∙ ap (λ (j : LocalMesh). closure_counts j.diagram) (same k e)) r low k e;
}
  where
    same : (k : LocalMesh) → slice_get locals n ≡ Some k → l ≡ k
    same k e = cc (sym at ∙ e)

-- the vertices of one rank more
pub picked-more : (locals : List LocalMesh) (words : List (List ℕ)) (n : ℕ) (l : LocalMesh) (own : List VertexCount) (counts : List (List VertexCount)) → slice_get locals n ≡ Some l → own ≡ picked_counts l (get_or words n []) → AreAllPicked locals words n counts → AreAllPicked locals words (n + 1) (counts ++ own ∷ [])
picked-more locals words n l own counts at are h = record {
  many = more-many counts own n h.many;
  each = λ r k low e. each-more (λ r c. (k : LocalMesh) → slice_get locals r ≡ Some k → c ≡ picked_counts k (get_or words r [])) counts own [] n h.many (λ r low k e. h.each r k low e) (λ k e. are ∙ ap (λ (j : LocalMesh). picked_counts j (get_or words n [])) (same k e)) r low k e;
}
  where
    same : (k : LocalMesh) → slice_get locals n ≡ Some k → l ≡ k
    same k e = cc (sym at ∙ e)

-- ---- one rank

-- none yet
pub vertices-none : (l : LocalMesh) (words : List ℕ) (p : ℕ) → p ≡ l.diagram.cells → ArePicked l words p []
vertices-none l words p e = record { next = omega (arith, e); are = refl }

-- one more
pub vertices-more : (l : LocalMesh) (words : List ℕ) (p : ℕ) (v : VertexCount) (counts : List VertexCount) → v ≡ picked_at l words p → ArePicked l words p counts → ArePicked l words (p + 1) (counts ++ v ∷ [])
vertices-more l words p v counts e h = record {
  next = omega (arith, h.next, many);
  are =
      ap₂ (λ xs x. xs ++ x ∷ []) h.are (e ∙ ap (picked_at l words) (sym h.next))
      ∙ (sym (map-append at (below (length counts)) (length counts ∷ []))
      ∙ ap (λ k. map at (below k)) (let s : suc (length counts) ≡ length (counts ++ v ∷ []) = omega (arith, many) in s));
}
  where
    at : ℕ → VertexCount
    at i = picked_at l words (l.diagram.cells + i)

    many : length (counts ++ v ∷ []) ≡ length counts + 1
    many = length-append counts (v ∷ [])

-- all of them
pub vertices-all : (l : LocalMesh) (words : List ℕ) (p : ℕ) (counts : List VertexCount) → p ≡ l.diagram.cells + l.diagram.vertices → ArePicked l words p counts → counts ≡ picked_counts l words
vertices-all l words p counts e h =
    let many : length counts ≡ l.diagram.vertices = omega (arith, e, h.next) in
    h.are ∙ ap (λ k. map (λ i. picked_at l words (l.diagram.cells + i)) (below k)) many
