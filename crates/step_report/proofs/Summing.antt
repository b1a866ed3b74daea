-- Sums, one point or one rank more.
use Rattle.std.proofs.Common.{◌≡◌, ℕ, ◌+◌, ◌<◌, Bool, true, false, List, [], ◌∷◌, ◌++◌, length, get_or, map, take, drop, fold, ℤ, pos, ◌+ℤ◌, Result, Ok, Err, refl, sym, ap, ◌∙◌, append_assoc, append-nil, length-append, arith}
use Rattle.std.specs.Prelude.{filter, flat_map, count_by, IfOk}
use Rattle.std.proofs.lemmas.Bool.{cond-true, cond-false}
use Rattle.std.proofs.lemmas.List.{take_more, map-append, get_or-drop}
use Rattle.std.proofs.lemmas.List.Sums.{fold-append}
use Rattle.std.proofs.lemmas.List.Concat.{flat_map-append}
use Rattle.plain_lists.specs.Lists.{below}
use Rattle.plain_lists.proofs.Filters.{count-append}
use Rattle.headline_defs.specs.Lines.{sum_line}
use Rattle.rank_defs.specs.Spread.{LocalMesh, PlainDist}
use Rattle.walk_defs.specs.step_defs.Words.{signed_of}
use Rattle.walk_defs.specs.step_defs.Points.{covers_of}
use Rattle.walk_defs.specs.step_defs.Steps.{own, words_in, coordinates_at, of_owned, ranks_of, plain_sums}
use Rattle.report.specs.declared.report_lines.steps.Sums.{Sums}
use Rattle.step_report.specs.Conditions.{no_local, local_at}
use Rattle.step_report.specs.Counts.{is_of, owned_before, over_first}
use Rattle.step_report.specs.Sums.{is_back, data_of, dofs_of, AddsPoint, so_far, AreSums}
use Rattle.step_report.proofs.Going.{below-more, texts-by_places}
use Rattle.step_report.proofs.Placing.{passing-more, count-shown, count-hidden}
use Rattle.step_report.proofs.Counting.{over-more, over-all}

pub if-ok : {A E : Type 0} {P Q : A → Type 0} (r : Result A E) → ((x : A) → P x → Q x) → IfOk r P → IfOk r Q
if-ok (Ok x) f h = f x h
if-ok (Err e) f h = h

-- ---- fields

words-more : (fields : List (List (List ℕ))) (i p : ℕ) → i < length fields → words_in (take (i + 1) fields) p ≡ words_in (take i fields) p ++ get_or (get_or fields i []) p []
words-more fields i p lt =
    let g : List (List ℕ) → List ℕ = λ f. get_or f p [] in
    ap (flat_map g) (take_more fields i [] lt) ∙ flat_map-append g (take i fields) (get_or fields i [] ∷ []) ∙ ap (λ (t : List ℕ). flat_map g (take i fields) ++ t) (append-nil (g (get_or fields i [])))

pub data-more : (sum : ℤ) (fields : List (List (List ℕ))) (i p : ℕ) → i < length fields
    → fold ◌+ℤ◌ sum (map signed_of (words_in (take (i + 1) fields) p)) ≡ fold ◌+ℤ◌ (fold ◌+ℤ◌ sum (map signed_of (words_in (take i fields) p))) (map signed_of (get_or (get_or fields i []) p []))
data-more sum fields i p lt =
    ap (λ (w : List ℕ). fold ◌+ℤ◌ sum (map signed_of w)) (words-more fields i p lt) ∙ ap (λ (w : List ℤ). fold ◌+ℤ◌ sum w) (map-append signed_of (words_in (take i fields) p) (get_or (get_or fields i []) p []))
    ∙ fold-append ◌+ℤ◌ sum (map signed_of (words_in (take i fields) p)) (map signed_of (get_or (get_or fields i []) p []))

pub dofs-more : (sum : ℕ) (fields : List (List (List ℕ))) (s i p : ℕ) → i < length (drop s fields)
    → fold ◌+◌ sum (words_in (take (i + 1) (drop s fields)) p) ≡ fold ◌+◌ (fold ◌+◌ sum (words_in (take i (drop s fields)) p)) (get_or (get_or fields (s + i) []) p [])
dofs-more sum fields s i p lt =
    ap (λ (w : List ℕ). fold ◌+◌ sum w) (words-more (drop s fields) i p lt) ∙ fold-append ◌+◌ sum (words_in (take i (drop s fields)) p) (get_or (get_or (drop s fields) i []) p [])
    ∙ ap (λ (f : List (List ℕ)). fold ◌+◌ (fold ◌+◌ sum (words_in (take i (drop s fields)) p)) (get_or f p [])) (get_or-drop s fields i [])

-- ---- what there is so far

module _ {X : Type 0} (d : PlainDist) (values : LocalMesh → ℕ → List X) (k : ℕ) where
  pub so_far-point : (p : ℕ) → is_of (local_at d k) k p ≡ true → so_far d values k (p + 1) ≡ so_far d values k p ++ values (local_at d k) p
  so_far-point p h =
      let s : ℕ → Bool = is_of (local_at d k) k in
      let v : ℕ → List X = values (local_at d k) in
      let first : List X = flat_map (λ r. flat_map (values (local_at d r)) (own (r, local_at d r))) (below k) in
      let one : filter s (below (p + 1)) ≡ filter s (below p) ++ p ∷ [] = passing-more s p ∙ ap (λ (t : List ℕ). filter s (below p) ++ t) (cond-true (s p) (p ∷ []) [] h) in
      ap (λ (t : List ℕ). first ++ flat_map v t) one ∙ ap (λ (t : List X). first ++ t) (flat_map-append v (filter s (below p)) (p ∷ []) ∙ ap (λ (t : List X). flat_map v (filter s (below p)) ++ t) (append-nil (v p)))
      ∙ sym (append_assoc first (flat_map v (filter s (below p))) (v p))

  pub so_far-other : (p : ℕ) → is_of (local_at d k) k p ≡ false → so_far d values k (p + 1) ≡ so_far d values k p
  so_far-other p h =
      let s : ℕ → Bool = is_of (local_at d k) k in
      let first : List X = flat_map (λ r. flat_map (values (local_at d r)) (own (r, local_at d r))) (below k) in
      let none : filter s (below (p + 1)) ≡ filter s (below p) = passing-more s p ∙ ap (λ (t : List ℕ). filter s (below p) ++ t) (cond-false (s p) (p ∷ []) [] h) ∙ append-nil (filter s (below p)) in
      ap (λ (t : List ℕ). first ++ flat_map (values (local_at d k)) t) none

  pub so_far-rank : so_far d values (k + 1) 0 ≡ so_far d values k (length (local_at d k).diagram.points)
  so_far-rank =
      let all : ℕ → List X = λ r. flat_map (values (local_at d r)) (own (r, local_at d r)) in
      append-nil (flat_map all (below (k + 1))) ∙ below-more all k

pub so_far-all : {X : Type 0} (d : PlainDist) (values : LocalMesh → ℕ → List X) → so_far d values (length d.locals) 0 ≡ of_owned values (ranks_of d)
so_far-all d values =
    append-nil (flat_map (λ r. flat_map (values (local_at d r)) (own (r, local_at d r))) (below (length d.locals)))
    ∙ sym (texts-by_places (λ (rank : ℕ × LocalMesh). flat_map (values rank.1) (own rank)) d.locals no_local)

-- ---- sums

pub sums-owned : (d : PlainDist) (k p : ℕ) (s t : Sums) → AreSums d k p s → AddsPoint (local_at d k) d.sections p s t → is_of (local_at d k) k p ≡ true → AreSums d k (p + 1) t
sums-owned d k p s t h a own =
    let l = local_at d k in
    let shown = count-shown (is_of l k) p own in
    let entries = so_far-point d covers_of k p own in
    let at = so_far-point d coordinates_at k p own in
    let values = so_far-point d (data_of d.sections) k p own in
    let dofs = so_far-point d (dofs_of d.sections) k p own in
    record {
      held = a.held ∙ h.held;
      owned = omega (arith, a.owned, h.owned, shown);
      entries = a.entries ∙ ap (λ (n : ℕ). n + length (covers_of l p)) h.entries ∙ sym (ap length entries ∙ length-append (so_far d covers_of k p) (covers_of l p));
      back = a.back ∙ ap (λ (n : ℕ). n + count_by is_back (covers_of l p)) h.back ∙ sym (ap (count_by is_back) entries ∙ count-append is_back (so_far d covers_of k p) (covers_of l p));
      at = a.at ∙ ap (λ (z : ℤ). fold ◌+ℤ◌ z (coordinates_at l p)) h.at ∙ sym (ap (λ (w : List ℤ). fold ◌+ℤ◌ (pos 0) w) at ∙ fold-append ◌+ℤ◌ (pos 0) (so_far d coordinates_at k p) (coordinates_at l p));
      values = a.values ∙ ap (λ (z : ℤ). fold ◌+ℤ◌ z (map signed_of (data_of d.sections l p))) h.values
          ∙ sym (ap (λ (w : List ℕ). fold ◌+ℤ◌ (pos 0) (map signed_of w)) values ∙ ap (λ (w : List ℤ). fold ◌+ℤ◌ (pos 0) w) (map-append signed_of (so_far d (data_of d.sections) k p) (data_of d.sections l p))
          ∙ fold-append ◌+ℤ◌ (pos 0) (map signed_of (so_far d (data_of d.sections) k p)) (map signed_of (data_of d.sections l p)));
      dofs = a.dofs ∙ ap (λ (n : ℕ). fold ◌+◌ n (dofs_of d.sections l p)) h.dofs ∙ sym (ap (λ (w : List ℕ). fold ◌+◌ 0 w) dofs ∙ fold-append ◌+◌ 0 (so_far d (dofs_of d.sections) k p) (dofs_of d.sections l p));
    }

pub sums-other : (d : PlainDist) (k p : ℕ) (s : Sums) → AreSums d k p s → is_of (local_at d k) k p ≡ false → AreSums d k (p + 1) s
sums-other d k p s h other = record {
  held = h.held;
  owned = omega (arith, h.owned, count-hidden (is_of (local_at d k) k) p other);
  entries = h.entries ∙ sym (ap length (so_far-other d covers_of k p other));
  back = h.back ∙ sym (ap (count_by is_back) (so_far-other d covers_of k p other));
  at = h.at ∙ sym (ap (λ (w : List ℤ). fold ◌+ℤ◌ (pos 0) w) (so_far-other d coordinates_at k p other));
  values = h.values ∙ sym (ap (λ (w : List ℕ). fold ◌+ℤ◌ (pos 0) (map signed_of w)) (so_far-other d (data_of d.sections) k p other));
  dofs = h.dofs ∙ sym (ap (λ (w : List ℕ). fold ◌+◌ 0 w) (so_far-other d (dofs_of d.sections) k p other));
}

pub sums-rank : (d : PlainDist) (k : ℕ) (s t : Sums) → AreSums d k (length (local_at d k).diagram.points) s → t ≡ record s { held = s.held + length (local_at d k).diagram.points } → AreSums d (k + 1) 0 t
sums-rank d k s t h e =
    let l = local_at d k in
    let same : length (owned_before l k (length l.diagram.points)) ≡ length (own (k, l)) = refl in
    let held : t.held ≡ s.held + length l.diagram.points = ap (λ (x : Sums). x.held) e in
    let owned : t.owned ≡ s.owned = ap (λ (x : Sums). x.owned) e in
    record {
      held = held ∙ ap (λ (n : ℕ). n + length l.diagram.points) h.held ∙ sym (over-more d k (λ r. length r.1.diagram.points));
      owned = omega (arith, owned, h.owned, same, over-more d k (λ r. length (own r)));
      entries = ap (λ (x : Sums). x.entries) e ∙ h.entries ∙ sym (ap length (so_far-rank d covers_of k));
      back = ap (λ (x : Sums). x.back) e ∙ h.back ∙ sym (ap (count_by is_back) (so_far-rank d covers_of k));
      at = ap (λ (x : Sums). x.at) e ∙ h.at ∙ sym (ap (λ (w : List ℤ). fold ◌+ℤ◌ (pos 0) w) (so_far-rank d coordinates_at k));
      values = ap (λ (x : Sums). x.values) e ∙ h.values ∙ sym (ap (λ (w : List ℕ). fold ◌+ℤ◌ (pos 0) (map signed_of w)) (so_far-rank d (data_of d.sections) k));
      dofs = ap (λ (x : Sums). x.dofs) e ∙ h.dofs ∙ sym (ap (λ (w : List ℕ). fold ◌+◌ 0 w) (so_far-rank d (dofs_of d.sections) k));
    }

-- the line of all of them
pub sums-plain : (d : PlainDist) (s : Sums) → AreSums d (length d.locals) 0 s → sum_line s.held s.owned s.entries s.back s.at s.values s.dofs ≡ plain_sums d.sections (ranks_of d)
unfolding plain_sums
sums-plain d s h =
    let none : s.owned ≡ over_first d (length d.locals) (λ r. length (own r)) = omega (arith, h.owned) in
    let held = h.held ∙ sym (over-all d (λ r. length r.1.diagram.points)) in
    let owned = none ∙ sym (over-all d (λ r. length (own r))) in
    let entries = h.entries ∙ ap length (so_far-all d covers_of) in
    let back = h.back ∙ ap (count_by is_back) (so_far-all d covers_of) in
    let at = h.at ∙ ap (λ (w : List ℤ). fold ◌+ℤ◌ (pos 0) w) (so_far-all d coordinates_at) in
    let values = h.values ∙ ap (λ (w : List ℕ). fold ◌+ℤ◌ (pos 0) (map signed_of w)) (so_far-all d (data_of d.sections)) in
    let dofs = h.dofs ∙ ap (λ (w : List ℕ). fold ◌+◌ 0 w) (so_far-all d (dofs_of d.sections)) in
    cc
