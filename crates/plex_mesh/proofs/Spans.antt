-- Rows of a flat list: one more.
use Rattle.std.proofs.Common.{◌≡◌, ℕ, ◌+◌, ◌≤◌, List, [], ◌∷◌, ◌++◌, length, take, drop, ap, ap₂, ◌∙◌, arith}
use Rattle.std.proofs.lemmas.List.{take-append-le, drop-append-le, length-drop, map-append}
use Rattle.std.proofs.Math.Seq.{take-length}
use Rattle.plain_lists.proofs.Each.{all_weaker}
use Rattle.plain_lists.proofs.Filters.{map_same}
use Rattle.plex_mesh.specs.declared.span.Span.{Span}
use Rattle.plex_mesh.specs.Spans.{part_at, with_parts, AreWithin}

-- what stands after a list does not change its parts
part-before : (flat row : List ℕ) (span : Span) → span.start + span.len ≤ length flat → part_at (flat ++ row) span ≡ part_at flat span
part-before flat row span within =
    let from : span.start ≤ length flat = omega arith in
    let left : span.len ≤ length (drop span.start flat) = rw length-drop (omega arith) in
    ap (take span.len) (drop-append-le span.start flat row from) ∙ take-append-le span.len (drop span.start flat) row left

-- the part that begins where a list ends
part-after : (flat row : List ℕ) → take (length row) (drop (length flat) (flat ++ row)) ≡ row
part-after [] row = take-length row
part-after (x ∷ flat) row = part-after flat row

-- one more thing with its row
pub with_parts-push : {S R : Type 0} (span : S → Span) (make : S → List ℕ → R) (stored : List S) (flat row : List ℕ) (s : S) → AreWithin flat span stored → (span s).start ≡ length flat → (span s).len ≡ length row
    → with_parts span make (stored ++ s ∷ []) (flat ++ row) ≡ with_parts span make stored flat ++ make s row ∷ []
with_parts-push span make stored flat row s within start len =
    map-append (λ t. make t (part_at (flat ++ row) (span t))) stored (s ∷ [])
    ∙ ap₂ (λ rs r. rs ++ make s r ∷ [])
    (map_same (λ t. make t (part_at (flat ++ row) (span t))) (λ t. make t (part_at flat (span t))) stored
    (all_weaker (λ t. (span t).start + (span t).len ≤ length flat) _ (λ t h. ap (make t) (part-before flat row (span t) h)) stored within))
    (ap₂ (λ n k. take n (drop k (flat ++ row))) len start ∙ part-after flat row)
