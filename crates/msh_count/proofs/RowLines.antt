-- The lines of data sections, one after the other.
use Rattle.std.proofs.Common.{◌≡◌, ℕ, suc, ◌+◌, List, ◌∷◌, ◌++◌, length, drop, Some, arith, sym, ap, ap₂, ◌∙◌, append_assoc}
use Rattle.std.specs.Prelude.{slice_get, flat_map, codes, decimal}
use Rattle.std.proofs.lemmas.Option.{slice_get_within, get_or_from_slice_get}
use Rattle.std.proofs.Math.Seq.{drop-cons}
use Rattle.mesh_defs.specs.Mesh.{Section}
use Rattle.msh_count.specs.Statuses.{rows_line}

rows-left : (xs : List Section) (i : ℕ) (x : Section) → slice_get xs i ≡ Some x → rows_line x ++ flat_map rows_line (drop (i + 1) xs) ≡ flat_map rows_line (drop i xs)
rows-left xs i x h =
    let next : suc i ≡ i + 1 = omega arith in
    sym (ap (flat_map rows_line) (drop-cons xs i x (slice_get_within xs i x h) ∙ ap₂ (λ y k. y ∷ drop k xs) (get_or_from_slice_get xs i x x h) next))

-- one more line
pub rows-more : (old new line whole : List ℕ) (xs : List Section) (i n : ℕ) (x : Section) → old ++ flat_map rows_line (drop i xs) ≡ whole → slice_get xs i ≡ Some x → n ≡ length x.rows
    → line ≡ codes "rows " ++ decimal n ++ codes "\n" → new ≡ old ++ line → new ++ flat_map rows_line (drop (i + 1) xs) ≡ whole
rows-more old new line whole xs i n x before at rows text appended =
    ap (λ l. l ++ flat_map rows_line (drop (i + 1) xs)) (appended ∙ ap (λ l. old ++ l) (text ∙ ap (λ k. codes "rows " ++ decimal k ++ codes "\n") rows))
    ∙ append_assoc old (rows_line x) (flat_map rows_line (drop (i + 1) xs)) ∙ ap (λ l. old ++ l) (rows-left xs i x at) ∙ before
