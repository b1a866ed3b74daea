-- Words by a layout.
use Rattle.std.proofs.Common.{◌≡◌, ℕ, zero, suc, ◌+◌, ◌<◌, List, [], ◌∷◌, ◌++◌, length, map, get_or, ap, ◌∙◌, arith}
use Rattle.std.specs.Prelude.{take, drop, slice_index, slice_range, flat_map}
use Rattle.std.proofs.lemmas.List.{length-map, same_lists, get_or_default}
use Rattle.std.proofs.lemmas.List.Sums.{sum_by-cons}
use Rattle.std.proofs.Math.Seq.{take-append_seam, drop-append-add}
use Rattle.plain_lists.specs.Lists.{below}
use Rattle.plain_lists.proofs.Below.{length-below, get_or-map-below}
use Rattle.plex_defs.specs.Fields.{offset, words_at}
use Rattle.plex_section.specs.Words.{words_by}

-- the words of each point
pub length-words_by : (dofs words : List ℕ) → length (words_by dofs words) ≡ length dofs
unfolding words_by
length-words_by dofs words = length-map (below (length dofs)) (words_at dofs words) ∙ length-below (length dofs)

pub get_or-words_by : (dofs words : List ℕ) (p : ℕ) → p < length dofs → get_or (words_by dofs words) p [] ≡ slice_range words (offset dofs p) (offset dofs p + slice_index dofs p)
unfolding words_by words_at
get_or-words_by dofs words p h = get_or-map-below (words_at dofs words) (length dofs) p [] h

-- as many words as the point has, from its offset on
pub words_at-from : (dofs words : List ℕ) (p : ℕ) → words_at dofs words p ≡ take (slice_index dofs p) (drop (offset dofs p) words)
unfolding words_at
words_at-from dofs words p = ap (λ (n : ℕ). take n (drop (offset dofs p) words)) (omega arith)

-- ---- the words of lists that lie end to end

abbrev joined : List (List ℕ) → List ℕ
joined lists = flat_map (λ own. own) lists

-- those of point p
part_of_joined : (lists : List (List ℕ)) (p : ℕ) → p < length lists → take (slice_index (map length lists) p) (drop (offset (map length lists) p) (joined lists)) ≡ get_or lists p []
part_of_joined [] p h = absurd (omega arith)
part_of_joined (x ∷ xs) zero h = take-append_seam x (joined xs)
part_of_joined (x ∷ xs) (suc p) h =
    let further : offset (map length (x ∷ xs)) (suc p) ≡ length x + offset (map length xs) p = sum_by-cons (λ (n : ℕ). n) (length x) (take p (map length xs)) in
    ap (λ (n : ℕ). take (slice_index (map length xs) p) (drop n (x ++ joined xs))) further
    ∙ ap (λ (ws : List ℕ). take (slice_index (map length xs) p) ws) (drop-append-add x (joined xs) (offset (map length xs) p))
    ∙ part_of_joined xs p (omega arith)

-- Lists end to end, laid out by their lengths, are these lists.
pub words_by-joined : (lists : List (List ℕ)) → words_by (map length lists) (flat_map (λ own. own) lists) ≡ lists
unfolding words_by
words_by-joined lists =
    let lengths = map length lists in
    let count = length-map lists length in
    same_lists (map (words_at lengths (joined lists)) (below (length lengths))) lists (length-map (below (length lengths)) (words_at lengths (joined lists)) ∙ (length-below (length lengths) ∙ count))
    (λ p d h.
    let low : p < length lists = omega (arith, h, length-map (below (length lengths)) (words_at lengths (joined lists)), length-below (length lengths), count) in
    get_or-map-below (words_at lengths (joined lists)) (length lengths) p d (omega (arith, low, count))
    ∙ (words_at-from lengths (joined lists) p ∙ (part_of_joined lists p low ∙ get_or_default lists p [] d low)))
