-- Places where words begin, and how far they are from one another.
use Rattle.std.proofs.Common.{◌≡◌, ℕ, zero, suc, ◌+◌, ◌<◌, ◌≤◌, List, [], ◌∷◌, ◌++◌, length, get_or, refl, sym, ap, ap₂, ◌∙◌, arith}
use Rattle.std.specs.Prelude.{sum, take, drop}
use Rattle.std.proofs.lemmas.List.{append-nil, drop_all}
use Rattle.std.proofs.lemmas.List.Sums.{sum_by-cons}
use Rattle.plex_section.specs.Starts.{ends, starts, gaps_from, gaps}

-- the gaps between ends are the numbers of words
pub gaps_from-ends : (start : ℕ) (dofs : List ℕ) → gaps_from start (ends start dofs) ≡ dofs
gaps_from-ends start [] = refl
gaps_from-ends start (n ∷ dofs) = ap₂ (λ x xs. x ∷ xs) (omega arith) (gaps_from-ends (start + n) dofs)

pub gaps-starts : (dofs : List ℕ) → gaps (starts dofs) ≡ dofs
gaps-starts dofs = gaps_from-ends 0 dofs

-- one place more than there are points
pub length-ends : (start : ℕ) (dofs : List ℕ) → length (ends start dofs) ≡ length dofs
length-ends start [] = refl
length-ends start (n ∷ dofs) = ap suc (length-ends (start + n) dofs)

pub length-starts : (dofs : List ℕ) → length (starts dofs) ≡ length dofs + 1
length-starts dofs = omega (arith, length-ends 0 dofs)

-- the words of a point begin after those before it
pub get_or-ends : (start : ℕ) (dofs : List ℕ) (p : ℕ) → p < length dofs + 1 → get_or (start ∷ ends start dofs) p 0 ≡ start + sum (take p dofs)
get_or-ends start [] zero h = omega arith
get_or-ends start (n ∷ dofs) zero h = omega arith
get_or-ends start [] (suc p) h = absurd (omega arith)
get_or-ends start (n ∷ dofs) (suc p) h = get_or-ends (start + n) dofs p (omega arith) ∙ omega (arith, sum_by-cons (λ (x : ℕ). x) n (take p dofs))

pub get_or-starts : (dofs : List ℕ) (p : ℕ) → p < length dofs + 1 → get_or (starts dofs) p 0 ≡ sum (take p dofs)
get_or-starts dofs p h = omega (arith, get_or-ends 0 dofs p h)

-- ---- a layout as it is stored

-- the places are those of the numbers that contracts see
pub stored : (places now : List ℕ) → places ≡ starts (gaps places) → gaps places ≡ now → places ≡ starts now
stored places now is view = is ∙ ap starts view

pub length-stored : (places now : List ℕ) → places ≡ starts (gaps places) → gaps places ≡ now → length places ≡ length now + 1
length-stored places now is view = ap length (stored places now is view) ∙ length-starts now

pub get_or-stored : (places now : List ℕ) (p : ℕ) → places ≡ starts (gaps places) → gaps places ≡ now → p < length now + 1 → get_or places p 0 ≡ sum (take p now)
get_or-stored places now p is view h = ap (λ (ns : List ℕ). get_or ns p 0) (stored places now is view) ∙ get_or-starts now p h

-- where all points are done, the places are those of the layout
pub all_started : (places : List ℕ) (end : ℕ) (dofs : List ℕ) (i : ℕ) → places ++ ends end (drop i dofs) ≡ starts dofs → length dofs ≤ i → places ≡ starts dofs
all_started places end dofs i rest done = sym (append-nil places) ∙ (sym (ap (λ (ns : List ℕ). places ++ ends end ns) (drop_all i dofs done)) ∙ rest)
