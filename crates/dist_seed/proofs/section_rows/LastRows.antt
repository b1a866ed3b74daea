-- The table of the last rows, one row after another.
use Rattle.std.proofs.Common.{◌≡◌, ℕ, zero, suc, ◌+◌, ◌<◌, ◌≤◌, cond, ◌==◌, List, [], ◌∷◌, ◌++◌, length, get_or, take, reverse, replicate, set, slice_index, Some, refl, sym, ap, ◌∙◌, subst, ⊎_elim, arith, add-one, length-append}
use Rattle.std.specs.Prelude.{find, option_map}
use Rattle.std.proofs.lemmas.Bool.{cases_eq, eq-eqb, ne_eqb, cond-true, cond-false}
use Rattle.std.specs.List.{slice_get, AllByRecursion}
use Rattle.plain_lists.proofs.Each.{all_at}
use Rattle.std.proofs.lemmas.Option.{slice_get_within, get_or_from_slice_get}
use Rattle.std.proofs.lemmas.List.{take_more, take_all, length-take-le, reverse-append, get_or-set_other, get_or-replicate, length-replicate, length-set, get_or_append_left}
use Rattle.std.proofs.lemmas.Grind.{get_or-set_at}
use Rattle.std.proofs.Math.Seq.{get_or-append_seam}
use Rattle.mesh_defs.specs.Mesh.{Row, Section}
use Rattle.dist_seed.specs.section_rows.Last.{last_values, values_by, HasLastRows}

abbrev pub no_row : Row
no_row = record { number = 0; values = [] }

-- a table without rows
pub last-none : (size : ℕ) → HasLastRows [] size (replicate size 0)
unfolding last_values
last-none size = record {
  many = length-replicate size 0;
  within = λ n low. let zero_there : slice_index (replicate size 0) n ≡ 0 = get_or-replicate size n 0 0 low in omega arith;
  last = λ n low. let zero_there : slice_index (replicate size 0) n ≡ 0 = get_or-replicate size n 0 0 low in ap (values_by []) zero_there;
}

-- further rows leave the first ones
by-front : (rows more : List Row) (k : ℕ) → k ≤ length rows → values_by (rows ++ more) k ≡ values_by rows k
by-front rows more zero le = refl
by-front rows more (suc i) le = ap (λ (r : Row). Some r.values) (get_or_append_left rows more (record { number = 0; values = [] }) i (omega arith))

module _ (rows : List Row) (r : Row) (size : ℕ) (table : List ℕ) (low : r.number < size) (h : HasLastRows rows size table) where
  after : List ℕ
  after = set table r.number (length rows + 1)

  -- the last row with a number is the new one, or one of the others
  found : (n : ℕ) → find (λ (s : Row). s.number == n) (reverse (rows ++ r ∷ [])) ≡ cond (r.number == n) (Some r) (find (λ (s : Row). s.number == n) (reverse rows))
  found n = ap (find (λ (s : Row). s.number == n)) (reverse-append rows (r ∷ []))

  here : (n : ℕ) → r.number ≡ n → slice_index after n ≡ length rows + 1
  unfolding after
  here n e = let long : r.number < length table = omega (arith, h.many) in get_or-set_at table r.number n (length rows + 1) 0 (sym e) long

  other : (n : ℕ) → (r.number ≡ n → ⊥) → slice_index after n ≡ slice_index table n
  unfolding after
  other n ne = get_or-set_other table r.number n (length rows + 1) 0 (λ e. ne (sym e))

  newest : values_by (rows ++ r ∷ []) (length rows + 1) ≡ Some r.values
  newest = ap (values_by (rows ++ r ∷ [])) (add-one (length rows)) ∙ ap (λ (s : Row). Some s.values) (get_or-append_seam rows r [] (record { number = 0; values = [] }))

  last-row : (n : ℕ) → n < size → values_by (rows ++ r ∷ []) (slice_index after n) ≡ last_values (rows ++ r ∷ []) n
  unfolding last_values
  last-row n lt = ⊎_elim
      (λ (e : r.number ≡ n). ap (values_by (rows ++ r ∷ [])) (here n e) ∙ newest ∙ sym (ap (option_map (λ (s : Row). s.values)) (found n ∙ cond-true (r.number == n) _ _ (eq-eqb r.number n e))))
      (λ (ne : r.number ≡ n → ⊥). ap (values_by (rows ++ r ∷ [])) (other n ne) ∙ by-front rows (r ∷ []) (slice_index table n) (h.within n lt) ∙ h.last n lt
      ∙ sym (ap (option_map (λ (s : Row). s.values)) (found n ∙ cond-false (r.number == n) _ _ (ne_eqb r.number n ne))))
      (cases_eq r.number n)

  within-row : (n : ℕ) → n < size → slice_index after n ≤ length (rows ++ r ∷ [])
  within-row n lt = ⊎_elim
      (λ (e : r.number ≡ n). omega (arith, here n e, length-append rows (r ∷ [])))
      (λ (ne : r.number ≡ n → ⊥). omega (arith, other n ne, h.within n lt, length-append rows (r ∷ [])))
      (cases_eq r.number n)

  -- one row more
  pub last-pushed : HasLastRows (rows ++ r ∷ []) size (set table r.number (length rows + 1))
  unfolding after
  last-pushed = record { many = length-set table r.number (length rows + 1) ∙ h.many; within = within-row; last = last-row }

-- the next row of a data section
pub last-more : (rows : List Row) (i : ℕ) (r : Row) (size : ℕ) (table : List ℕ) → slice_get rows i ≡ Some r → r.number < size → HasLastRows (take i rows) size table
    → HasLastRows (take (i + 1) rows) size (set table r.number (i + 1))
last-more rows i r size table e low h =
    let within : i < length rows = slice_get_within rows i r e in
    let at : get_or rows i no_row ≡ r = get_or_from_slice_get rows i r no_row e in
    let next : take i rows ++ r ∷ [] ≡ take (i + 1) rows = ap (λ (x : Row). take i rows ++ x ∷ []) (sym at) ∙ sym (take_more rows i no_row within) in
    let many : length (take i rows) ≡ i = length-take-le i rows (let le : i ≤ length rows = omega arith in le) in
    coe 0 1 (k. HasLastRows (next k) size (set table r.number (many k + 1))) (last-pushed (take i rows) r size table low h)

-- all rows
pub last-all : (rows : List Row) (i size : ℕ) (table : List ℕ) → length rows ≤ i → HasLastRows (take i rows) size table → HasLastRows rows size table
last-all rows i size table le h = subst (λ l. HasLastRows l size table) (take_all i rows le) h

-- what all rows have, a row has
pub row-within : (rows : List Row) (size i : ℕ) (r : Row) → slice_get rows i ≡ Some r → AllByRecursion (λ (row : Row). row.number < size) rows → r.number < size
row-within rows size i r e all =
    subst (λ (row : Row). row.number < size) (get_or_from_slice_get rows i r no_row e) (all_at (λ (row : Row). row.number < size) rows i no_row all (slice_get_within rows i r e))
