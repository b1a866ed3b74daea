-- The pairs of labels as keys of a set: what a pair is, and the order of pairs.
use Rattle.std.specs.Prelude.{ℕ, ℤ, pos, negsuc, Bool, FitsSigned}
use Rattle.std.specs.Int.{w32}
use Rattle.std.specs.Ordering.{nat_cmp, int_cmp, ordering_then}
use Rattle.std.specs.declared.cmp.Ordering.{Ordering}
use Rattle.std.specs.declared.ops.Bound.TheVariants.{Included}
use Rattle.std.specs.BTreeMap.Range.{range_contains}

-- a pair whose value fits 32 bits
abbrev pub IsPair : ℕ × ℤ → Type 0
IsPair pair = FitsSigned w32 pair.1

-- pairs by their points, and then by their values
abbrev pub pair_cmp : ℕ × ℤ → ℕ × ℤ → Ordering
pair_cmp a b = ordering_then (nat_cmp a.0 b.0) (int_cmp a.1 b.1)

-- from the least value of this point to its greatest one
abbrev pub is_of_point : ℕ → ℕ × ℤ → Bool
is_of_point p = range_contains pair_cmp (Included (p, negsuc 2147483647)) (Included (p, pos 2147483647))
