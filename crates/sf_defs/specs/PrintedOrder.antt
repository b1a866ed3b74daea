-- The printed order of a word's entries: a function of the word's first value, the asks and the values that they fetched.
use Rattle.std.specs.Prelude.{ℕ, Bool, true, false, not, ◌&&◌, ◌||◌, ◌==◌, nat_lt, nat_le, if◌then◌else◌, List, [], ◌∷◌, map}
use Rattle.sf_defs.specs.declared.Op.{Op}
use Rattle.sf_defs.specs.declared.Op.TheVariants.{Load, Min, And, Replace}
use Rattle.sf_defs.specs.declared.Ask.{Ask}
use Rattle.sf_defs.specs.Asks.{Entry, after_ask}

-- it is the operation that changes no word
abbrev pub is_load : Op → Bool
is_load Load = true
is_load op = false

-- the kind of a word with these asks: the first operation besides Load, or Load where there is no other
abbrev pub kind_of : List Ask → Op
kind_of [] = Load
kind_of (a ∷ more) = if is_load a.op then kind_of more else a.op

-- on a word of this kind, asks that fetched m stand before those that fetched n
unfoldable pub fetched_before : Op → ℕ → ℕ → ℕ → Bool
fetched_before Min first m n = nat_lt n m
fetched_before And first m n = nat_lt n m
fetched_before Replace first m n = (m == first) && not (n == first)
fetched_before kind first m n = nat_lt m n

-- the ask of this entry changed the word
abbrev pub changes : Entry → Bool
changes e = not (after_ask e.ask e.got == e.got)

-- one goes before the other, or neither does and the rest decides
abbrev pub then_by : Bool → Bool → Bool → Bool
then_by before after rest = before || (not after && rest)

-- by fetched values; then those that change nothing before those that do; then by rank, then by index
unfoldable pub stands_before : Op → ℕ → Entry → Entry → Bool
stands_before kind first d e =
    then_by (fetched_before kind first d.got e.got) (fetched_before kind first e.got d.got)
    (then_by (not (changes d) && changes e) (not (changes e) && changes d)
    (then_by (nat_lt d.rank e.rank) (nat_lt e.rank d.rank) (nat_le d.index e.index)))

-- e at its place among sorted entries
abbrev pub placed : (Entry → Entry → Bool) → Entry → List Entry → List Entry
placed before e [] = e ∷ []
placed before e (x ∷ xs) = if before e x then e ∷ x ∷ xs else x ∷ placed before e xs

-- the same entries, each at its place
abbrev pub sorted_by : (Entry → Entry → Bool) → List Entry → List Entry
sorted_by before [] = []
sorted_by before (e ∷ es) = placed before e (sorted_by before es)

-- the printed order of the entries of a word with this first value
unfoldable pub printed_order : ℕ → List Entry → List Entry
printed_order first es = sorted_by (stands_before (kind_of (map (λ (e : Entry). e.ask) es)) first) es
