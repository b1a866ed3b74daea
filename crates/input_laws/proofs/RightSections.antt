-- The bodies of all sections yield what a right content has.
use Rattle.std.proofs.Common.{◌≡◌, ℕ, zero, suc, ◌-◌, ◌≤◌, Bool, true, false, cond, not, ◌||◌, ◌==◌, nat_le, List, [], ◌∷◌, map, length, get_or, ℤ, pos, negsuc, Ok, Err, refl, ap, subst, arith, inl, inr}
use Rattle.std.specs.Prelude.{is_some, nat_eq}
use Rattle.std.specs.List.{AllByRecursion, IsDistinct}
use Rattle.std.proofs.lemmas.Bool.{leb-true, eqb-true, eqb-false, or_parts, not-true}
use Rattle.std.proofs.lemmas.Int.{ints}
use Rattle.plain_lists.proofs.Each.{all_weaker}
use Rattle.mesh_defs.specs.declared.Place.{Place}
use Rattle.mesh_defs.specs.Mesh.{Section}
use Rattle.input_defs.specs.scan_defs.Numbers.{uint_of, int_of, fixed_of}
use Rattle.input_defs.specs.Content.{Node}
use Rattle.input_defs.specs.declared.What.{What}
use Rattle.input_defs.specs.declared.What.TheVariants as what
use Rattle.input_defs.specs.declared.DataFault.{DataFault}
use Rattle.input_defs.specs.declared.DataFault.TheVariants as data_fault
use Rattle.input_defs.specs.declared.MshFault.{MshFault}
use Rattle.input_defs.specs.declared.MshFault.TheVariants.{RepeatedNodeNumber, ElementType, UnknownNode, RepeatedNode, OutOfRange, TooMany}
use Rattle.input_defs.specs.Causes.{ok_where}
use Rattle.input_defs.specs.Bodies.{Reader, ◌>>=◌, many, tested, uint, int, fixed, quoted}
use Rattle.input_defs.specs.Sections.{has_number, count, name, names, fresh_number, node, nodes_after, nodes, poly_of_type, corners_of_type, corner, corners_after, element, elements}
use Rattle.input_defs.specs.DataSections.{real, comps_on, rows_on, row, section}
use Rattle.input_defs.specs.RightContent.{IsUnsigned, IsSigned, IsFixed, NumbersDiffer, IsRightNode, IsKnown, IsRightElement, IsRightName, IsRightDataRow, IsComponents}
use Rattle.input_laws.proofs.Yields.{ok-same, Yields, yields-anything, give-yields, bind-yields, many-yields, both-yield, weaker-yields, many-yields-length, tested-yields}
use Rattle.input_laws.proofs.RightNumbers.{uint-in_range, int-in_range, fixed-in_range}

-- ---- numbers

-- what passes a test
where_ok : {E A : Type 0} (b : Bool) (x y : A) (e : E) → ok_where b x e ≡ Ok y → (b ≡ true) × (x ≡ y)
where_ok true x y e h = (refl, ok-same h)
where_ok false x y e h = absurd (cc h)

uint-yields : (E : Type 0) → Yields IsUnsigned (uint {E = E})
uint-yields E = tested-yields {E = E} IsUnsigned uint_of (λ line x. Ok x) (λ text l x y read h. subst IsUnsigned (ok-same h) (uint-in_range text x read))

int-yields : (E : Type 0) → Yields IsSigned (int {E = E})
int-yields E = tested-yields {E = E} IsSigned int_of (λ line x. Ok x) (λ text l x y read h. subst IsSigned (ok-same h) (int-in_range text x read))

fixed-yields : (E : Type 0) → Yields IsFixed (fixed {E = E})
fixed-yields E = tested-yields {E = E} IsFixed fixed_of (λ line x. Ok x) (λ text l x y read h. subst IsFixed (ok-same h) (fixed-in_range text x read))

count-yields : (limit : ℕ) (what : What) → Yields (λ n. n ≤ limit) (count limit what)
count-yields limit what = tested-yields (λ n. n ≤ limit) uint_of _ (λ text l x y read h. let passed = where_ok (nat_le x limit) x y (TooMany l what) h in subst (λ n. n ≤ limit) passed.1 (leb-true x limit passed.0))

-- so many things, at most this many
abbrev pub FewOf : {A : Type 0} → ℕ → (A → Type 0) → List A → Type 0
FewOf limit P xs = (length xs ≤ limit) × AllByRecursion P xs

few-yields : {A : Type 0} (P : A → Type 0) (limit : ℕ) (what : What) (r : Reader MshFault A) → Yields P r → Yields (FewOf limit P) (count limit what >>= (λ n. many n r))
few-yields P limit what r each = bind-yields (λ n. n ≤ limit) (FewOf limit P) (count limit what) (λ n. many n r) (count-yields limit what) (λ n few.
    weaker-yields (λ xs. (length xs ≡ n) × AllByRecursion P xs) (FewOf limit P) (many n r) (λ xs both. (let same = both.0 in omega (arith, few), both.1))
    (both-yield (λ xs. length xs ≡ n) (AllByRecursion P) (many n r) (many-yields-length r n) (many-yields P r n each)))

-- ---- names

name-yields : Yields IsRightName name
unfolding name
name-yields = bind-yields IsUnsigned IsRightName uint _ (uint-yields MshFault) (λ dim a.
    bind-yields IsSigned IsRightName int _ (int-yields MshFault) (λ number b.
    bind-yields (λ x. Unit {0}) IsRightName quoted _ (yields-anything quoted) (λ text d.
    give-yields MshFault IsRightName (record { dim = dim; number = number; text = text }) (record { dim = a; number = b }))))

pub names-yield : Yields (FewOf 1024 IsRightName) names
unfolding names
names-yield = few-yields IsRightName 1024 what.Names name name-yields

-- ---- nodes

-- a number of at least 1 that is none of the earlier ones
IsFresh : List ℕ → ℕ → Type 0
IsFresh earlier n = (1 ≤ n) × IsUnsigned n × (has_number earlier n ≡ false)

fresh-told : (earlier text : List ℕ) (l n m : ℕ) → uint_of text ≡ Ok n → cond (n == 0) (Err (OutOfRange l)) (ok_where (not (has_number earlier n)) n (RepeatedNodeNumber l n)) ≡ Ok m → IsFresh earlier m
unfolding IsFresh
fresh-told earlier text l n m read h = go (n == 0) refl h
  where
    go : (b : Bool) → (n == 0) ≡ b → cond b (Err (OutOfRange l)) (ok_where (not (has_number earlier n)) n (RepeatedNodeNumber l n)) ≡ Ok m → (1 ≤ m) × IsUnsigned m × (has_number earlier m ≡ false)
    go true e t = absurd (cc t)
    go false e t = let passed = where_ok (not (has_number earlier n)) n m (RepeatedNodeNumber l n) t in let some = eqb-false n 0 e in
        subst (λ j. (1 ≤ j) × IsUnsigned j × (has_number earlier j ≡ false)) passed.1 (omega arith, uint-in_range text n read, not-true (has_number earlier n) passed.0)

-- a node whose number is none of the earlier ones
IsFreshNode : List ℕ → Node → Type 0
IsFreshNode earlier node = IsRightNode node × (has_number earlier node.number ≡ false)

node-yields : (earlier : List ℕ) → Yields (IsFreshNode earlier) (node earlier)
unfolding node IsFresh IsFreshNode
node-yields earlier = bind-yields (IsFresh earlier) (IsFreshNode earlier) (fresh_number earlier) _ (tested-yields (IsFresh earlier) uint_of _ (fresh-told earlier)) (λ n a.
    bind-yields IsFixed (IsFreshNode earlier) fixed _ (fixed-yields MshFault) (λ x p.
    bind-yields IsFixed (IsFreshNode earlier) fixed _ (fixed-yields MshFault) (λ y q.
    bind-yields IsFixed (IsFreshNode earlier) fixed _ (fixed-yields MshFault) (λ z r.
    give-yields MshFault (IsFreshNode earlier) (record { number = n; at = x ∷ y ∷ z ∷ [] }) (record { some_number = a.0; number = a.1; three = refl; in_range = (p, (q, (r, tt))) }, a.2)))))

numbers_in : List Node → List ℕ
numbers_in ns = map (λ (node : Node). node.number) ns

-- nodes whose numbers differ and are none of the earlier ones
record AreFresh (earlier : List ℕ) (n : ℕ) (ns : List Node) : Type 0 where
  count : length ns ≡ n
  right : AllByRecursion IsRightNode ns
  fresh : AllByRecursion (λ m. has_number earlier m ≡ false) (map (λ (node : Node). node.number) ns)
  differ : IsDistinct nat_eq (map (λ (node : Node). node.number) ns)

-- numbers that are none of some are not the first of these, and none of the others
other-numbers : (first : ℕ) (earlier ns : List ℕ) → AllByRecursion (λ m. has_number (first ∷ earlier) m ≡ false) ns → AllByRecursion (λ m. nat_eq first m ≡ false) ns × AllByRecursion (λ m. has_number earlier m ≡ false) ns
other-numbers first earlier ns h = (
  all_weaker (λ m. has_number (first ∷ earlier) m ≡ false) (λ m. nat_eq first m ≡ false) (λ m e. (or_parts (first == m) (has_number earlier m) e).0) ns h,
  all_weaker (λ m. has_number (first ∷ earlier) m ≡ false) (λ m. has_number earlier m ≡ false) (λ m e. (or_parts (first == m) (has_number earlier m) e).1) ns h,
)

more-fresh : (earlier : List ℕ) (n : ℕ) (first : Node) (others : List Node) → IsFreshNode earlier first → AreFresh (first.number ∷ earlier) n others → AreFresh earlier (suc n) (first ∷ others)
unfolding IsFreshNode IsDistinct
more-fresh earlier n first others one more =
    let parts = other-numbers first.number earlier (map (λ (node : Node). node.number) others) more.fresh in
    record { count = ap suc more.count; right = (one.0, more.right); fresh = (one.1, parts.1); differ = (parts.0, more.differ) }

nodes-fresh : (earlier : List ℕ) (n : ℕ) → Yields (AreFresh earlier n) (nodes_after earlier n)
unfolding nodes_after IsDistinct
nodes-fresh earlier zero = give-yields MshFault (AreFresh earlier 0) [] (record { count = refl; right = tt; fresh = tt; differ = tt })
nodes-fresh earlier (suc n) = bind-yields (IsFreshNode earlier) (AreFresh earlier (suc n)) (node earlier) _ (node-yields earlier) (λ first a.
    bind-yields (AreFresh (first.number ∷ earlier) n) (AreFresh earlier (suc n)) (nodes_after (first.number ∷ earlier) n) _ (nodes-fresh (first.number ∷ earlier) n) (λ others b.
    give-yields MshFault (AreFresh earlier (suc n)) (first ∷ others) (more-fresh earlier n first others a b)))

-- right nodes, not too many, whose numbers differ
pub record AreRightNodes (ns : List Node) : Type 0 where
  pub few : length ns ≤ 500000
  pub right : AllByRecursion IsRightNode ns
  pub differ : NumbersDiffer (map (λ (node : Node). node.number) ns)

pub nodes-yield : Yields AreRightNodes nodes
unfolding nodes
nodes-yield = bind-yields (λ n. n ≤ 500000) AreRightNodes (count 500000 what.Nodes) _ (count-yields 500000 what.Nodes) (λ n few.
    weaker-yields (AreFresh [] n) AreRightNodes (nodes_after [] n) (λ ns h. record { few = (let same = h.count in omega (arith, few)); right = h.right; differ = h.differ }) (nodes-fresh [] n))

-- ---- elements

-- a known number that is none of the earlier ones
IsCorner : List ℕ → List ℕ → ℕ → Type 0
IsCorner known earlier n = IsKnown known n × (has_number earlier n ≡ false)

corner-told : (known earlier text : List ℕ) (l n m : ℕ) → uint_of text ≡ Ok n → cond (has_number known n) (ok_where (not (has_number earlier n)) n (RepeatedNode l n)) (Err (UnknownNode l n)) ≡ Ok m → IsCorner known earlier m
unfolding IsCorner
corner-told known earlier text l n m read h = go (has_number known n) refl h
  where
    go : (b : Bool) → has_number known n ≡ b → cond b (ok_where (not (has_number earlier n)) n (RepeatedNode l n)) (Err (UnknownNode l n)) ≡ Ok m → IsKnown known m × (has_number earlier m ≡ false)
    go true e t = let passed = where_ok (not (has_number earlier n)) n m (RepeatedNode l n) t in
        subst (λ j. IsKnown known j × (has_number earlier j ≡ false)) passed.1 (e, not-true (has_number earlier n) passed.0)
    go false e t = absurd (cc t)

record AreCorners (known earlier : List ℕ) (n : ℕ) (corners : List ℕ) : Type 0 where
  count : length corners ≡ n
  right : AllByRecursion (IsKnown known) corners
  fresh : AllByRecursion (λ m. has_number earlier m ≡ false) corners
  differ : IsDistinct nat_eq corners

more-corners : (known earlier : List ℕ) (n first : ℕ) (others : List ℕ) → IsCorner known earlier first → AreCorners known (first ∷ earlier) n others → AreCorners known earlier (suc n) (first ∷ others)
unfolding IsCorner IsDistinct
more-corners known earlier n first others one more =
    let parts = other-numbers first earlier others more.fresh in
    record { count = ap suc more.count; right = (one.0, more.right); fresh = (one.1, parts.1); differ = (parts.0, more.differ) }

corners-yield : (known earlier : List ℕ) (n : ℕ) → Yields (AreCorners known earlier n) (corners_after known earlier n)
unfolding IsDistinct
corners-yield known earlier zero = give-yields MshFault (AreCorners known earlier 0) [] (record { count = refl; right = tt; fresh = tt; differ = tt })
corners-yield known earlier (suc n) = bind-yields (IsCorner known earlier) (AreCorners known earlier (suc n)) (corner known earlier) _ (tested-yields (IsCorner known earlier) uint_of _ (corner-told known earlier)) (λ first a.
    bind-yields (AreCorners known (first ∷ earlier) n) (AreCorners known earlier (suc n)) (corners_after known (first ∷ earlier) n) _ (corners-yield known (first ∷ earlier) n) (λ others b.
    give-yields MshFault (AreCorners known earlier (suc n)) (first ∷ others) (more-corners known earlier n first others a b)))

-- the first tag, or 0
first-tag : (tags : List ℤ) → AllByRecursion IsSigned tags → IsSigned (get_or tags 0 (pos 0))
first-tag [] h = (omega (arith, ints), omega (arith, ints))
first-tag (tag ∷ tags) h = h.0

HasType : ℕ → Type 0
HasType kind = is_some (poly_of_type kind) ≡ true

element-yields : (known : List ℕ) → Yields (IsRightElement known) (element known)
unfolding element HasType
element-yields known = bind-yields IsUnsigned (IsRightElement known) uint _ (uint-yields MshFault) (λ n a.
    bind-yields HasType (IsRightElement known) (tested uint_of (λ line k. ok_where (is_some (poly_of_type k)) k (ElementType line k))) _
    (tested-yields HasType uint_of _ (λ text l k m read h. let passed = where_ok (is_some (poly_of_type k)) k m (ElementType l k) h in subst HasType passed.1 passed.0)) (λ kind b.
    bind-yields (λ x. Unit {0}) (IsRightElement known) uint _ (yields-anything uint) (λ tag_count d.
    bind-yields (AllByRecursion IsSigned) (IsRightElement known) (many tag_count int) _ (many-yields IsSigned int tag_count (int-yields MshFault)) (λ tags e.
    bind-yields (AreCorners known [] (corners_of_type kind)) (IsRightElement known) (corners_after known [] (corners_of_type kind)) _ (corners-yield known [] (corners_of_type kind)) (λ corners g.
    give-yields MshFault (IsRightElement known) (record { number = n; kind = kind; physical = get_or tags 0 (pos 0); nodes = corners })
    (record { number = a; kind = b; physical = first-tag tags e; corners = g.count; nodes_known = g.right; nodes_differ = g.differ }))))))

pub elements-yield : (known : List ℕ) → Yields (FewOf 1000000 (IsRightElement known)) (elements known)
unfolding elements
elements-yield known = few-yields (IsRightElement known) 1000000 what.Elements (element known) (element-yields known)

-- ---- data sections

comps-told : (text : List ℕ) (l : ℕ) (z : ℤ) (n : ℕ) → int_of text ≡ Ok z → comps_on l z ≡ Ok n → IsComponents n
comps-told text l (pos m) n read h =
    let passed = where_ok ((m == 1) || (m == 3) || (m == 9)) m n (data_fault.Components l m) h in
    subst IsComponents passed.1 (go (m == 1) (m == 3) (m == 9) refl refl refl passed.0)
  where
    go : (a b d : Bool) → (m == 1) ≡ a → (m == 3) ≡ b → (m == 9) ≡ d → (a || b || d) ≡ true → IsComponents m
    go true b d e f g t = inl (eqb-true m 1 e)
    go false true d e f g t = inr (inl (eqb-true m 3 f))
    go false false true e f g t = inr (inr (eqb-true m 9 g))
    go false false false e f g t = absurd (cc t)
comps-told text l (negsuc m) n read h = absurd (cc h)

row-yields : (known : List ℕ) (comps : ℕ) → Yields (IsRightDataRow known comps) (row known comps)
unfolding row
row-yields known comps = bind-yields (IsKnown known) (IsRightDataRow known comps) (tested uint_of (λ line n. ok_where (has_number known n) n (data_fault.UnknownNumber line n))) _
    (tested-yields (IsKnown known) uint_of _ (λ text l k m read h. let passed = where_ok (has_number known k) k m (data_fault.UnknownNumber l k) h in subst (IsKnown known) passed.1 passed.0)) (λ n a.
    bind-yields (λ xs. (length xs ≡ comps) × AllByRecursion IsFixed xs) (IsRightDataRow known comps) (many comps fixed) _
    (both-yield (λ xs. length xs ≡ comps) (AllByRecursion IsFixed) (many comps fixed) (many-yields-length fixed comps) (many-yields IsFixed fixed comps (fixed-yields DataFault))) (λ values b.
    give-yields DataFault (IsRightDataRow known comps) (record { number = n; values = values }) (record { number = a; values = b.0; in_range = b.1 })))

-- data of this place, right over these numbers
pub record IsDataOn (on : Place) (known : List ℕ) (field : Section) : Type 0 where
  pub on_place : field.on ≡ on
  pub comps : IsComponents field.comps
  pub rows : AllByRecursion (IsRightDataRow known field.comps) field.rows

pub section-yields : (on : Place) (known : List ℕ) → Yields (IsDataOn on known) (section on known)
unfolding section
section-yields on known = bind-yields (λ x. Unit {0}) (IsDataOn on known) uint _ (yields-anything uint) (λ string_count a.
    bind-yields (λ x. Unit {0}) (IsDataOn on known) (many string_count quoted) _ (yields-anything _) (λ strings b.
    bind-yields (λ x. Unit {0}) (IsDataOn on known) uint _ (yields-anything uint) (λ real_count d.
    bind-yields (λ x. Unit {0}) (IsDataOn on known) (many real_count real) _ (yields-anything _) (λ reals e.
    bind-yields (λ x. Unit {0}) (IsDataOn on known) (tested uint_of (λ line n. ok_where (nat_le 3 n) n (data_fault.BadCount line))) _ (yields-anything _) (λ int_count g.
    bind-yields (λ x. Unit {0}) (IsDataOn on known) int _ (yields-anything int) (λ step h.
    bind-yields IsComponents (IsDataOn on known) (tested int_of comps_on) _ (tested-yields IsComponents int_of comps_on comps-told) (λ comps i.
    bind-yields (λ x. Unit {0}) (IsDataOn on known) (tested int_of rows_on) _ (yields-anything _) (λ row_count j.
    bind-yields (λ x. Unit {0}) (IsDataOn on known) (many (int_count - 3) int) _ (yields-anything _) (λ further k.
    bind-yields (AllByRecursion (IsRightDataRow known comps)) (IsDataOn on known) (many row_count (row known comps)) _ (many-yields (IsRightDataRow known comps) (row known comps) row_count (row-yields known comps)) (λ rows l.
    give-yields DataFault (IsDataOn on known) (record { on = on; name = get_or strings 0 []; comps = comps; rows = rows }) (record { on_place = refl; comps = i; rows = l })))))))))))
