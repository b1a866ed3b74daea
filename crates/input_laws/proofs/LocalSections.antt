-- The bodies of all sections are read locally.
use Rattle.std.proofs.Common.{◌≡◌, ℕ, zero, suc, ◌-◌, Bool, true, false, cond, not, ◌||◌, ◌==◌, nat_le, List, [], ◌∷◌, Ok, Err, ℤ, pos, negsuc, refl, sym, ap, ◌∙◌}
use Rattle.std.specs.Prelude.{Result, is_some, ok_or}
use Rattle.input_defs.specs.declared.scan_defs.NumberFault.{NumberFault}
use Rattle.input_defs.specs.declared.scan_defs.NumberFault.TheVariants as numbers
use Rattle.input_defs.specs.scan_defs.Numbers.{uint_of, int_of, fixed_of, decimal_of}
use Rattle.mesh_defs.specs.declared.Place.{Place}
use Rattle.input_defs.specs.declared.What.{What}
use Rattle.input_defs.specs.declared.What.TheVariants as what
use Rattle.input_defs.specs.declared.DataFault.{DataFault}
use Rattle.input_defs.specs.declared.DataFault.TheVariants as data_fault
use Rattle.input_defs.specs.declared.MshFault.{MshFault}
use Rattle.input_defs.specs.declared.MshFault.TheVariants.{Version, Binary, RepeatedNodeNumber, ElementType, UnknownNode, RepeatedNode, OutOfRange, TooMany}
use Rattle.input_defs.specs.Causes.{ok_where}
use Rattle.input_defs.specs.Bodies.{number, tested, int, fixed, quoted}
use Rattle.input_defs.specs.Sections.{faults_of, section_number_fault, has_number, count, is_version, format, name, names, node, nodes_after, nodes, poly_of_type, corners_of_type, corners_after, element, elements}
use Rattle.input_defs.specs.DataSections.{data_number_fault as data_number_fault, faults_at, real, comps_on, rows_on, row, section}
use Rattle.input_laws.specs.FaultLines.{line_of, data_line_of}
use Rattle.input_laws.proofs.Local.{TellLines, IsLocal, give-local, bind-local, many-local, tested-local, quoted-local}

-- ---- faults of tests

ok_where-err : {E A : Type 0} (at : E → ℕ) (b : Bool) (x : A) (e e' : E) → ok_where b x e ≡ Err e' → at e' ≡ at e
ok_where-err at true x e e' h = absurd (cc h)
ok_where-err at false x e e' h = let same : e ≡ e' = cc h in ap at (sym same)

number-local : {E A : Type 0} (at : E → ℕ) (number_of : List ℕ → Result A NumberFault) → IsLocal at (number {E = E} number_of)
number-local at number_of = tested-local at number_of (λ line x. Ok x) (λ l x e h. absurd (cc h))

-- a number that has to pass a test with one fault
checked-local : {E A : Type 0} (at : E → ℕ) (number_of : List ℕ → Result A NumberFault) (test : A → Bool) (fault : ℕ → A → E) → ((l : ℕ) (x : A) → at (fault l x) ≡ l) → IsLocal at (tested number_of (λ line x. ok_where (test x) x (fault line x)))
checked-local at number_of test fault told = tested-local at number_of (λ line x. ok_where (test x) x (fault line x)) (λ l x e h. ok_where-err at (test x) x (fault l x) e h ∙ told l x)

-- ---- the sections

pub format-local : IsLocal line_of format
unfolding format
format-local = bind-local line_of _ _ (checked-local line_of fixed_of is_version (λ line v. Version line) (λ l x. refl)) (λ version.
    bind-local line_of _ _ (checked-local line_of uint_of (λ n. n == 0) (λ line n. Binary line) (λ l x. refl)) (λ kind.
    number-local line_of uint_of))

count-local : (limit : ℕ) (what : What) → IsLocal line_of (count limit what)
count-local limit what = checked-local line_of uint_of (λ n. nat_le n limit) (λ line n. TooMany line what) (λ l x. refl)

name-local : IsLocal line_of name
unfolding name
name-local = bind-local line_of _ _ (number-local line_of uint_of) (λ dim.
    bind-local line_of _ _ (number-local line_of int_of) (λ n.
    bind-local line_of _ _ (quoted-local line_of) (λ text.
    give-local line_of (record { dim = dim; number = n; text = text }))))

pub names-local : IsLocal line_of names
unfolding names
names-local = bind-local line_of _ _ (count-local 1024 what.Names) (λ n. many-local line_of name n name-local)

-- the number of a node: 0, or an earlier one, is a fault on its line
fresh-told : (earlier : List ℕ) (l n : ℕ) (e : MshFault) → cond (n == 0) (Err (OutOfRange l)) (ok_where (not (has_number earlier n)) n (RepeatedNodeNumber l n)) ≡ Err e → line_of e ≡ l
fresh-told earlier l n e h = go (n == 0) h
  where
    go : (b : Bool) → cond b (Err (OutOfRange l)) (ok_where (not (has_number earlier n)) n (RepeatedNodeNumber l n)) ≡ Err e → line_of e ≡ l
    go true g = let same : OutOfRange l ≡ e = cc g in ap line_of (sym same)
    go false g = ok_where-err line_of (not (has_number earlier n)) n (RepeatedNodeNumber l n) e g

node-local : (earlier : List ℕ) → IsLocal line_of (node earlier)
unfolding node
node-local earlier = bind-local line_of _ _ (tested-local line_of uint_of (λ line n. cond (n == 0) (Err (OutOfRange line)) (ok_where (not (has_number earlier n)) n (RepeatedNodeNumber line n))) (fresh-told earlier)) (λ n.
    bind-local line_of _ _ (number-local line_of fixed_of) (λ x.
    bind-local line_of _ _ (number-local line_of fixed_of) (λ y.
    bind-local line_of _ _ (number-local line_of fixed_of) (λ z.
    give-local line_of (record { number = n; at = x ∷ y ∷ z ∷ [] })))))

nodes_after-local : (earlier : List ℕ) (n : ℕ) → IsLocal line_of (nodes_after earlier n)
unfolding nodes_after
nodes_after-local earlier zero = give-local line_of []
nodes_after-local earlier (suc n) = bind-local line_of _ _ (node-local earlier) (λ first.
    bind-local line_of _ _ (nodes_after-local (first.number ∷ earlier) n) (λ others.
    give-local line_of (first ∷ others)))

pub nodes-local : IsLocal line_of nodes
unfolding nodes
nodes-local = bind-local line_of _ _ (count-local 500000 what.Nodes) (λ n. nodes_after-local [] n)

corner-told : (known earlier : List ℕ) (l n : ℕ) (e : MshFault) → cond (has_number known n) (ok_where (not (has_number earlier n)) n (RepeatedNode l n)) (Err (UnknownNode l n)) ≡ Err e → line_of e ≡ l
corner-told known earlier l n e h = go (has_number known n) h
  where
    go : (b : Bool) → cond b (ok_where (not (has_number earlier n)) n (RepeatedNode l n)) (Err (UnknownNode l n)) ≡ Err e → line_of e ≡ l
    go true g = ok_where-err line_of (not (has_number earlier n)) n (RepeatedNode l n) e g
    go false g = let same : UnknownNode l n ≡ e = cc g in ap line_of (sym same)

corners-local : (known earlier : List ℕ) (n : ℕ) → IsLocal line_of (corners_after known earlier n)
corners-local known earlier zero = give-local line_of []
corners-local known earlier (suc n) = bind-local line_of _ _ (tested-local line_of uint_of (λ line n. cond (has_number known n) (ok_where (not (has_number earlier n)) n (RepeatedNode line n)) (Err (UnknownNode line n))) (corner-told known earlier)) (λ first.
    bind-local line_of _ _ (corners-local known (first ∷ earlier) n) (λ others.
    give-local line_of (first ∷ others)))

element-local : (known : List ℕ) → IsLocal line_of (element known)
unfolding element
element-local known = bind-local line_of _ _ (number-local line_of uint_of) (λ n.
    bind-local line_of _ _ (checked-local line_of uint_of (λ k. is_some (poly_of_type k)) (λ line k. ElementType line k) (λ l x. refl)) (λ kind.
    bind-local line_of _ _ (number-local line_of uint_of) (λ tag_count.
    bind-local line_of _ _ (many-local line_of int tag_count (number-local line_of int_of)) (λ tags.
    bind-local line_of _ _ (corners-local known [] (corners_of_type kind)) (λ corners.
    give-local line_of _)))))

pub elements-local : (known : List ℕ) → IsLocal line_of (elements known)
unfolding elements
elements-local known = bind-local line_of _ _ (count-local 1000000 what.Elements) (λ n. many-local line_of (element known) n (element-local known))

-- ---- data sections

comps-told : (l : ℕ) (x : ℤ) (e : DataFault) → comps_on l x ≡ Err e → data_line_of e ≡ l
comps-told l (pos n) e h = ok_where-err data_line_of ((n == 1) || (n == 3) || (n == 9)) n (data_fault.Components l n) e h
comps-told l (negsuc n) e h = let same : data_fault.Components l 0 ≡ e = cc h in ap data_line_of (sym same)

rows-told : (l : ℕ) (x : ℤ) (e : DataFault) → rows_on l x ≡ Err e → data_line_of e ≡ l
rows-told l (pos n) e h = absurd (cc h)
rows-told l (negsuc n) e h = let same : data_fault.BadCount l ≡ e = cc h in ap data_line_of (sym same)

row-local : (known : List ℕ) (comps : ℕ) → IsLocal data_line_of (row known comps)
unfolding row
row-local known comps = bind-local data_line_of _ _ (checked-local data_line_of uint_of (has_number known) (λ line n. data_fault.UnknownNumber line n) (λ l x. refl)) (λ n.
    bind-local data_line_of _ _ (many-local data_line_of fixed comps (number-local data_line_of fixed_of)) (λ values.
    give-local data_line_of (record { number = n; values = values })))

pub section-local : (on : Place) (known : List ℕ) → IsLocal data_line_of (section on known)
unfolding section
section-local on known = bind-local data_line_of _ _ (number-local data_line_of uint_of) (λ string_count.
    bind-local data_line_of _ _ (many-local data_line_of quoted string_count (quoted-local data_line_of)) (λ strings.
    bind-local data_line_of _ _ (number-local data_line_of uint_of) (λ real_count.
    bind-local data_line_of _ _ (many-local data_line_of real real_count (number-local data_line_of (λ token. ok_or (decimal_of token) numbers.NotNumber))) (λ reals.
    bind-local data_line_of _ _ (checked-local data_line_of uint_of (λ n. nat_le 3 n) (λ line n. data_fault.BadCount line) (λ l x. refl)) (λ int_count.
    bind-local data_line_of _ _ (number-local data_line_of int_of) (λ step.
    bind-local data_line_of _ _ (tested-local data_line_of int_of comps_on comps-told) (λ comps.
    bind-local data_line_of _ _ (tested-local data_line_of int_of rows_on rows-told) (λ row_count.
    bind-local data_line_of _ _ (many-local data_line_of int (int_count - 3) (number-local data_line_of int_of)) (λ further.
    bind-local data_line_of _ _ (many-local data_line_of (row known comps) row_count (row-local known comps)) (λ rows.
    give-local data_line_of _))))))))))

-- ---- the faults of bodies tell their lines

pub msh-tell : (ended : MshFault) → TellLines line_of (faults_of ended)
msh-tell ended = record { number = lines; name = λ l. refl }
  where
    lines : (e : NumberFault) (l : ℕ) → line_of (section_number_fault e l) ≡ l
    lines numbers.NotNumber l = refl
    lines numbers.OutOfRange l = refl

pub data-tell : (end : ℕ) → TellLines data_line_of (faults_at end)
data-tell end = record { number = lines; name = λ l. refl }
  where
    lines : (e : NumberFault) (l : ℕ) → data_line_of (data_number_fault e l) ≡ l
    lines numbers.NotNumber l = refl
    lines numbers.OutOfRange l = refl
