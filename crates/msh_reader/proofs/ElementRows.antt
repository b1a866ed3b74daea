-- Elements: one of them as it is read, and their nodes one after the other.
use Rattle.std.proofs.Common.{◌≡◌, ℕ, zero, suc, ◌+◌, ◌<◌, ◌≤◌, List, [], ◌∷◌, ◌++◌, length, take, drop, get_or, Ok, Some, refl, sym, ap, ◌∙◌, pos, zero-add, add-zero, arith}
use Rattle.std.specs.Prelude.{sum_by, is_some}
use Rattle.std.specs.List.{slice_get}
use Rattle.std.proofs.lemmas.List.{length-append, length-drop, take-append-drop}
use Rattle.std.proofs.lemmas.List.Sums.{sum_by-cons, sum_by_push}
use Rattle.input_defs.specs.scan_defs.Items.{Spot}
use Rattle.input_defs.specs.scan_defs.Numbers.{uint_of}
use Rattle.input_defs.specs.declared.MshFault.{MshFault}
use Rattle.input_defs.specs.declared.MshFault.TheVariants.{ElementType, NotMsh}
use Rattle.input_defs.specs.Content.{Element}
use Rattle.input_defs.specs.Causes.{ok_where}
use Rattle.input_defs.specs.Bodies.{Reader, give, ◌>>=◌, tested, uint, int}
use Rattle.input_defs.specs.Sections.{faults_of, poly_of_type, corners_of_type, corner, corners_after, element}
use Rattle.input_laws.specs.reading_laws.Lexemes.{lexemes}
use Rattle.input_laws.specs.reading_laws.Going.{first_of, onto}
use Rattle.input_laws.proofs.reading_laws.Readers.{bind-same, bind-pull, first-used, onto-length}
use Rattle.msh_reader.specs.declared.element_list.FileElement.{FileElement}
use Rattle.msh_reader.specs.Going.{Goes}
use Rattle.msh_reader.specs.Views.{width, element_view, element_views, LieInOrder, AreLaidOut, LiesAfter, physical}
use Rattle.plex_base.specs.FlatRows.{with_rows}
use Rattle.plex_base.proofs.FlatRows.{rows-push, rows-get}
use Rattle.msh_reader.proofs.Earlier.{corners-onto}

abbrev element_type : Reader MshFault ℕ
element_type = tested uint_of (λ line n. ok_where (is_some (poly_of_type n)) n (ElementType line n))

-- an element, as it is read
abbrev pub read_element : List ℕ → Reader MshFault Element
read_element known = do
  number ← uint
  kind ← tested uint_of (λ line n. ok_where (is_some (poly_of_type n)) n (ElementType line n))
  tag ← physical
  corners ← onto (corner known) [] (corners_of_type kind)
  give (record { number = number; kind = kind; physical = tag; nodes = corners })

pub element-read : (known : List ℕ) → element known ≡ read_element known
unfolding element physical
element-read known =
    bind-same uint (λ number. bind-same element_type (λ kind.
    bind-pull uint (λ count. first_of (pos 0) count int) (λ tag. onto (corner known) [] (corners_of_type kind) >>= (λ corners. give (record { number = number; kind = kind; physical = tag; nodes = corners }))) (λ count.
    first-used (pos 0) int count (λ tag. corners_after known [] (corners_of_type kind) >>= (λ corners. give (record { number = number; kind = kind; physical = tag; nodes = corners })))
    ∙ bind-same (first_of (pos 0) count int) (λ tag. ap (λ (r : Reader MshFault (List ℕ)). r >>= (λ corners. give (record { number = number; kind = kind; physical = tag; nodes = corners }))) (corners-onto known (corners_of_type kind))))))

-- as many corners as were asked for
pub corners-count : (known : List ℕ) (n : ℕ) (old new : Spot) (xs : List ℕ) → Goes (onto (corner known) [] n) old (Ok xs) new → length xs ≡ n
corners-count known n old new xs first = onto-length (corner known) [] n (faults_of (NotMsh 0)) (lexemes old) (lexemes new) xs (first.reads (NotMsh 0)) ∙ zero-add n

-- ---- one element more

order-more : (start : ℕ) (es : List FileElement) (e : FileElement) → LieInOrder start es → e.start ≡ start + sum_by width es → LieInOrder start (es ++ e ∷ [])
order-more start [] e all at = (at ∙ add-zero start, tt)
order-more start (x ∷ es) e all at = let sums = sum_by-cons width x es in (all.0, order-more (start + width x) es e all.1 (omega (arith, at, sums)))

pub laid-more : (es : List FileElement) (e : FileElement) (old new : List ℕ) → AreLaidOut es old → LiesAfter e old new → AreLaidOut (es ++ e ∷ []) new
laid-more es e old new laid lies =
    let sums = sum_by_push width es e in
    let sum = laid.sum in
    let start = lies.start in
    let count = lies.count in
    record { order = order-more 0 es e laid.order (omega (arith, sum, start)); sum = omega (arith, sums, sum, count) }

-- what was put after others
pub after-count : (old new : List ℕ) (n : ℕ) → take (length old) new ≡ old → length (drop (length old) new) ≡ n → length new ≡ length old + n
after-count old new n front rest =
    let both = length-append (take (length old) new) (drop (length old) new) in
    let all = ap length (take-append-drop (length old) new) in
    let first = ap length front in
    omega (arith, both, all, first, rest)

pub views-more : (es : List FileElement) (e : FileElement) (old new : List ℕ) → AreLaidOut es old → LiesAfter e old new → take (length old) new ≡ old
    → element_views (es ++ e ∷ []) new ≡ element_views es old ++ element_view e (drop (length old) new) ∷ []
views-more es e old new laid lies front =
    let count = lies.count in
    let wide : length (drop (length old) new) ≡ width e = length-drop (length old) new ∙ omega (arith, count) in
    ap (element_views (es ++ e ∷ [])) (sym (take-append-drop (length old) new) ∙ ap (λ xs. xs ++ drop (length old) new) front)
    ∙ rows-push width element_view es old e (drop (length old) new) laid.sum wide

pub laid-none : AreLaidOut [] []
laid-none = record { order = tt; sum = refl }

pub views-none : element_views [] [] ≡ []
unfolding with_rows
views-none = refl

-- where the nodes of an element begin, and that they are there
pub order-at : (start : ℕ) (es : List FileElement) (i : ℕ) (d : FileElement) → LieInOrder start es → i < length es → (get_or es i d).start ≡ start + sum_by width (take i es)
order-at start [] i d all below = absurd (omega arith)
order-at start (e ∷ es) zero d all below = all.0 ∙ sym (add-zero start)
order-at start (e ∷ es) (suc i) d all below = let sums = sum_by-cons width e (take i es) in order-at (start + width e) es i d all.1 (omega arith) ∙ omega (arith, sums)

sum-within : (es : List FileElement) (i : ℕ) (d : FileElement) → i < length es → sum_by width (take i es) + width (get_or es i d) ≤ sum_by width es
sum-within [] i d below = absurd (omega arith)
sum-within (e ∷ es) zero d below = let sums = sum_by-cons width e es in omega (arith, sums)
sum-within (e ∷ es) (suc i) d below = let sums = sum_by-cons width e es in let before = sum_by-cons width e (take i es) in let rest = sum-within es i d (omega arith) in omega (arith, sums, before, rest)

pub nodes-within : (es : List FileElement) (corners : List ℕ) (i : ℕ) (d : FileElement) → AreLaidOut es corners → i < length es → (get_or es i d).start + width (get_or es i d) ≤ length corners
nodes-within es corners i d laid below = let at = order-at 0 es i d laid.order below in let rest = sum-within es i d below in let sum = laid.sum in omega (arith, at, rest, sum)

-- the element at a place
pub element-at : (es : List FileElement) (corners : List ℕ) (i : ℕ) (d : FileElement) → AreLaidOut es corners → i < length es
    → slice_get (element_views es corners) i ≡ Some (element_view (get_or es i d) (take (width (get_or es i d)) (drop (get_or es i d).start corners)))
element-at es corners i d laid below = rows-get width element_view es corners i d below ∙ ap (λ n. Some (element_view (get_or es i d) (take (width (get_or es i d)) (drop n corners)))) (sym (order-at 0 es i d laid.order below ∙ zero-add (sum_by width (take i es))))
