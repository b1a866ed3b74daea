-- Readers that are handed the numbers of what was read before, and of nodes and corners in particular.
use Rattle.std.proofs.Common.{◌≡◌, ℕ, zero, suc, List, [], ◌∷◌, ◌++◌, map, Bool, refl, sym, ap, ◌∙◌, append_assoc}
use Rattle.std.proofs.lemmas.List.{append-nil}
use Rattle.std.proofs.Math.Path.{fun_ext}
use Rattle.input_defs.specs.declared.MshFault.{MshFault}
use Rattle.input_defs.specs.declared.MshFault.TheVariants.{OutOfRange, RepeatedNodeNumber, RepeatedNode, UnknownNode}
use Rattle.input_defs.specs.Content.{Node}
use Rattle.input_defs.specs.Causes.{ok_where}
use Rattle.std.specs.Prelude.{not, if◌then◌else◌, ◌==◌, Err}
use Rattle.input_defs.specs.scan_defs.Numbers.{uint_of}
use Rattle.input_defs.specs.Bodies.{Reader, give, ◌>>=◌, tested, fixed}
use Rattle.input_defs.specs.Sections.{has_number, node, nodes_after, corner, corners_after}
use Rattle.input_laws.specs.reading_laws.Going.{onto}
use Rattle.input_laws.proofs.reading_laws.Readers.{bind-same, bind-assoc, bind-give}
use Rattle.msh_reader.proofs.NumberSets.{tested-same, has-more}

-- the same numbers are in two lists
abbrev pub SameNumbers : List ℕ → List ℕ → Type 0
SameNumbers a b = (n : ℕ) → has_number a n ≡ has_number b n

map-more : {A : Type 0} (key : A → ℕ) (xs : List A) (x : A) → map key (xs ++ x ∷ []) ≡ map key xs ++ key x ∷ []
map-more key [] x = refl
map-more key (y ∷ xs) x = ap (λ zs. key y ∷ zs) (map-more key xs x)

-- Readers one after the other, of which each is handed the numbers of the earlier ones, last first: the same as readers that are
-- handed all that was read.
pub after-onto : {A : Type 0} (after : List ℕ → ℕ → Reader MshFault (List A)) (r : List ℕ → Reader MshFault A) (key : A → ℕ)
    → ((earlier : List ℕ) → after earlier zero ≡ give [])
    → ((earlier : List ℕ) (n : ℕ) → after earlier (suc n) ≡ (r earlier >>= (λ x. after (key x ∷ earlier) n >>= (λ xs. give (x ∷ xs)))))
    → ((a b : List ℕ) → SameNumbers a b → r a ≡ r b)
    → (before : List A) (earlier : List ℕ) (n : ℕ) → SameNumbers earlier (map key before)
    → (after earlier n >>= (λ xs. give (before ++ xs))) ≡ onto (λ b. r (map key b)) before n
after-onto {A} after r key done step alike before earlier zero knows =
    ap (λ (s : Reader MshFault (List A)). s >>= (λ xs. give (before ++ xs))) (done earlier) ∙ ap give (append-nil before)
after-onto {A} after r key done step alike before earlier (suc n) knows =
    ap (λ (s : Reader MshFault (List A)). s >>= (λ xs. give (before ++ xs))) (step earlier n)
    ∙ bind-assoc (r earlier) (λ x. after (key x ∷ earlier) n >>= (λ xs. give (x ∷ xs))) (λ xs. give (before ++ xs))
    ∙ ap (λ (s : Reader MshFault A). s >>= (λ x. (after (key x ∷ earlier) n >>= (λ xs. give (x ∷ xs))) >>= (λ xs. give (before ++ xs)))) (alike earlier (map key before) knows)
    ∙ bind-same (r (map key before)) (λ x.
    bind-assoc (after (key x ∷ earlier) n) (λ xs. give (x ∷ xs)) (λ xs. give (before ++ xs))
    ∙ bind-same (after (key x ∷ earlier) n) (λ xs. ap give (sym (append_assoc before (x ∷ []) xs)))
    ∙ after-onto after r key done step alike (before ++ x ∷ []) (key x ∷ earlier) n (λ m. has-more earlier (map key before) (key x) knows m ∙ ap (λ ys. has_number ys m) (sym (map-more key before x))))

-- ---- nodes

pub node-same : (a b : List ℕ) → SameNumbers a b → node a ≡ node b
unfolding node
node-same a b each = tested-same (λ (has : ℕ → Bool). tested uint_of (λ line n. if n == 0 then Err (OutOfRange line) else ok_where (not (has n)) n (RepeatedNodeNumber line n)) >>= (λ number. fixed >>= (λ x. fixed >>= (λ y. fixed >>= (λ z. give (record { number = number; at = x ∷ y ∷ z ∷ [] })))))) a b each

nodes-none : (earlier : List ℕ) → nodes_after earlier zero ≡ give []
unfolding nodes_after
nodes-none earlier = refl

nodes-more : (earlier : List ℕ) (n : ℕ) → nodes_after earlier (suc n) ≡ (node earlier >>= (λ x. nodes_after (x.number ∷ earlier) n >>= (λ xs. give (x ∷ xs))))
unfolding nodes_after
nodes-more earlier n = refl

pub nodes-onto : (n : ℕ) → nodes_after [] n ≡ onto (λ b. node (map (λ (x : Node). x.number) b)) [] n
nodes-onto n = sym (bind-give (nodes_after [] n)) ∙ after-onto nodes_after node (λ x. x.number) nodes-none nodes-more node-same [] [] n (λ m. refl)

-- ---- corners of an element

corner-same : (known : List ℕ) (a b : List ℕ) → SameNumbers a b → corner known a ≡ corner known b
corner-same known a b each = tested-same (λ (has : ℕ → Bool). tested uint_of (λ line n. if has_number known n then ok_where (not (has n)) n (RepeatedNode line n) else Err (UnknownNode line n))) a b each

map-itself : (xs : List ℕ) → map (λ x. x) xs ≡ xs
map-itself [] = refl
map-itself (x ∷ xs) = ap (λ ys. x ∷ ys) (map-itself xs)

pub corners-onto : (known : List ℕ) (n : ℕ) → corners_after known [] n ≡ onto (corner known) [] n
corners-onto known n =
    sym (bind-give (corners_after known [] n))
    ∙ after-onto (corners_after known) (corner known) (λ x. x) (λ e. refl) (λ e m. refl) (corner-same known) [] [] n (λ m. refl)
    ∙ ap (λ (r : List ℕ → Reader MshFault ℕ). onto r [] n) (fun_ext (λ b. ap (corner known) (map-itself b)))
