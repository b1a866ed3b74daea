-- One rank after the other: what is at hand of the next one.
use Rattle.std.proofs.Common.{◌≡◌, ℕ, ◌+◌, ◌<◌, List, [], ◌∷◌, length, get_or, drop, Vec, Global, sym, ap, ◌∙◌, arith}
use Rattle.std.proofs.lemmas.List.{drop_more, length-drop}
use Rattle.plain_lists.specs.Vectors.{lists_of}
use Rattle.rank_chart_laws.proofs.meeting_laws.Loops.{list_at}
use Rattle.rank_cones.specs.rank_drawings.Told.{PlainDrawing}

-- of rank r its drawing, its keys and its moves
pub record AtHand (ds : List PlainDrawing) (keys moves : List (List ℕ)) (r : ℕ) (d : PlainDrawing) (own_keys own_moves : List ℕ) : Type 0 where
  pub low : r < length ds
  pub drawing : d ≡ get_or ds r d
  pub keys_are : own_keys ≡ get_or keys r []
  pub moves_are : own_moves ≡ get_or moves r []

-- the next of what is left is the next of the whole
pub next-low : {X : Type 0} (xs rest : List X) (k : ℕ) (x : X) → drop k xs ≡ x ∷ rest → k < length xs
next-low xs rest k x next = omega (arith, ap length next, length-drop k xs)

pub next-is : {X : Type 0} (xs rest : List X) (k : ℕ) (x : X) → drop k xs ≡ x ∷ rest → (x ≡ get_or xs k x) × (rest ≡ drop (k + 1) xs)
next-is xs rest k x next =
    let both : x ∷ rest ≡ get_or xs k x ∷ drop (k + 1) xs = sym next ∙ drop_more xs k x (next-low xs rest k x next) in
    (cc both, cc both)

-- a list in a vector of vectors, where it is read
own-list : (vs : List (Vec ℕ Global)) (r : ℕ) (v : Vec ℕ Global) (own : List ℕ) → r < length vs → v ≡ get_or vs r v → own ≡ v.items → own ≡ get_or (lists_of vs) r []
own-list vs r v own low there is = is ∙ ap (λ (w : Vec ℕ Global). w.items) there ∙ sym (list_at vs r v low)

pub at-hand : (ds rest : List PlainDrawing) (vs ws : List (Vec ℕ Global)) (r k : ℕ) (d : PlainDrawing) (v w : Vec ℕ Global) (own_keys own_moves : List ℕ)
    → r ≡ k → drop k ds ≡ d ∷ rest → r < length vs → r < length ws → v ≡ get_or vs r v → w ≡ get_or ws r w → own_keys ≡ v.items → own_moves ≡ w.items → AtHand ds (lists_of vs) (lists_of ws) r d own_keys own_moves
at-hand ds rest vs ws r k d v w own_keys own_moves rank next low_v low_w there_v there_w is_v is_w = record {
  low = omega (arith, rank, next-low ds rest k d next);
  drawing = (next-is ds rest k d next).0 ∙ ap (λ i. get_or ds i d) (sym rank);
  keys_are = own-list vs r v own_keys low_v there_v is_v;
  moves_are = own-list ws r w own_moves low_w there_w is_w;
}
