-- Handing out roots' values, rank by rank.
use Rattle.std.proofs.Common.{◌≡◌, ℕ, ◌+◌, ◌<◌, ◌≤◌, List, [], length, map, get_or, set, ◌==◌, option_map, arith, refl, ap, sym, subst, ◌∙◌, ⊎_elim}
use Rattle.std.specs.List.{find}
use Rattle.std.proofs.lemmas.Bool.{cases_lt}
use Rattle.std.proofs.lemmas.List.{map-set, get_or-set_same, get_or-set_other, get_or_past}
use Rattle.std.proofs.Math.Seq.{map-set_same}
use Rattle.std.specs.declared.vec.Vec.{Vec}
use Rattle.std.specs.declared.alloc.Global.{Global}
use Rattle.plain_lists.specs.Vectors.{lists_of}
use Rattle.sf_defs.specs.declared.Leaf.{Leaf}
use Rattle.sf_defs.specs.Forest.{Forest, leaves_on, root_at, root_of}
use Rattle.sf_ops.specs.Copies.{AreCopies, handed, value_or}
use Rattle.sf_ops.proofs.Words.{lists_of-at, length-lists_of}
use Rattle.sf_ops.proofs.Loads.{root_value, handed_values}

-- the leaves of the ranks before rank k have their roots' values, those of the others what they had
pub record IsHandedOut (f : Forest) (roots : List (List ℕ)) (initial now : List (Vec ℕ Global)) (k : ℕ) : Type 0 where
  pub shape : map length (lists_of now) ≡ map length (lists_of initial)
  pub done : (rank local : ℕ) → rank < k → get_or (get_or (lists_of now) rank []) local 0 ≡ value_or roots (get_or (get_or (lists_of initial) rank []) local 0) (root_of f rank local)
  pub rest : (rank : ℕ) → k ≤ rank → get_or (lists_of now) rank [] ≡ get_or (lists_of initial) rank []

-- nothing is handed out yet
pub IsHandedOut-none : (f : Forest) (roots : List (List ℕ)) (initial : List (Vec ℕ Global)) → IsHandedOut f roots initial initial 0
IsHandedOut-none f roots initial = record { shape = refl; done = λ rank local h. absurd (omega arith); rest = λ rank h. refl }

-- one rank more
pub IsHandedOut-more : (f : Forest) (roots : List (List ℕ)) (initial now : List (Vec ℕ Global)) (k : ℕ) (v own : Vec ℕ Global) (got : List ℕ) → IsHandedOut f roots initial now k → k < length now → got ≡ map (root_value roots) (leaves_on f k) → length own.items ≡ length (get_or now k v).items → ((local : ℕ) → get_or own.items local 0 ≡ handed (leaves_on f k) got (get_or (get_or now k v).items local 0) local) → IsHandedOut f roots initial (set now k own) (k + 1)
unfolding root_of
IsHandedOut-more f roots initial now k v own got s within fetched size values = record {
  shape = ap (map length) lists ∙ (map-set_same length (lists_of now) k own.items [] (size ∙ sym (ap length (lists_of-at now k v within))) ∙ s.shape);
  done = λ rank local h. ⊎_elim (λ before. earlier rank local before) (λ not_before. let same : k ≡ rank = omega arith in subst (λ (m : ℕ). get_or (get_or (lists_of (set now k own)) m []) local 0 ≡ value_or roots (get_or (get_or (lists_of initial) m []) local 0) (root_of f m local)) same (here local)) (cases_lt rank k);
  rest = λ rank h. ap (λ (ls : List (List ℕ)). get_or ls rank []) lists ∙ (get_or-set_other (lists_of now) k rank own.items [] (λ e. omega arith) ∙ s.rest rank (omega arith));
}
  where
    lists : lists_of (set now k own) ≡ set (lists_of now) k own.items
    lists = map-set (λ (u : Vec ℕ Global). u.items) now k own

    earlier : (rank local : ℕ) → rank < k → get_or (get_or (lists_of (set now k own)) rank []) local 0 ≡ value_or roots (get_or (get_or (lists_of initial) rank []) local 0) (root_of f rank local)
    earlier rank local h = ap (λ (ls : List (List ℕ)). get_or (get_or ls rank []) local 0) lists ∙ (ap (λ (l : List ℕ). get_or l local 0) (get_or-set_other (lists_of now) k rank own.items [] (λ e. omega arith)) ∙ s.done rank local h)

    old : (get_or now k v).items ≡ get_or (lists_of initial) k []
    old = sym (lists_of-at now k v within) ∙ s.rest k (omega arith)

    here : (local : ℕ) → get_or (get_or (lists_of (set now k own)) k []) local 0 ≡ value_or roots (get_or (get_or (lists_of initial) k []) local 0) (root_of f k local)
    here local = ap (λ (ls : List (List ℕ)). get_or (get_or ls k []) local 0) lists
        ∙ (ap (λ (l : List ℕ). get_or l local 0) (get_or-set_same (lists_of now) k own.items [] (subst (λ (n : ℕ). k < n) (sym (length-lists_of now)) within))
        ∙ (values local
        ∙ (ap (λ (g : List ℕ). handed (leaves_on f k) g (get_or (get_or now k v).items local 0) local) fetched
        ∙ (ap (λ (l : List ℕ). handed (leaves_on f k) (map (root_value roots) (leaves_on f k)) (get_or l local 0) local) old
        ∙ handed_values roots (leaves_on f k) (get_or (get_or (lists_of initial) k []) local 0) local))))

-- all ranks have their copies
pub IsHandedOut-all : (f : Forest) (roots : List (List ℕ)) (initial now : List (Vec ℕ Global)) (k : ℕ) → IsHandedOut f roots initial now k → length f.leaves ≤ k → AreCopies f roots (lists_of initial) (lists_of now)
unfolding root_of
IsHandedOut-all f roots initial now k s end rank local = ⊎_elim
    (λ before. s.done rank local before)
    (λ past. ap (λ (l : List ℕ). get_or l local 0) (s.rest rank past) ∙ ap (λ (ls : List Leaf). value_or roots (get_or (get_or (lists_of initial) rank []) local 0) (option_map root_at (find (λ (l : Leaf). l.local == local) ls))) (sym (get_or_past f.leaves rank [] (omega arith))))
    (cases_lt rank k)
