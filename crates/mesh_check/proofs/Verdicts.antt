-- Whether a content stands for a mesh, cause by cause.
use Rattle.std.proofs.Common.{◌≡◌, ℕ, ◌<◌, ◌≤◌, length, Option, Some, None, Ok, Err, sym, ap, ◌∙◌, nat_lt}
use Rattle.std.specs.Prelude.{IfSome, IfNone}
use Rattle.std.proofs.lemmas.Bool.{cond-true, cond-false, lt-ltb, le-ltb}
use Rattle.input_defs.specs.Content.{Content}
use Rattle.input_defs.specs.declared.MeshFault.{MeshFault}
use Rattle.input_defs.specs.declared.MeshFault.TheVariants.{NoCells, TooManyCells}
use Rattle.input_defs.specs.Causes.{unless}
use Rattle.input_defs.specs.Meshes.{greatest_dim, cell_elements, mesh_of, twist, accepted}

pub refused-low : (c : Content) (n : ℕ) → n ≡ greatest_dim c → n < 2 → accepted c ≡ Err (NoCells n)
unfolding accepted
refused-low c n is low = cond-true (nat_lt (greatest_dim c) 2) _ _ (ap (λ k. nat_lt k 2) (sym is) ∙ lt-ltb n 2 low) ∙ ap (λ k. Err (NoCells k)) (sym is)

pub refused-many : (c : Content) (n : ℕ) → n ≡ greatest_dim c → 2 ≤ n → 250000 < length (cell_elements c) → accepted c ≡ Err TooManyCells
unfolding accepted
refused-many c n is high many = cond-false (nat_lt (greatest_dim c) 2) _ _ (ap (λ k. nat_lt k 2) (sym is) ∙ le-ltb n 2 high) ∙ cond-true (nat_lt 250000 (length (cell_elements c))) _ _ (lt-ltb 250000 (length (cell_elements c)) many)

judged : (c : Content) (n : ℕ) → n ≡ greatest_dim c → 2 ≤ n → length (cell_elements c) ≤ 250000 → accepted c ≡ unless (twist c) (mesh_of c)
unfolding accepted
judged c n is high few = cond-false (nat_lt (greatest_dim c) 2) _ _ (ap (λ k. nat_lt k 2) (sym is) ∙ le-ltb n 2 high) ∙ cond-false (nat_lt 250000 (length (cell_elements c))) _ _ (le-ltb 250000 (length (cell_elements c)) few)

pub judged-some : (c : Content) (n : ℕ) (o : Option MeshFault) → n ≡ greatest_dim c → 2 ≤ n → length (cell_elements c) ≤ 250000 → o ≡ twist c → IfSome o (λ fault. accepted c ≡ Err fault)
judged-some c n (Some fault) is high few same = judged c n is high few ∙ ap (λ o. unless o (mesh_of c)) (sym same)
judged-some c n None is high few same = tt

pub judged-none : (c : Content) (n : ℕ) (o : Option MeshFault) → n ≡ greatest_dim c → 2 ≤ n → length (cell_elements c) ≤ 250000 → o ≡ twist c → IfNone o (accepted c ≡ Ok (mesh_of c))
judged-none c n (Some fault) is high few same = tt
judged-none c n None is high few same = judged c n is high few ∙ ap (λ o. unless o (mesh_of c)) (sym same)
