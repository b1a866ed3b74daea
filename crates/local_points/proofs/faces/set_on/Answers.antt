use Rattle.std.proofs.Common.{◌≡◌, [], ◌∷◌, ◌++◌, length, sym, ap, ◌∙◌, subst, arith}
use Rattle.std.specs.Prelude.{◌==◌}
use Rattle.std.specs.List.{list_any}
use Rattle.plain_lists.specs.Lists.{sorted}
use Rattle.local_points.specs.Stored.{no_vertex, IsSetOn}
use Rattle.local_points.proofs.Arrays.{three-of, four-of}
use Rattle.local_points.proofs.Padding.{all-low, not-low, on-none, triangle-tells, quad-tells}
use Rattle.local_points.proofs.faces.set_on.Goals as goal

pub returns-then-contains-clause-none : goal.returns-then-contains-clause-none
returns-then-contains-clause-none c =
    let has : c.contains.result ≡ list_any (λ v. v == no_vertex) c.args.vertices.now = c.contains.ensures.value in
    λ _. on-none c.args.vertices.now (λ is. not-low c.args.vertices.now (sym has ∙ c.if-contains.true) is.low)

pub returns-in-len3-clause-some : goal.returns-in-len3-clause-some
returns-in-len3-clause-some c =
    let vs = c.args.vertices.now in
    let has : c.contains.result ≡ list_any (λ v. v == no_vertex) vs = c.contains.ensures.value in
    let low = all-low vs (λ i. omega (arith, c.type_inv.vertices i)) (sym has ∙ c.if-contains.false) in
    let three : length vs ≡ 3 = omega (arith, c.in-len3.len_at_least, c.in-len3.len_below) in
    subst (λ t. IsSetOn t vs) (ap (λ l. sorted (l ++ no_vertex ∷ [])) (three-of vs three) ∙ sym c.rising_four.ensures) (triangle-tells vs three low)

pub returns-in-len4-clause-some : goal.returns-in-len4-clause-some
returns-in-len4-clause-some c =
    let vs = c.args.vertices.now in
    let has : c.contains.result ≡ list_any (λ v. v == no_vertex) vs = c.contains.ensures.value in
    let low = all-low vs (λ i. omega (arith, c.type_inv.vertices i)) (sym has ∙ c.if-contains.false) in
    let four : length vs ≡ 4 = omega (arith, c.in-len4.len_at_least, c.in-len4.len_below) in
    subst (λ t. IsSetOn t vs) (ap sorted (four-of vs four) ∙ sym c.rising_four-in-len4.ensures) (quad-tells vs four low)

pub returns-in_default-clause-none : goal.returns-in_default-clause-none
returns-in_default-clause-none c = λ _. on-none c.args.vertices.now (λ is. omega (arith, is.least, c.in_default.len_below))

pub returns-in_default-2-clause-none : goal.returns-in_default-2-clause-none
returns-in_default-2-clause-none c = λ _. on-none c.args.vertices.now (λ is. omega (arith, is.most, c.in_default.len_at_least))
