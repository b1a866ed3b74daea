use Rattle.std.proofs.Common.{◌≡◌, ℕ, ◌+◌, ◌<◌, List, [], length, get_or, sym, ap, ◌∙◌, subst, arith}
use Rattle.std.proofs.lemmas.List.{get_or_read}
use Rattle.local_points.specs.Rows.{rows}
use Rattle.local_points.proofs.Rows.{length-rows, entry-within, entry-at}
use Rattle.local_points.proofs.entries.Entries.get.Goals as goal

pub index-requires : goal.index-requires
index-requires c =
    omega (arith, ap length c.self.view_is, length-rows c.self.inside.places.items c.self.inside.firsts.items)

pub overflow_add-index : goal.overflow_add-index
overflow_add-index c =
    let places = c.self.inside.places.items in
    let firsts = c.self.inside.firsts.items in
    let rows-are : rows places firsts ≡ c.args.self.now = c.self.view_is in
    let row : c.args.i < length (rows places firsts) = subst (λ (l : List (List ℕ)). c.args.i < length l) (sym rows-are) c.requires.cell in
    let entry : c.args.j < length (get_or (rows places firsts) c.args.i []) = subst (λ (l : List (List ℕ)). c.args.j < length (get_or l c.args.i [])) (sym rows-are) c.requires.entry in
    let place : c.args.i < length firsts = omega (arith, row, length-rows places firsts) in
    let first : c.index.result.now ≡ get_or firsts c.args.i 0 = get_or_read firsts c.args.i c.index.result.now place c.index.ensures 0 in
    omega (arith, entry-within places firsts c.args.i c.args.j row entry, first, c.self.inside.places.small)

pub index-requires-2 : goal.index-requires-2
index-requires-2 c =
    let places = c.self.inside.places.items in
    let firsts = c.self.inside.firsts.items in
    let rows-are : rows places firsts ≡ c.args.self.now = c.self.view_is in
    let row : c.args.i < length (rows places firsts) = subst (λ (l : List (List ℕ)). c.args.i < length l) (sym rows-are) c.requires.cell in
    let entry : c.args.j < length (get_or (rows places firsts) c.args.i []) = subst (λ (l : List (List ℕ)). c.args.j < length (get_or l c.args.i [])) (sym rows-are) c.requires.entry in
    let place : c.args.i < length firsts = omega (arith, row, length-rows places firsts) in
    let first : c.index.result.now ≡ get_or firsts c.args.i 0 = get_or_read firsts c.args.i c.index.result.now place c.index.ensures 0 in
    omega (arith, entry-within places firsts c.args.i c.args.j row entry, first)

pub returns : goal.returns
returns c =
    let places = c.self.inside.places.items in
    let firsts = c.self.inside.firsts.items in
    let rows-are : rows places firsts ≡ c.args.self.now = c.self.view_is in
    let row : c.args.i < length (rows places firsts) = subst (λ (l : List (List ℕ)). c.args.i < length l) (sym rows-are) c.requires.cell in
    let entry : c.args.j < length (get_or (rows places firsts) c.args.i []) = subst (λ (l : List (List ℕ)). c.args.j < length (get_or l c.args.i [])) (sym rows-are) c.requires.entry in
    let place : c.args.i < length firsts = omega (arith, row, length-rows places firsts) in
    let first : c.index.result.now ≡ get_or firsts c.args.i 0 = get_or_read firsts c.args.i c.index.result.now place c.index.ensures 0 in
    let within : c.index.result.now + c.args.j < length places = omega (arith, entry-within places firsts c.args.i c.args.j row entry, first) in
    get_or_read places (c.index.result.now + c.args.j) c.index-2.result.now within c.index-2.ensures 0
    ∙ ap (λ n. get_or places (n + c.args.j) 0) first
    ∙ sym (entry-at places firsts c.args.i c.args.j 0 row entry)
    ∙ ap (λ (l : List (List ℕ)). get_or (get_or l c.args.i []) c.args.j 0) rows-are
