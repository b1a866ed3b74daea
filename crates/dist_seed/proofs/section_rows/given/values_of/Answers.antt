use Rattle.std.proofs.Common.{◌≡◌, ◌<◌, ◌≤◌, length, get_or, slice_index, refl, arith, subst, sym}
use Rattle.std.proofs.lemmas.List.{get_or_read}
use Rattle.plain_lists.proofs.Each.{all_at}
use Rattle.dist_seed.proofs.section_rows.Rowing.{numbers-more}
use Rattle.dist_seed.proofs.section_rows.given.values_of.Goals as goal

pub push_row-requires : goal.push_row-requires
push_row-requires c =
    let table = c.args.table.now.places.items in
    let numbers = c.args.numbers.now in
    let n = get_or numbers c.loop-n.n-index 0 in
    let low : n < length table = all_at (λ k. k < length table) numbers c.loop-n.n-index 0 c.requires.numbers c.loop-n-test.true in
    let is : c.index.result.now ≡ slice_index table n = get_or_read table n c.index.result.now low c.index.ensures 0 in
    let within = c.requires.table.within n low in
    omega (arith, is, within)

pub loop-n-preserved : goal.loop-n-preserved
loop-n-preserved c =
    let table = c.args.table.now.places.items in
    let numbers = c.args.numbers.now in
    let n = get_or numbers c.loop-n.n-index 0 in
    let low : n < length table = all_at (λ k. k < length table) numbers c.loop-n.n-index 0 c.requires.numbers c.loop-n-test.true in
    let is : c.index.result.now ≡ slice_index table n = get_or_read table n c.index.result.now low c.index.ensures 0 in
    numbers-more c.args.rows.now.rows (length table) table c.loop-n.lists c.push_row.new.lists numbers c.loop-n.n-index n c.index.result.now c.requires.table c.loop-n-test.true refl low is c.loop-n.invariant c.in_ok-push_row.ensures
