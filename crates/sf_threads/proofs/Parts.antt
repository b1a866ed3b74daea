-- The first rank and those after it.
use Rattle.std.proofs.Common.{◌≡◌, ℕ, ◌+◌, List, [], ◌∷◌, ◌++◌, length, map, sym, ap, ◌∙◌, arith}
use Rattle.std.specs.List.{sum_by}
use Rattle.std.specs.declared.vec.Vec.{Vec}
use Rattle.std.specs.declared.alloc.Global.{Global}
use Rattle.std.proofs.lemmas.List.{length-append, take_at, drop_at}
use Rattle.std.proofs.lemmas.List.Sums.{sum_by-cons}
use Rattle.plain_lists.specs.Vectors.{lists_of}
use Rattle.sf_fabric.specs.Cut.{shared}
use Rattle.sf_defs.specs.declared.Ask.{Ask}
use Rattle.atomic_table.specs.Table.{Me}
use Rattle.sf_threads.specs.declared.thread_rule.view.View.{View}
use Rattle.sf_threads.specs.thread_rule.Rule.{view, joined}
use Rattle.sf_threads.specs.Doing.{dones, all_dones}

-- values shared out to the first rank and to the others
shared-first : (own : List Ask) (asks : List (List Ask)) (mine theirs : List ℕ) → length mine ≡ length own → shared (map length (own ∷ asks)) (mine ++ theirs) ≡ mine ∷ shared (map length asks) theirs
shared-first own asks mine theirs h = (λ i. take_at mine theirs (length own) h i ∷ shared (map length asks) (drop_at mine theirs (length own) h i))

-- as many values as asks
pub got-after : (mine theirs : List ℕ) (own : Vec Ask Global) (asked : List Ask) (others asks : List (Vec Ask Global))
    → length mine ≡ length asked → asked ≡ own.items → length theirs ≡ sum_by length (lists_of others) → asks ≡ own ∷ others → length (mine ++ theirs) ≡ sum_by length (lists_of asks)
got-after mine theirs own asked others asks many same rest all =
    let first : length mine ≡ length own.items = many ∙ ap length same in
    let both : length (mine ++ theirs) ≡ sum_by length (own.items ∷ lists_of others) = omega (arith, length-append mine theirs, first, rest, sum_by-cons length own.items (lists_of others)) in
    both ∙ ap (λ (l : List (Vec Ask Global)). sum_by length (lists_of l)) (sym all)

-- what both have done, put together
pub both-done : (first : ℕ) (mine theirs : List ℕ) (own : Vec Ask Global) (asked : List Ask) (others asks : List (Vec Ask Global)) (v w : Me (Unit {0}) View)
    → length mine ≡ length asked → asked ≡ own.items → asks ≡ own ∷ others
    → v ≡ (view first (first + 1) (dones first asked mine), []) → w ≡ (view (first + 1) (first + 1 + length others) (all_dones (first + 1) (lists_of others) (shared (map length (lists_of others)) theirs)), [])
    → ◌≡◌ {A = Me (Unit {0}) View} (joined v.0 w.0, v.1) (view first (first + length asks) (all_dones first (lists_of asks) (shared (map length (lists_of asks)) (mine ++ theirs))), [])
both-done first mine theirs own asked others asks v w many same all done rest =
    let count : length asks ≡ length others + 1 = ap length all ∙ omega arith in
    let end : first + 1 + length others ≡ first + length asks = omega (arith, count) in
    let got : shared (map length (own.items ∷ lists_of others)) (mine ++ theirs) ≡ mine ∷ shared (map length (lists_of others)) theirs = shared-first own.items (lists_of others) mine theirs (many ∙ ap length same) in
    let both : ◌≡◌ {A = Me (Unit {0}) View} (joined v.0 w.0, v.1) (view first (first + length asks) (dones first own.items mine ++ all_dones (first + 1) (lists_of others) (shared (map length (lists_of others)) theirs)), []) =
    (λ i. (joined (done i).0 (rest i).0, (done i).1)) ∙ (λ i. (view first (end i) (dones first (same i) mine ++ all_dones (first + 1) (lists_of others) (shared (map length (lists_of others)) theirs)), [])) in
    both ∙ (λ i. (view first (first + length asks) (all_dones first (own.items ∷ lists_of others) (sym got i)), []))
    ∙ (λ i. (view first (first + length asks) (all_dones first (lists_of (sym all i)) (shared (map length (lists_of (sym all i))) (mine ++ theirs))), []))
