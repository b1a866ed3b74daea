use Rattle.std.proofs.Common.{◌≡◌, ◌∙◌, ◌<◌, ◌^◌, ℕ, get_or, length, rules, arith}
use Rattle.std.proofs.lemmas.List.{length-map}
use Rattle.plain_lists.specs.Vectors.{lists_of}
use Rattle.sf_count.proofs.Conditions.{meets}
use Rattle.sf_count.proofs.round.round_of.Goals as goal

pub run-requires : goal.run-requires
run-requires g c =
    let count : length (lists_of c.in_ok-asks.asks.items) ≡ c.args.size.ranks = length-map c.in_ok-asks.asks.items (λ v. v.items) ∙ c.in_ok-asks.ensures.ranks in
    let small : (w : ℕ) → get_or c.in_ok-values.values.items w 0 < 2 ^ 64 = search rules in
    let words : length c.in_ok-values.values.items ≡ c.args.size.words = search rules in
    let some = c.requires.0 in
    let most = c.requires.1.0 in
    meets c.args.size.words c.in_ok-values.values.items (lists_of c.in_ok-asks.asks.items) words (search rules) small (omega arith) (omega arith) c.in_ok-asks.ensures.asks
