use Rattle.std.proofs.Common.{◌≡◌, ℕ, ◌-◌, [], map}
use Rattle.input_defs.specs.Content.{Node}
use Rattle.input_defs.specs.Sections.{has_number, node}
use Rattle.input_laws.specs.reading_laws.Going.{onto}
use Rattle.msh_reader.specs.Going.{Resumes}
use Rattle.msh_reader.specs.NumberSets.{numbers_of}
use Rattle.msh_reader.specs.Views.{node_views, node_numbers}
use Rattle.msh_reader.proofs.nodes.nodes.Given as goal

abbrev pub invariant-loop : goal.invariant-loop
invariant-loop l = record {
  left : Resumes (onto (λ b. node (map (λ (x : Node). x.number) b)) [] l.count) l.initial.scan (onto (λ b. node (map (λ (x : Node). x.number) b)) (node_views l.nodes.items) (l.count - l.counter)) l.scan;
  knows : (n : ℕ) → has_number (numbers_of l.numbers) n ≡ has_number (node_numbers l.nodes.items) n;
}
