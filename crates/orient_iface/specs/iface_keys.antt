pub use Rattle.rank_chart_laws.specs.key_laws.Keys
