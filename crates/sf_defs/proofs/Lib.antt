pub mod RoundRows
pub mod ForestRows
