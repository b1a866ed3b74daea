pub mod Lines
pub mod FormLemmas
pub mod FitLemmas
pub mod Takes
pub mod Loop
pub mod AheadLemmas
