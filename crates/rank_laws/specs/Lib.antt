pub mod diagram_laws
pub mod cell_laws
pub mod share_laws
pub mod orient_laws
pub mod reach_laws
pub mod keyed_laws
pub mod layer_laws
