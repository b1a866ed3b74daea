pub mod Known
pub mod rank_points
pub mod point_meeting
pub mod part_labels
pub mod part_weights
pub mod part_fields
pub mod rank_fields
pub mod own_field_laws
