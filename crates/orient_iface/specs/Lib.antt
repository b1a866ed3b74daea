pub mod Faults
pub mod Drawn
pub mod iface_keys
pub mod iface_arrangements
pub mod iface_twist
pub mod dist_assembly
pub mod moved_points
