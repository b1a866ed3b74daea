pub mod Some
pub mod orient_tests
pub mod local_points_tests
