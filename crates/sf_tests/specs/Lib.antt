pub mod OneRoot
pub mod meet_tests
pub mod state_tests
