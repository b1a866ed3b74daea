pub mod HomeForest
