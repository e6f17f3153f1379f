pub mod WriteSteps
pub mod WalkSteps
mod SearchSteps
mod PrintSteps
