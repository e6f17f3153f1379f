pub mod Spelled
pub mod Groups
pub mod Parts
pub mod Sources
mod PageSteps
pub mod WindowSteps
pub mod SinkSteps
pub mod SentParts
