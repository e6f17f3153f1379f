pub mod CommandLines
pub mod ExitStatuses
pub mod Inputs
pub mod Questions
