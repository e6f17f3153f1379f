pub mod BoundedWrites
pub mod Walks
pub mod FormlessSearch
pub mod Printed
pub mod Prelude
pub mod FormLines
