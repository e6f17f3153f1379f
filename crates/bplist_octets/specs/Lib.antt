pub mod Octets
pub mod Meaning
pub mod Slices
pub mod Streams
pub mod Pages
pub mod Sending
pub mod FaultLines
