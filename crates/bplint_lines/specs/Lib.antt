pub mod Answers
pub mod Explanation
pub mod FaultLines
pub mod Faults
pub mod MemberNames
pub mod OutputLines
pub mod RawFaults
pub mod Texts
