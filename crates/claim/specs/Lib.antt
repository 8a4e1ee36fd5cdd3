pub mod Rules
pub mod Claim
pub mod Step
pub mod Laws
