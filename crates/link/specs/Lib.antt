-- The definitions that the contracts of the crate cite, each after those that it builds on.
pub mod Refusals
pub mod Settings
pub mod Characters
pub mod Control
pub mod Outer
pub mod Cut
pub mod Framed
pub mod Claims
