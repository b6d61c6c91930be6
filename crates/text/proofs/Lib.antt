pub mod Texts
pub mod InverseLaws
pub mod Settled
pub mod Determined
