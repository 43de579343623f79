-- What the contract of this crate says beyond `format`.
pub mod Names
