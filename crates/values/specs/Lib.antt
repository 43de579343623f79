-- What the contracts of this crate's functions say beyond `format`.
pub mod Runs
pub mod Numbers
pub mod Times
pub mod Tokens
