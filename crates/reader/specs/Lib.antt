-- What the contracts of this crate's own functions say beyond `format`.
pub mod Counting
pub mod Filling
