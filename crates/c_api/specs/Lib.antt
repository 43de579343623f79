-- What the contracts of this crate's functions say beyond `format`.
pub mod Lent
