-- What the contracts of this crate's functions say beyond `format` and `tokenizer`.
pub mod Stores
pub mod Turns
