-- Laws of the tokenizer that this crate's proofs and those above it cite.
pub mod Strings
pub mod Tags
pub mod Spans
pub mod Promises
pub mod HandedOut
