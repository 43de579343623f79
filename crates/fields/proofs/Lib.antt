-- Laws that this crate's proofs, and those of the crates that read fields, cite.
pub mod NumberLaws
pub mod EscapeLaws
