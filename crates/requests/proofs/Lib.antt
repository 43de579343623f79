-- Laws that this crate's proofs, and those of mending, cite.
pub mod RequestLaws
