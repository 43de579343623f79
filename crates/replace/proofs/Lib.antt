-- Laws that this crate's proofs cite.
pub mod FileLaws
pub mod CheckLaws
