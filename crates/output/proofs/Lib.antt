-- Laws that this crate's proofs, and those of the crates that put bytes, cite.
pub mod PutLaws
pub mod DigitLaws
pub mod FileLaws
