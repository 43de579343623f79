-- Laws that this crate's proofs cite.
pub mod CheckLaws
pub mod BlockLaws
pub mod WriteLaws
