-- Laws that this crate's proofs cite.
pub mod RowLaws
pub mod AcceptLaws
