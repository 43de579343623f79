-- Laws that this crate's proofs cite.
pub mod CountLaws
pub mod ReadLaws
pub mod FillLaws
pub mod FileLaws
