-- Laws that this crate's proofs cite.
pub mod PlaceLaws
pub mod FindLaws
pub mod TestLaws
