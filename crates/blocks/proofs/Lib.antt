-- Laws that this crate's proofs cite.
pub mod LineLaws
pub mod BlockLaws
pub mod ItemLaws
pub mod NothingLaws
pub mod WalkLaws
