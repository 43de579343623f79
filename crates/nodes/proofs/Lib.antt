-- Laws that this crate's proofs and those above it cite.
pub mod KindLaws
pub mod StampLaws
pub mod NamedLaws
pub mod PartLaws
