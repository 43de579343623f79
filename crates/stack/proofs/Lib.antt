-- Laws of the kinds on a stack that this crate's proofs and those above it cite.
pub mod KindLaws
