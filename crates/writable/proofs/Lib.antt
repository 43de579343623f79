-- Laws that this crate's proofs cite.
pub mod TextLaws
pub mod FaultLaws
