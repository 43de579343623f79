-- Laws that this crate's proofs, and those of the crates that hand out strings, cite.
pub mod StoreLaws
pub mod TextLaws
pub mod TurnLaws
