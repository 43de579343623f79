-- Laws that the functions' proofs cite.
pub mod NameLaws
pub mod KnownLaws
