-- Laws that this crate's proofs cite.
pub mod MeasureLaws
pub mod BoundLaws
