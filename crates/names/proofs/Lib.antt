-- The laws of the choice.
pub mod NameLaws
